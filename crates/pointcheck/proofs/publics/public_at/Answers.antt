-- The polynomial is laid at the start of an array, which has room for it.
use Rattle.std.proofs.Common.{ℕ, arith}
use Rattle.std.proofs.lemmas.List.{length-take, length-drop, length-append}
use Rattle.pointcheck.proofs.Arithmetic.{small}
use Rattle.pointcheck.proofs.publics.public_at.Goals as goal

pub slice_bounds-public_polynomial-end : goal.slice_bounds-public_polynomial-end
slice_bounds-public_polynomial-end c =
    omega (arith, small _ _ c.requires.lent_publics.admissible, length-take {A = ℕ})

pub public_polynomial-requires-clause-xs_len : goal.public_polynomial-requires-clause-xs_len
public_polynomial-requires-clause-xs_len c =
    let few = small _ _ c.requires.lent_publics.admissible in (omega (arith, few, length-take {A = ℕ}), omega (arith, length-take {A = ℕ}))

pub slice_bounds-xs-end-2 : goal.slice_bounds-xs-end-2
slice_bounds-xs-end-2 c =
    omega (arith, small _ _ c.requires.lent_publics.admissible, length-append {A = ℕ}, length-drop {A = ℕ}, length-take {A = ℕ})

pub slice_bounds-horner-end : goal.slice_bounds-horner-end
slice_bounds-horner-end c =
    omega (arith, small _ _ c.requires.lent_publics.admissible, length-append {A = ℕ}, length-drop {A = ℕ}, length-take {A = ℕ})
