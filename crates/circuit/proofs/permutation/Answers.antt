-- Where no reason applies, the labels are checked, and the permutation is filled in.
use Rattle.std.proofs.Common.{sym, ap, ◌∙◌}
use Rattle.field.specs.Reasons.{told}
use Rattle.field.specs.ReasonLaws.{ok_number}
use Rattle.circuit.proofs.Deciding.{checked}
use Rattle.circuit.proofs.permutation.Goals as goal

pub fill_permutation-requires : goal.fill_permutation-requires
fill_permutation-requires c =
    let known = checked _ _ _ _ (ok_number c.in_ok-decide.was c.decide.ensures) in
    (known.right, known.positions_length)

pub returns : goal.returns
returns c =
    let known = checked _ _ _ _ (ok_number c.in_ok-decide.was c.decide.ensures) in
    record { answer = sym (ap told c.in_ok-decide.was) ∙ c.decide.ensures; written = rw (← known.labels_length_lem) c.fill_permutation.ensures }
