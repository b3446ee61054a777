-- Where the lengths are those due, there are few labels.
use Rattle.std.proofs.Common.{◌≡◌, refl, [], ◌∷◌, ℕ, ◌*◌, List, arith, length}
use Rattle.field.specs.Primes.{rows-power}
use Rattle.field.specs.Lent.{ok_lent}
use Rattle.circuit.specs.Reasons.{bad_label, permutation_due}
use Rattle.circuit.proofs.decide.Goals as goal

pub decide_labels-requires : goal.decide_labels-requires
decide_labels-requires c =
    let a = c.args in
    let long : List ℕ = length a.labels.now ∷ length a.positions.now ∷ [] in
    let lent = ok_lent a.p a.n 0 long (permutation_due a.n) (bad_label a.n a.labels.now ∷ []) c.permutation-due.ensures c.decide_lent.ensures c.in_ok-decide_lent.was refl in
    let labels : length a.labels.now ≡ 3 * a.n = cc lent.lengths in
    let small = (rows-power _ _ lent.admissible.rows).small in
    (small, omega arith)
