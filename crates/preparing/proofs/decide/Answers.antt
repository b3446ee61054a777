-- Where the lengths are those due, there are few numbers.
use Rattle.std.proofs.Common.{◌≡◌, refl, [], ◌∷◌, ◌*◌, List, ℕ, arith, length}
use Rattle.field.specs.Lent.{ok_lent}
use Rattle.field.specs.Primes.{rows-power}
use Rattle.circuit.specs.Buffers.{selectors_length}
use Rattle.circuit.specs.Reasons.{prepare_due}
use Rattle.preparing.proofs.decide.Goals as goal

pub decide_numbers-requires : goal.decide_numbers-requires
decide_numbers-requires c =
    let a = c.args in
    let long : List ℕ = length a.selectors.now ∷ length a.labels.now ∷ length a.written.now ∷ length a.scratch.now ∷ [] in
    let lent = ok_lent a.p a.n a.l long (prepare_due a.n) [] c.prepare-due.ensures c.decide_lent.ensures c.in_ok-decide_lent.was refl in
    let selectors : length a.selectors.now ≡ selectors_length a.n = cc lent.lengths in
    let labels : length a.labels.now ≡ 3 * a.n = cc lent.lengths in
    let small = (rows-power _ _ lent.admissible.rows).small in
    record { n_bound = (small, omega (arith, lent.publics_few), omega arith); selectors_len = (selectors, omega arith) }
