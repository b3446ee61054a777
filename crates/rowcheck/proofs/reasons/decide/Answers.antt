-- The lengths due are those of the definitions, and small.
use Rattle.std.proofs.Common.{◌≡◌, ◌∙◌, ◌≤◌, arith, length}
use Rattle.field.specs.Primes.{rows-power}
use Rattle.circuit.specs.Buffers.{selectors_length, labels_length, witness_length}
use Rattle.rowcheck.proofs.reasons.decide.Goals as goal

pub decide_filled-requires-clause-countable : goal.decide_filled-requires-clause-countable
decide_filled-requires-clause-countable c = λ lent.
    let a = c.args in
    let lengths = lent.lengths ∙ c.rows-due.ensures in
    let small : a.n ≤ 1024 = (rows-power _ _ lent.admissible.rows).small in
    let least : a.l ≤ a.n = lent.publics_few in
    let s : length a.selectors.now ≡ selectors_length a.n = cc lengths in
    let b : length a.labels.now ≡ labels_length a.n = cc lengths in
    let w : length a.witness.now ≡ witness_length a.n = cc lengths in
    let x : length a.publics.now ≡ a.l = cc lengths in
    let z : length a.z.now ≡ a.n = cc lengths in
    let h : length a.challenges.now ≡ 2 = cc lengths in
    record { selectors_long = s; labels_few = omega arith; numbers_few = omega arith }
