-- The lengths that are lent and those that are due, where they are equal: the buffers are short.
use Rattle.std.proofs.Common.{◌≡◌, List, [], ◌∷◌, ◌++◌, ℕ, zero, suc, ◌+◌, ◌≤◌, length, take, replicate, ap, subst, ◌∙◌, arith}
use Rattle.field.specs.Primes.{rows-power}
use Rattle.circuit.specs.Buffers.{selectors_length, labels_length, witness_length, work_length}
use Rattle.circuit.specs.Reasons.{prove_due, prove_long}
use Rattle.witnesses.specs.Accepted.{behind_of}
use Rattle.witnesses.proofs.reasons.of_buffers.Goals as goal

-- the lengths that are lent, by cases on e
table : (e a b c d f g next scratch blinders : ℕ) → e ≤ 1 → take (1 + e) (next ∷ scratch ∷ []) ≡ replicate e blinders ++ (scratch ∷ [])
    → take (7 + e) (a ∷ b ∷ c ∷ d ∷ f ∷ g ∷ next ∷ scratch ∷ []) ≡ a ∷ b ∷ c ∷ d ∷ f ∷ g ∷ (replicate e blinders ++ (scratch ∷ []))
table zero a b c d f g next scratch blinders h u = cc
table (suc zero) a b c d f g next scratch blinders h u = cc
table (suc (suc e)) a b c d f g next scratch blinders h u = absurd (omega arith)

pub decide_filled-requires-clause-countable : goal.decide_filled-requires-clause-countable
decide_filled-requires-clause-countable c lent =
    let s = c.args in
    let long = c.counted.ensures ∙ table s.e _ _ _ _ _ _ _ _ _ c.requires.0 c.behind.ensures in
    let due = c.counted-2.ensures ∙ c.prove-due.ensures.0 in
    let all : List ℕ =
    prove_long s.e s.selectors.now s.labels.now s.witness.now s.publics.now s.transcript.now s.challenges.now s.blinders.now s.scratch.now
    in
    let same : all ≡ prove_due s.e s.n s.l =
    subst (λ (b : List ℕ). all ≡ b) due
    (subst (λ (a : List ℕ). a ≡ c.counted-2.result.now) long lent.lengths)
    in
    let selectors : length s.selectors.now ≡ selectors_length s.n = cc same in
    let labels : length s.labels.now ≡ labels_length s.n = cc same in
    let witness : length s.witness.now ≡ witness_length s.n = cc same in
    let publics : length s.publics.now ≡ s.l = cc same in
    let challenges : length s.challenges.now ≡ 3 = cc same in
    let none : s.e ≡ 0 → length s.blinders.now ≡ 0 = λ z. ap (λ (l : List ℕ). length l) (c.requires.1 z) in
    let blinders = (behind_of s.e (length s.blinders.now) (length s.scratch.now) (work_length s.e s.n) c.requires.0 none (cc same)).0 in
    let small : s.n ≤ 1024 = (rows-power _ _ lent.admissible.rows).small in
    let few : s.l ≤ s.n = lent.publics_few in
    record { selectors_long = selectors; labels_few = omega arith; numbers_few = omega (arith, blinders, c.requires.0) }
