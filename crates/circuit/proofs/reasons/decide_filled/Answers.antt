-- Where the lengths are those due, there are few numbers; the place of the first that is p or more is found buffer by buffer.
use Rattle.std.proofs.Common.{◌≡◌, refl, ap, ap₂, ◌∙◌, [], ◌∷◌, ◌++◌, append_assoc, ℕ, ◌+◌, List, arith, length, length-append}
use Rattle.field.specs.Lent.{Lent, ok_lent_later, ok_lent}
use Rattle.field.specs.Primes.{rows-power}
use Rattle.field.specs.Reasons.{Reason, answer_of, reason_at, first_above}
use Rattle.field.specs.ReasonLaws.{further}
use Rattle.circuit.specs.Reasons.{circuit_reasons, number_reasons}
use Rattle.circuit.specs.Countable.{Countable}
use Rattle.circuit.proofs.reasons.decide_filled.Goals as goal
use Rattle.circuit.proofs.reasons.decide_filled.Goals.{Start, In_ok-decide_lent}

-- the numbers of the first four buffers end to end, and of all five; the reasons behind those of the lengths
abbrev four : Start → List ℕ
four s = s.args.selectors.now ++ (s.args.witness.now ++ (s.args.publics.now ++ s.args.more.now))

abbrev five : Start → List ℕ
five s = s.args.selectors.now ++ (s.args.witness.now ++ (s.args.publics.now ++ (s.args.more.now ++ s.args.last.now)))

abbrev rest : Start → List Reason
rest s = number_reasons s.args.p s.args.n s.args.l (five s) s.args.selectors.now s.args.labels.now

long-four : (s : Start) → length s.args.selectors.now + length s.args.witness.now + length s.args.publics.now + length s.args.more.now ≡ length (four s)
long-four s = simp length-append (omega arith)

long-five : (s : Start) → length (four s) + length s.args.last.now ≡ length (five s)
long-five s = simp length-append (omega arith)

-- what is known past the first part
known : (c : In_ok-decide_lent) → Lent c.args.p c.args.n c.args.l c.args.long.now c.args.due.now
known c =
    let a = c.args in
    ok_lent a.p a.n a.l a.long.now a.due.now [] refl c.decide_lent.ensures c.in_ok-decide_lent.was c.requires.long_len.0

countable : (c : In_ok-decide_lent) → Countable c.args.n c.args.selectors.now c.args.labels.now c.args.witness.now c.args.publics.now c.args.more.now c.args.last.now
countable c = c.requires.countable (known c)

pub first_of_four-at-requires : goal.first_of_four-at-requires
first_of_four-at-requires c = omega (arith, (countable (goal.at.first_of_four-at-requires c).In_ok-decide_lent).numbers_few)

pub then_above-place-requires : goal.then_above-place-requires
then_above-place-requires c = omega (arith, (countable (goal.at.then_above-place-requires c).In_ok-decide_lent).numbers_few)

pub decide_numbers-requires : goal.decide_numbers-requires
decide_numbers-requires c =
    let ok = (goal.at.decide_numbers-requires c).In_ok-decide_lent in
    let lent = known ok in
    let few = countable ok in
    record {
      n_bound = ((rows-power _ _ lent.admissible.rows).small, lent.publics_few, few.numbers_few);
      selectors_len = (few.selectors_long, few.labels_few);
    }

pub returns : goal.returns
returns c =
    let s = (goal.at.returns c).Start in
    let a = c.args in
    let place : c.then_above-place.result ≡ first_above a.p (five s) =
    further a.p (four s) a.last.now _ _ _ c.first_of_four-at.ensures (long-four s) c.then_above-place.ensures ∙ ap (first_above a.p) (simp append_assoc) in
    ok_lent_later a.p a.n a.l a.long.now a.due.now (rest s) refl c.decide_lent.ensures c.in_ok-decide_lent.was
    (c.decide_numbers.ensures
    ∙ ap₂ (λ (at count : ℕ). answer_of (reason_at 7 at count ∷ circuit_reasons a.n a.l a.selectors.now a.labels.now)) place (ap (λ (k : ℕ). k + length a.last.now) (long-four s) ∙ long-five s))
