-- The place and the count are those of the buffers end to end.
use Rattle.std.proofs.Common.{◌≡◌, [], ◌∷◌, ◌++◌, ◌+◌, ◌∙◌, ap, ap₂, length, length-append, append_assoc, List, ℕ, arith}
use Rattle.field.specs.Reasons.{answer_of, reason_at, first_above}
use Rattle.field.specs.ReasonLaws.{further}
use Rattle.opening.proofs.decide.decide_elements.Goals as goal

pub returns : goal.returns
returns c =
    let a = c.args in
    let four : List ℕ = a.prepared.now ++ (a.transcript.now ++ (a.evaluations.now ++ a.opening.now)) in
    let all : List ℕ = a.prepared.now ++ (a.transcript.now ++ (a.evaluations.now ++ (a.opening.now ++ a.challenges.now))) in
    let passed = length a.prepared.now + length a.transcript.now + length a.evaluations.now + length a.opening.now in
    let long-four : passed ≡ length four = simp length-append (omega arith) in
    let long : passed + length a.challenges.now ≡ length all = simp length-append (omega arith) in
    let place : c.then_above-last.result ≡ first_above a.p all =
    further a.p four a.challenges.now _ _ _ c.first_of_four-at.ensures long-four c.then_above-last.ensures ∙ ap (first_above a.p) (simp append_assoc) in
    c.decide_at.ensures ∙ ap₂ (λ (at count : ℕ). answer_of (reason_at 7 at count ∷ [])) place long
