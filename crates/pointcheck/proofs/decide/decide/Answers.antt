-- Past the reasons of the lengths, the lengths are those due.
use Rattle.std.proofs.Common.{◌≡◌, [], ◌∷◌, ◌++◌, ◌∙◌, refl, ap, length, List, ℕ, arith}
use Rattle.field.specs.Primes.{rows-power}
use Rattle.field.specs.Reasons.{bad_element}
use Rattle.field.specs.Lent.{ok_lent}
use Rattle.circuit.specs.Buffers.{prepared_length, transcript_length, blinded_by}
use Rattle.circuit.specs.Parts.{blinded_most}
use Rattle.circuit.specs.Reasons.{point_due}
use Rattle.pointcheck.proofs.decide.decide.Goals as goal

pub numbers-requires : goal.numbers-requires
numbers-requires c =
    let s = c.args in
    let long : List ℕ = length s.publics.now ∷ length s.prepared.now ∷ length s.transcript.now ∷ length s.challenges.now ∷ length s.scratch.now ∷ [] in
    let due : List ℕ = point_due (blinded_by s.n s.transcript.now) s.n s.l in
    let is_due : c.point-due.result ≡ due = c.point-due.ensures ∙ ap (λ (e : ℕ). point_due e s.n s.l) c.blinded_by-e.ensures.0 in
    let lent = ok_lent s.p s.n s.l long due (bad_element s.p (s.publics.now ++ (s.prepared.now ++ (s.transcript.now ++ s.challenges.now))) ∷ [])
    is_due c.decide_lent.ensures c.in_ok-decide_lent.was refl in
    let publics : length s.publics.now ≡ s.l = cc lent.lengths in
    let prepared : length s.prepared.now ≡ prepared_length s.n = cc lent.lengths in
    let transcript : length s.transcript.now ≡ transcript_length (blinded_by s.n s.transcript.now) s.n = cc lent.lengths in
    let challenges : length s.challenges.now ≡ 4 = cc lent.lengths in
    omega (arith, (rows-power _ _ lent.admissible.rows).small, lent.publics_few, blinded_most s.n s.transcript.now)
