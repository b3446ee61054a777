-- What the functions between the sheet's numbers and the text ask and promise.
--
-- Lays e           what the prover's part promises: its answer, and the transcript where it accepts
-- Judgeable e      what the point check has to be lent: elements, and as many as are due
-- Checkable e      the same with the circuit in place of the prepared circuit
-- Workable e       two rows up to 256, as many challenges as a sheet has, which are elements, no blinders where e is 0, and a buffer of the text's length
-- judged_from      the point verdict on a transcript, for the prepared circuit of lent selectors and labels
-- checked_text e   the lines of a transcript, and of the verdict on it
-- THEOREMS
-- work_reasons     the prover's reasons see no more of transcript and scratch than their lengths
-- work_laid        where none of them applies there is a transcript: the text of an accepted call is never that of a refusal
-- lays_of, laid_of   what the prover promises is Lays; what is laid where the answer's number is 0
-- checkable_of     the transcript that an accepted call laid can be judged
-- proved_text_lem, refused_text_lem   the text of an accepted call, and of a refused one, is the text of the definitions
-- prepared_of, judged_of              what `prepare` and `check_point` promise of buffers that they do not turn down
-- judgeable_of     what can be judged with a circuit can be with the prepared circuit
-- laid_lines       its lines can be put
--
-- The number e is 1 where the transcript is blinded, and 0 where it is not.
-- Assumes nothing.
use Rattle.std.specs.Prelude.{◌≡◌, refl, ◌≢◌, true, cond, ℕ, ◌≤◌, length, get_or, take, replicate, Some, None}
use Rattle.std.proofs.Common.{sym, ◌∙◌, arith, get_or-take}
use Rattle.std.proofs.Math.Path.{ap}
use Rattle.std.proofs.Math.Bool.{false}
use mathlib.Core.List.{List, [], ◌++◌}
use Rattle.std.proofs.Math.Option.{some}
use Rattle.std.proofs.lemmas.List.{length-replicate}
use borrow.Author.Tests.{eq-eqb, ne_eqb}
use Rattle.algebra.specs.Polynomial.{Elements}
use Rattle.field.specs.Fields.{Admissible}
use Rattle.field.specs.Primes.{rows-power}
use Rattle.field.proofs.Domain.{domain}
use Rattle.field.specs.Reasons.{Answer, Outcome, answer_of, is_accepted}
use Rattle.transform.specs.Transform.{scratch_length}
use Rattle.circuit.specs.Circuit.{lent_constraints, lent_public, lent_witness}
use Rattle.circuit.specs.Buffers.{prepared_length, transcript_length, work_length}
use Rattle.circuit.specs.Parts.{blinded_of}
use Rattle.circuit.specs.RightlyLent.{RightCircuit, prepare_taken, point_taken}
use Rattle.protocol.specs.Protocol.{prepared, proved, PointVerdict, accept, reject, point_verdict, prove_reasons}
use Rattle.protocol.specs.Layout.{prepared_elements, proved_elements}
use Rattle.protocol.specs.GrandProduct.{grand_product, proved-laid}
use Rattle.preparing.specs.Promises.{Prepares}
use Rattle.pointcheck.specs.declared.Judged.{Judged}
use Rattle.pointcheck.specs.Promises.{judged_as, judged_at, PointChecks}
use Rattle.witnesses.specs.Accepted.{Accepted, accepted_of}
use Rattle.prover.specs.Promises.{proved_from, Proves}
use Rattle.text.specs.Text.{refused_text}
use Rattle.sheet.specs.Sheet.{challenge_count}
use Rattle.archive.specs.Printed.{judged_text, verdict_text, transcript_text, text_length, work_answer_with, work_answer, work_transcript, work_text_with, work_text}
use Rattle.archive.specs.Lines.{Laid}

pub record Lays (e p n l : ℕ) (selectors labels witness publics challenges blinders transcript : List ℕ) (r : Answer) (transcript' : List ℕ) : Type 0 where
  pub answer : r ≡ work_answer e p n l selectors labels witness publics challenges blinders
  pub lays : some transcript' ≡ cond (is_accepted r) (proved_from e p n selectors labels witness publics (take 3 challenges) blinders) (some transcript)

pub record Judgeable (e p n l : ℕ) (publics prepared transcript challenges : List ℕ) : Type 0 where
  pub blinded : e ≤ 1
  pub few : n ≤ 256
  pub admissible : Admissible p n
  pub publics_few : l ≤ n
  pub publics-right : Elements p l publics
  pub prepared-right : Elements p (prepared_length n) prepared
  pub transcript-right : Elements p (transcript_length e n) transcript
  pub challenges_right : Elements p challenge_count challenges

pub record Checkable (e p n l : ℕ) (selectors labels publics transcript challenges : List ℕ) : Type 0 where
  pub blinded : e ≤ 1
  pub few : n ≤ 256
  pub admissible : Admissible p n
  pub circuit-right : RightCircuit p n l selectors labels
  pub publics-right : Elements p l publics
  pub transcript-right : Elements p (transcript_length e n) transcript
  pub challenges_right : Elements p challenge_count challenges

pub record Workable (e p n : ℕ) (challenges blinders text : List ℕ) : Type 0 where
  pub blinded : e ≤ 1
  pub unblinded : e ≡ 0 → blinders ≡ []
  pub some : 2 ≤ n
  pub few : n ≤ 256
  pub challenges_right : Elements p challenge_count challenges
  pub room : length text ≡ text_length

abbrev pub judged_from : ℕ → ℕ → List ℕ → List ℕ → List ℕ → List ℕ → List ℕ → Judged
judged_from p n selectors labels publics transcript challenges =
    judged_at p n publics (prepared p n (lent_constraints n selectors labels)) transcript challenges

abbrev pub checked_text : ℕ → ℕ → ℕ → List ℕ → List ℕ → List ℕ → List ℕ → List ℕ → List ℕ
checked_text e p n selectors labels publics transcript challenges =
    transcript_text e n transcript ++ judged_text (judged_from p n selectors labels publics transcript challenges)

-- THEOREMS

pub work_reasons : (e p n l : ℕ) (selectors labels witness publics transcript challenges blinders scratch : List ℕ)
    → length transcript ≡ transcript_length e n → length scratch ≡ work_length e n
    → answer_of (prove_reasons e p n l selectors labels witness publics transcript (take 3 challenges) blinders scratch)
    ≡ work_answer e p n l selectors labels witness publics challenges blinders
unfolding work_answer_with
work_reasons e p n l selectors labels witness publics transcript challenges blinders scratch f g =
    rw (f, g, length-replicate {A = ℕ} (transcript_length e n) 0, length-replicate {A = ℕ} (work_length e n) 0)

judged_verdict : (v : PointVerdict) → judged_text (judged_as v) ≡ verdict_text v
judged_verdict accept = refl
judged_verdict reject = refl

module _ (e p n l : ℕ) (selectors labels witness publics challenges blinders : List ℕ) where
  pub lays_of : (transcript scratch : List ℕ) (r : Answer) (transcript' scratch' : List ℕ)
      → length transcript ≡ transcript_length e n → length scratch ≡ work_length e n
      → Proves e p n l selectors labels witness publics transcript (take 3 challenges) blinders scratch r transcript' scratch'
      → Lays e p n l selectors labels witness publics challenges blinders transcript r transcript'
  lays_of transcript scratch r transcript' scratch' f g P =
      record {
        answer = P.answer ∙ work_reasons e p n l selectors labels witness publics transcript challenges blinders scratch f g;
        lays = P.lays;
      }

  accepted : e ≤ 1 → (e ≡ 0 → blinders ≡ []) → (work_answer e p n l selectors labels witness publics challenges blinders).number ≡ 0
      → Accepted e p n l selectors labels witness publics (replicate (transcript_length e n) 0) (take 3 challenges) blinders (replicate (work_length e n) 0)
  unfolding work_answer_with
  accepted small none is = accepted_of e p n l selectors labels witness publics _ (take 3 challenges) blinders _ small none is

  -- the challenges of the prover are the first three
  first_three : (T : List ℕ) → proved_from e p n selectors labels witness publics (take 3 challenges) blinders ≡ some T
      → proved e p n (lent_constraints n selectors labels) (lent_public publics) (lent_witness n witness) blinders (get_or challenges 0 0) (get_or challenges 1 0) (get_or challenges 2 0) ≡ some T
  first_three T is =
      rw (get_or-take 3 challenges 0 0 (omega arith), get_or-take 3 challenges 1 0 (omega arith), get_or-take 3 challenges 2 0 (omega arith)) at is

  pub work_laid : e ≤ 1 → (e ≡ 0 → blinders ≡ []) → (work_answer e p n l selectors labels witness publics challenges blinders).number ≡ 0
      → (T : List ℕ) × (work_transcript e p n l selectors labels witness publics challenges blinders ≡ some T)
  work_laid small none is =
      let A = accepted small none is in
      let g = grand_product (domain p n A.honest.admissible) _ _ _ _ A.no_zero in
      (_, taken _ (first_three _ (proved-laid e p n _ _ blinders _ _ g.0 g.1.is (lent_public publics) _)))
    where
      taken : (T : List ℕ)
          → proved e p n (lent_constraints n selectors labels) (lent_public publics) (lent_witness n witness) blinders (get_or challenges 0 0) (get_or challenges 1 0) (get_or challenges 2 0) ≡ some T
          → work_transcript e p n l selectors labels witness publics challenges blinders ≡ some T
      taken T laid = rw (eq-eqb (work_answer e p n l selectors labels witness publics challenges blinders).number 0 is) laid

  -- what is laid where the answer's number is 0
  pub laid_of : (transcript : List ℕ) (r : Answer) (transcript' : List ℕ)
      → Lays e p n l selectors labels witness publics challenges blinders transcript r transcript' → r.number ≡ 0
      → proved_from e p n selectors labels witness publics (take 3 challenges) blinders ≡ some transcript'
  laid_of transcript r transcript' L is =
      let yes : is_accepted r ≡ true = eq-eqb r.number 0 is in
      sym (rw yes at L.lays)

  -- an accepted call, and the transcript that it laid
  module _ (is : (work_answer e p n l selectors labels witness publics challenges blinders).number ≡ 0) (T : List ℕ)
      (laid : proved_from e p n selectors labels witness publics (take 3 challenges) blinders ≡ some T) where
    pub checkable_of : (text : List ℕ) → Workable e p n challenges blinders text → Checkable e p n l selectors labels publics T challenges
    checkable_of text W =
        let A = accepted W.blinded W.unblinded is in
        record {
          blinded = W.blinded;
          few = W.few;
          admissible = A.honest.admissible;
          circuit-right = A.honest.circuit-right;
          publics-right = A.honest.publics-right;
          transcript-right =
              proved_elements (domain p n A.honest.admissible) e (lent_constraints n selectors labels) (lent_public publics) (lent_witness n witness) blinders _ _ _ T
              (omega (arith, W.some))
              laid;
          challenges_right = W.challenges_right;
        }

    pub proved_text_lem : e ≤ 1 → length T ≡ transcript_length e n → checked_text e p n selectors labels publics T challenges ≡ work_text e p n l selectors labels witness publics challenges blinders
    unfolding work_text_with
    proved_text_lem small long =
        let verdict : PointVerdict =
        point_verdict e p n (prepared p n (lent_constraints n selectors labels)) (lent_public publics) T (get_or challenges 0 0) (get_or challenges 1 0) (get_or challenges 2 0) (get_or challenges 3 0) in
        rw (eq-eqb (work_answer e p n l selectors labels witness publics challenges blinders).number 0 is, work_text_with, first_three T laid, blinded_of e n T small long)
        (ap (λ (u : List ℕ). transcript_text e n T ++ u) (judged_verdict verdict))

  pub refused_text_lem : (r : Answer) → r ≡ work_answer e p n l selectors labels witness publics challenges blinders → r.number ≢ 0
      → refused_text r.number r.detail ≡ work_text e p n l selectors labels witness publics challenges blinders
  unfolding work_text_with
  refused_text_lem r is h =
      let no : is_accepted (work_answer e p n l selectors labels witness publics challenges blinders) ≡ false =
      ap is_accepted (sym is) ∙ ne_eqb r.number 0 h in
      rw (no, work_text_with, is)

pub prepared_of : {p n l : ℕ} (selectors labels written scratch : List ℕ) (r : Answer) (written' scratch' : List ℕ)
    → Admissible p n → RightCircuit p n l selectors labels → length written ≡ prepared_length n → length scratch ≡ scratch_length n
    → Prepares p n l selectors labels written scratch r written' scratch'
    → written' ≡ prepared p n (lent_constraints n selectors labels)
prepared_of {p} {n} {l} selectors labels written scratch r written' scratch' A C e f P =
    P.prepares
    ∙ ap (λ (a : Answer). cond (is_accepted a) (prepared p n (lent_constraints n selectors labels)) written)
    (P.answer ∙ prepare_taken A written scratch C e f)

pub judged_of : {e p n l : ℕ} {publics prepared transcript challenges : List ℕ} (scratch : List ℕ) (r : Outcome Judged) (scratch' : List ℕ)
    → Judgeable e p n l publics prepared transcript challenges → length scratch ≡ work_length e n
    → PointChecks p n l publics prepared transcript challenges scratch r scratch'
    → r.value ≡ Some (judged_at p n publics prepared transcript challenges)
judged_of {e} {p} {n} {l} {publics} {prepared} {transcript} {challenges} scratch r scratch' J long P =
    P.verdict
    ∙ ap (λ (a : Answer). cond (is_accepted a) (Some (judged_at p n publics prepared transcript challenges)) None)
    (P.answer ∙ point_taken J.admissible e scratch J.blinded J.publics_few J.publics-right J.prepared-right J.transcript-right J.challenges_right long)

pub judgeable_of : {e p n l : ℕ} {selectors labels publics transcript challenges : List ℕ}
    → Checkable e p n l selectors labels publics transcript challenges
    → Judgeable e p n l publics (prepared p n (lent_constraints n selectors labels)) transcript challenges
judgeable_of {e} {p} {n} {l} {selectors} {labels} {publics} {transcript} {challenges} K =
    record {
      blinded = K.blinded;
      few = K.few;
      admissible = K.admissible;
      publics_few = K.circuit-right.circuit.publics_few;
      publics-right = K.publics-right;
      prepared-right = prepared_elements (domain p n K.admissible) (lent_constraints n selectors labels);
      transcript-right = K.transcript-right;
      challenges_right = K.challenges_right;
    }

pub laid_lines : {e p n l : ℕ} {selectors labels publics transcript challenges : List ℕ} (text : List ℕ)
    → Checkable e p n l selectors labels publics transcript challenges → length text ≡ text_length → Laid e n transcript text
laid_lines {e} {p} {n} text K long =
    record { blinded = K.blinded; some = (rows-power p n K.admissible.rows).least; few = K.few; long = K.transcript-right.long; room = long }
