-- The theorems that specs/Answers lists, with their proofs.
-- Assumes nothing.
use Rattle.std.specs.Prelude.{◌≡◌, ◌≢◌, true, false, List, ◌++◌, ℕ, ◌-◌, ◌<◌, length, get_or, replicate, Some}
use Rattle.std.proofs.Common.{sym, ap, ◌∙◌, arith, eq-eqb}
use Rattle.std.proofs.lemmas.List.{length-replicate}
use Rattle.algebra.specs.Lists.{All, AtMost}
use Rattle.algebra.specs.Polynomial.{Elements}
use Rattle.algebra.specs.Counting.{at_most_of}
use Rattle.algebra.specs.Tables.{all_append, all_left, all_right}
use Rattle.field.specs.Reasons.{Outcome, Answer, is_accepted}
use Rattle.circuit.specs.Buffers.{opening_length, work_length, blinded_by}
use Rattle.circuit.specs.Parts.{blinded_of}
use Rattle.protocol.specs.Protocol.{accept}
use Rattle.pointcheck.specs.declared.Judged.{Judged}
use Rattle.pointcheck.specs.declared.Judged.TheVariants.{Accept}
use Rattle.pointcheck.specs.Buffers.{Readable}
use Rattle.pointcheck.specs.Verdicts.{accept_of, answer_accept}
use Rattle.opening.specs.Opening.{evaluations_of, opening_of, opening_verdict}
use Rattle.opening.specs.Promises.{Opens, ChecksOpening}
use Rattle.opening.specs.RightlyLent.{LentRightly, opening_known, opening_taken}
use Rattle.opening.specs.Openings.{Openings}
use Rattle.opening.proofs.Openings.{openings}
use Rattle.opening.specs.Answers.{OpeningAccepts}

pub few_mixtures : (e p n : ℕ) (prepared transcript list : List ℕ) → Readable e p n prepared transcript
    → (point : ℕ) (evaluations : List ℕ) → Elements p (length list) evaluations → evaluations ≢ evaluations_of e p n prepared transcript list point
    → AtMost (length list - 1) (OpeningAccepts e p n prepared transcript list evaluations point)
few_mixtures e p n prepared transcript list R point evaluations E wrong =
    at_most_of ((openings e p n prepared transcript list R).sound point evaluations E wrong)
    (λ m h. record {
      m_element = h.m_element;
      opening = h.opening;
      opening_elements = h.opening_elements;
      accepted = rw (← blinded_of e n transcript R.blinded R.transcript_length_lem) (accept_of (is_accepted h.r.answer) _ (sym h.checks.verdict ∙ h.accepts));
    })
    (omega arith)

-- AFTER AN ACCEPTED `open`

module _ (p n : ℕ) (prepared transcript list evaluations opening challenges scratch : List ℕ) (r : Answer) (evaluations' opening' scratch' : List ℕ)
    (opens : Opens p n prepared transcript list evaluations opening challenges scratch r evaluations' opening' scratch') (taken : r.number ≡ 0) where
  was : LentRightly p n prepared transcript list evaluations opening challenges scratch × All (λ (x : ℕ). x < p) (prepared ++ (transcript ++ challenges))
  was = opening_known p n prepared transcript list evaluations opening challenges scratch false (sym (ap (λ (a : Answer). a.number) opens.answer) ∙ taken)

  abbrev known : LentRightly p n prepared transcript list evaluations opening challenges scratch
  known = was.0

  O : Openings (blinded_by n transcript) p n prepared transcript list
  O = openings (blinded_by n transcript) p n prepared transcript list known.checked.readable

  abbrev point : ℕ
  point = get_or challenges 0 0

  abbrev m : ℕ
  m = get_or challenges 1 0

  evaluated : evaluations' ≡ evaluations_of (blinded_by n transcript) p n prepared transcript list (get_or challenges 0 0)
  evaluated = rw (eq-eqb _ _ taken) at opens.evaluated

  opened : opening' ≡ opening_of (blinded_by n transcript) p n prepared transcript list (get_or challenges 0 0) (get_or challenges 1 0)
  opened = rw (eq-eqb _ _ taken) at opens.opened

  cleared : scratch' ≡ replicate (work_length (blinded_by n transcript) n) 0
  cleared = rw (eq-eqb _ _ taken) at opens.cleared

  right_evaluations : Elements p (length list) evaluations'
  right_evaluations = rw evaluated (O.evaluations_long point)

  right_opening : Elements p (opening_length (blinded_by n transcript) n) opening'
  right_opening = rw opened (O.opening_long point m)

  lent_again : LentRightly p n prepared transcript list evaluations' opening' challenges scratch'
  lent_again =
      record {
        checked = record {
          readable = known.checked.readable;
          evaluations_length = right_evaluations.long;
          opening_length_lem = right_opening.long;
          challenges_length = known.checked.challenges_length;
        };
        scratch_length_lem = ap length cleared ∙ length-replicate (work_length (blinded_by n transcript) n) 0;
        list_right = known.list_right;
      }

  elements : All (λ (x : ℕ). x < p) (prepared ++ (transcript ++ (evaluations' ++ (opening' ++ challenges))))
  elements =
      let P : ℕ → Type 0 = λ x. x < p in
      let later = all_right P prepared (transcript ++ challenges) was.1 in
      all_append P prepared _ (all_left P prepared (transcript ++ challenges) was.1)
      (all_append P transcript _ (all_left P transcript challenges later)
      (all_append P evaluations' _ right_evaluations.below (all_append P opening' _ right_opening.below (all_right P transcript challenges later))))

  pub opened-accepted : (s : Outcome Judged) (scratch'' : List ℕ)
      → ChecksOpening p n prepared transcript list evaluations' opening' challenges scratch' s scratch'' → s.value ≡ Some Accept
  opened-accepted s scratch'' checks =
      let answered : s.answer ≡ record { number = 0; detail = 0 } =
      checks.answer ∙ opening_taken p n prepared transcript list evaluations' opening' challenges scratch' true lent_again elements in
      let verdict : opening_verdict (blinded_by n transcript) p n prepared transcript list evaluations' opening' point m ≡ accept = rw (evaluated, opened) (O.complete point m) in
      checks.verdict ∙ answer_accept s.answer _ answered verdict
