-- What an opening shows, about the calls' own answers: any that keep the calls' promises, Opens and ChecksOpening.
--
-- THE COUNT, e being 1 where the transcript is blinded, else 0
-- OpeningAccepts      a mixing number with which `check_opening`, lent these evaluations and some opening polynomial of 3n - 4 + 9e elements, answers Accept
-- few_mixtures        evaluations that are not all right: there are fewer such numbers than the list is long
-- AFTER AN ACCEPTED `open`
-- opened-accepted     after an accepted `open`, `check_opening` lent the same buffers answers Accept, whatever the point and m
--
-- The theorems stand in proofs/Answers.
-- Assumes nothing.
use Rattle.field.specs.Reasons.{Outcome}
use Rattle.std.specs.Prelude.{◌≡◌, List, [], ◌∷◌, ℕ, ◌<◌, Some}
use Rattle.algebra.specs.Polynomial.{Elements}
use Rattle.circuit.specs.Buffers.{opening_length}
use Rattle.pointcheck.specs.declared.Judged.{Judged}
use Rattle.pointcheck.specs.declared.Judged.TheVariants.{Accept}
use Rattle.opening.specs.Promises.{ChecksOpening}

-- THE COUNT

pub record OpeningAccepts (e p n : ℕ) (prepared transcript list evaluations : List ℕ) (point m : ℕ) : Type 0 where
  pub m_element : m < p
  pub opening : List ℕ
  pub opening_elements : Elements p (opening_length e n) opening
  pub scratch : List ℕ
  pub scratch' : List ℕ
  pub r : Outcome Judged
  pub checks : ChecksOpening p n prepared transcript list evaluations opening (point ∷ m ∷ []) scratch r scratch'
  pub accepts : r.value ≡ Some Accept
