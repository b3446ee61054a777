-- What the two public calls of this crate promise, lent a transcript of either length. The challenges are the point, then m.
--
-- judged_opening     the verdict of `check_opening` on lent buffers, as the case of the answer's enum
-- Opens              what `open` promises of its answer r and of the lent evaluations, opening polynomial and scratch afterwards
-- ChecksOpening      what `check_opening` promises of its answer r and of the lent scratch afterwards
--
-- Assumes nothing.
use Rattle.std.specs.Prelude.{Some, ◌≡◌, cond, List, ℕ, get_or, replicate, None}
use Rattle.field.specs.Reasons.{Outcome, Answer, answer_of, is_accepted}
use Rattle.circuit.specs.Buffers.{work_length, blinded_by}
use Rattle.pointcheck.specs.declared.Judged.{Judged}
use Rattle.pointcheck.specs.Promises.{judged_as}
use Rattle.opening.specs.Opening.{evaluations_of, opening_of, opening_verdict}
use Rattle.opening.specs.Reasons.{open_reasons, check_reasons}

abbrev pub judged_opening : (p n : ℕ) (prepared transcript list evaluations opening challenges : List ℕ) → Judged
judged_opening p n prepared transcript list evaluations opening challenges =
    judged_as (opening_verdict (blinded_by n transcript) p n prepared transcript list evaluations opening (get_or challenges 0 0) (get_or challenges 1 0))

module _ (p n : ℕ) (prepared transcript list evaluations opening challenges scratch : List ℕ) where
  -- refused: evaluations, opening polynomial and scratch as they came; accepted: those of the definitions, and the scratch is zeros. The other
  -- buffers are only read.
  pub record Opens (r : Answer) (evaluations' opening' scratch' : List ℕ) : Type 0 where
    pub answer : r ≡ answer_of (open_reasons p n prepared transcript list evaluations opening challenges scratch)
    pub evaluated : evaluations' ≡ cond (is_accepted r) (evaluations_of (blinded_by n transcript) p n prepared transcript list (get_or challenges 0 0)) evaluations
    pub opened : opening' ≡ cond (is_accepted r) (opening_of (blinded_by n transcript) p n prepared transcript list (get_or challenges 0 0) (get_or challenges 1 0)) opening
    pub cleared : scratch' ≡ cond (is_accepted r) (replicate (work_length (blinded_by n transcript) n) 0) scratch

  -- refused: no verdict, and the scratch as it came; accepted: the verdict, and the scratch is zeros. The other buffers are only read.
  pub record ChecksOpening (r : Outcome Judged) (scratch' : List ℕ) : Type 0 where
    pub answer : r.answer ≡ answer_of (check_reasons p n prepared transcript list evaluations opening challenges scratch)
    pub verdict : r.value ≡ cond (is_accepted r.answer) (Some (judged_opening p n prepared transcript list evaluations opening challenges)) None
    pub cleared : scratch' ≡ cond (is_accepted r.answer) (replicate (work_length (blinded_by n transcript) n) 0) scratch
