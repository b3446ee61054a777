-- What the public call of this crate promises.
--
-- judged_as v            the case of the answer's enum for a verdict of document 01
-- judged_at p n publics prepared transcript challenges   the verdict on lent buffers, the transcript of either length, with the
--                        challenges beta, gamma, alpha, zeta in that order
-- PointChecks            what `check_point` promises of its answer r and of the lent scratch afterwards
--
-- Assumes nothing.
use Rattle.std.specs.Prelude.{◌≡◌, cond, List, ℕ, get_or, replicate, Some, None}
use Rattle.field.specs.Reasons.{Outcome, answer_of, is_accepted}
use Rattle.circuit.specs.Circuit.{lent_public}
use Rattle.circuit.specs.Buffers.{work_length, blinded_by}
use Rattle.circuit.specs.Reasons.{point_reasons}
use Rattle.protocol.specs.Protocol.{PointVerdict, accept, reject, point_verdict}
use Rattle.pointcheck.specs.declared.Judged.{Judged}
use Rattle.pointcheck.specs.declared.Judged.TheVariants.{Accept, Reject}

abbrev pub judged_as : PointVerdict → Judged
judged_as accept = Accept
judged_as reject = Reject

abbrev pub judged_at : ℕ → ℕ → List ℕ → List ℕ → List ℕ → List ℕ → Judged
judged_at p n publics prepared transcript challenges =
    judged_as
    (point_verdict (blinded_by n transcript) p n prepared (lent_public publics) transcript (get_or challenges 0 0) (get_or challenges 1 0) (get_or challenges 2 0) (get_or challenges 3 0))

-- refused: no verdict, and the scratch as it came; accepted: the verdict, and the scratch is zeros. The other buffers are only read.
pub record PointChecks (p n l : ℕ) (publics prepared transcript challenges scratch : List ℕ) (r : Outcome Judged) (scratch' : List ℕ) : Type 0 where
  pub answer : r.answer ≡ answer_of (point_reasons p n l publics prepared transcript challenges scratch)
  pub verdict : r.value ≡ cond (is_accepted r.answer) (Some (judged_at p n publics prepared transcript challenges)) None
  pub cleared : scratch' ≡ cond (is_accepted r.answer) (replicate (work_length (blinded_by n transcript) n) 0) scratch
