-- What `check_rows` promises, in the terms of document 01.
--
-- identity_of id    the identity that a failing row names: the gate; z = 1 at row 0; the step z(i) × N(i) = z(i+1) × D(i)
-- verdict_of v      the verdict that is handed over: every row holds, or the first identity that fails with its row
-- lent_z z          the row values of z, in a lent buffer
-- ChecksRowsWith L  what `check_rows` promises of its answer r, where the witness is lent by the layout L
-- ChecksRows        the same by that of today
--
-- Assumes nothing.
use Rattle.std.specs.Prelude.{◌≡◌, cond, List, ℕ, get_or, Some, None}
use Rattle.field.specs.Reasons.{Outcome, answer_of, is_accepted}
use Rattle.circuit.specs.Circuit.{Layout, lent_constraints, lent_public, lent_by, by_rows}
use Rattle.circuit.specs.Reasons.{rows_reasons}
use Rattle.protocol.specs.Protocol.{gate_identity, start_identity, step_identity, RowVerdict, pass, fails, row_verdict}
use Rattle.protocol.specs.Protocol as protocol
use Rattle.rowcheck.specs.declared.Identity.{Identity}
use Rattle.rowcheck.specs.declared.Identity.TheVariants.{Gate, Start, Step}
use Rattle.rowcheck.specs.declared.Verdict.{Verdict}
use Rattle.rowcheck.specs.declared.Verdict.TheVariants.{Pass, Fails}

abbrev pub identity_of : protocol.Identity → Identity
identity_of gate_identity = Gate
identity_of start_identity = Start
identity_of step_identity = Step

abbrev pub verdict_of : RowVerdict → Verdict
verdict_of pass = Pass
verdict_of (fails id i) = Fails (identity_of id) i

abbrev pub lent_z : List ℕ → ℕ → ℕ
lent_z z i = get_or z i 0

-- refused: no verdict; accepted: the verdict of the row check, with the challenges beta and gamma. All buffers are only read.
pub record ChecksRowsWith (L : Layout) (p n l : ℕ) (selectors labels witness publics z challenges : List ℕ) (r : Outcome Verdict) : Type 0 where
  pub answer : r.answer ≡ answer_of (rows_reasons p n l selectors labels witness publics z challenges)
  pub verdict :
      r.value
      ≡ cond (is_accepted r.answer)
      (Some (verdict_of (row_verdict p n (lent_constraints n selectors labels) (lent_public publics) (lent_by L n witness) (lent_z z) (get_or challenges 0 0) (get_or challenges 1 0))))
      None

abbrev pub ChecksRows : (p n l : ℕ) (selectors labels witness publics z challenges : List ℕ) (r : Outcome Verdict) → Type 0
ChecksRows = ChecksRowsWith by_rows
