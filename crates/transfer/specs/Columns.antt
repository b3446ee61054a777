-- What the calls promised as long as a witness was lent column after column, before request 8 of document 02: the promises of today, by the layout of then; and what
-- they would have promised by it of blinding, which came later (request 9). The theorem (Theorem) compares them with what the calls promise now; but for the worked
-- cases, which check them, nothing else rests on these definitions.
--
-- by_columns               the layout of then: the wire value of position k stands at place k
-- ChecksRowsByColumns, ProvesByColumns e, LosesGammasByColumns   the promises of `check_rows`, of `prove` (e is 0) and `prove_blinded` (e is 1), and of `lost_gammas`,
--                          lent such a witness; their lists of reasons are those of today, of the numbers as they were lent
-- columns_read s n l       the witness that reading the sheet s laid
-- ReadsByColumns, DepositsByColumns, JoinsByColumns   the promises of `read`, `deposit` and `join`, the elements of 7 being counted as they were lent
-- AsBefore a b             two answers have one number, and one detail unless the number is 7
-- RefusesElement t         the text t is the line of a refusal with 7
--
-- Assumes nothing.
use Rattle.field.specs.Reasons.{Outcome, Answer}
use Rattle.std.specs.Prelude.{◌≡◌, List, ℕ}
use Rattle.algebra.specs.Lists.{tab}
use Rattle.circuit.specs.Circuit.{Layout}
use Rattle.circuit.specs.Buffers.{witness_length}
use Rattle.rowcheck.specs.declared.Verdict.{Verdict}
use Rattle.rowcheck.specs.Promises.{ChecksRowsWith}
use Rattle.prover.specs.Promises.{ProvesWith}
use Rattle.losses.specs.Losses.{LosesGammasWith}
use Rattle.text.specs.Text.{refused_text}
use Rattle.sheet.specs.declared.Sheet.{Sheet}
use Rattle.sheet.specs.Sheet.{on_witness_with}
use Rattle.sheet.specs.Promises.{ReadsWith}
use Rattle.joining.specs.Joining.{JoinsWith}
use Rattle.archive.specs.Deposit.{DepositsWith}

unfoldable pub by_columns : Layout
by_columns = record { place = λ n k. k; position_at = λ n j. j }

-- CALLS THAT ARE LENT A WITNESS

abbrev pub ChecksRowsByColumns : (p n l : ℕ) (selectors labels witness publics z challenges : List ℕ) (r : Outcome Verdict) → Type 0
ChecksRowsByColumns = ChecksRowsWith by_columns

abbrev pub ProvesByColumns : (e p n l : ℕ) (selectors labels witness publics transcript challenges blinders scratch : List ℕ) (r : Answer) (transcript' scratch' : List ℕ)
    → Type 0
ProvesByColumns = ProvesWith by_columns

abbrev pub LosesGammasByColumns : (p n : ℕ) (witness challenges : List ℕ) (r : Outcome ℕ) → Type 0
LosesGammasByColumns = LosesGammasWith by_columns

-- CALLS THAT READ SHEETS

abbrev pub columns_read : List ℕ → ℕ → ℕ → List ℕ
columns_read s n l = tab (on_witness_with by_columns s n l) (witness_length n)

abbrev pub ReadsByColumns : (s selectors labels witness publics challenges : List ℕ) (r : Outcome Sheet) (selectors' labels' witness' publics' challenges' : List ℕ) → Type 0
ReadsByColumns = ReadsWith by_columns

abbrev pub DepositsByColumns : (s text : List ℕ) (r : Outcome ℕ) (text' : List ℕ) → Type 0
DepositsByColumns = DepositsWith by_columns

abbrev pub JoinsByColumns : (one two joined : List ℕ) (r : Outcome ℕ) (joined' : List ℕ) → Type 0
JoinsByColumns = JoinsWith by_columns

-- THE COMPARISON

pub record AsBefore (a b : Answer) : Type 0 where
  pub number : a.number ≡ b.number
  pub detail : (a.number ≡ 7 → ⊥) → a.detail ≡ b.detail

pub record RefusesElement (text : List ℕ) : Type 0 where
  pub detail : ℕ
  pub is : text ≡ refused_text 7 detail
