-- The text of a deposit, and what `deposit` promises.
--
-- deposit_text_with L s   the text of a sheet: why it is turned down as a new sheet, or else the text of its numbers, the witness being lent by the layout L; its transcript is
--                         blinded where the sheet has a line of blinders
-- deposit_due             the lengths due of the sheet, which has whatever length it has, and of the text
-- deposit_reasons         of `deposit`
-- DepositsWith L          refused: the buffer as it came; accepted: the text, and zeros behind it
-- deposit_text, Deposits   the same by the layout of today
--
-- Assumes nothing.
use Rattle.std.specs.Prelude.{◌≡◌, cond, List, [], ◌∷◌, ◌++◌, ℕ, ◌-◌, length, replicate, Some, None}
use Rattle.algebra.specs.Lists.{tab}
use Rattle.field.specs.Reasons.{Outcome, Reason, answer_of, is_accepted, bad_lengths}
use Rattle.circuit.specs.Circuit.{Layout, by_rows}
use Rattle.circuit.specs.Buffers.{selectors_length, labels_length, witness_length}
use Rattle.text.specs.Text.{refused_text}
use Rattle.sheet.specs.Sheet.{challenge_count, sheet_p, sheet_n, sheet_l, on_selectors, on_labels, on_witness_with, on_publics, on_challenges, sheet_blinded, blinders_on, new_answer_with}
use Rattle.archive.specs.Printed.{text_length, work_text_with}

-- the numbers are those that the definitions read from the sheet, as they are lent
unfoldable pub deposit_text_with : Layout → List ℕ → List ℕ
deposit_text_with L s =
    let n : ℕ = sheet_n s in
    let l : ℕ = sheet_l s in
    cond (is_accepted (new_answer_with L s))
    (work_text_with L (sheet_blinded s n l) (sheet_p s) n l (tab (on_selectors s n l) (selectors_length n)) (tab (on_labels s n l) (labels_length n)) (tab (on_witness_with L s n l) (witness_length n)) (tab (on_publics s n l) l) (tab (on_challenges s n l) challenge_count) (blinders_on s n l))
    (refused_text (new_answer_with L s).number (new_answer_with L s).detail)

abbrev pub deposit_due : ℕ → List ℕ
deposit_due bytes = bytes ∷ text_length ∷ []

abbrev pub deposit_reasons : List ℕ → List ℕ → List Reason
deposit_reasons s text = bad_lengths (length s ∷ length text ∷ []) (deposit_due (length s)) ∷ []

pub record DepositsWith (L : Layout) (s text : List ℕ) (r : Outcome ℕ) (text' : List ℕ) : Type 0 where
  pub answer : r.answer ≡ answer_of (deposit_reasons s text)
  pub long : r.value ≡ cond (is_accepted r.answer) (Some (length (deposit_text_with L s))) None
  pub prints : text' ≡ cond (is_accepted r.answer) (deposit_text_with L s ++ replicate (text_length - length (deposit_text_with L s)) 0) text

abbrev pub deposit_text : List ℕ → List ℕ
deposit_text = deposit_text_with by_rows

abbrev pub Deposits : (s text : List ℕ) (r : Outcome ℕ) (text' : List ℕ) → Type 0
Deposits = DepositsWith by_rows
