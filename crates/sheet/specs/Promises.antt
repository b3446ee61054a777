-- What `read` promises, in the terms of document 01.
--
-- ReadsWith L s .. r ..   of its outcome r, and of the five lent buffers after the call, s being the sheet and L the layout of the witness. The sheet is only read.
-- Reads s .. r ..         the same by the layout of today
--
-- Assumes nothing.
use Rattle.std.specs.Prelude.{◌≡◌, cond, List, ℕ, length, Some, None}
use Rattle.field.specs.Reasons.{Outcome, answer_of, is_accepted}
use Rattle.circuit.specs.Circuit.{Layout, by_rows}
use Rattle.circuit.specs.Buffers.{selectors_length, labels_length, witness_length}
use Rattle.sheet.specs.declared.Sheet.{Sheet}
use Rattle.sheet.specs.Sheet.{sheet_rows, sheet_n, sheet_l, sheet_of, on_selectors, on_labels, on_witness_with, on_publics, padded, drawn_on, sheet_reasons_with}

-- refused: nothing is said of the sheet, and every buffer is as it came; accepted: p, n, l, whether a line of blinders is there, and the numbers of the sheet as they are lent for its n, zeros behind
pub record ReadsWith (L : Layout) (s selectors labels witness publics challenges : List ℕ) (r : Outcome Sheet) (selectors' labels' witness' publics' challenges' : List ℕ)
    : Type 0 where
  pub answer : r.answer ≡ answer_of (sheet_reasons_with L s (length selectors) (length labels) (length witness) (length publics) (length challenges))
  pub value : r.value ≡ cond (is_accepted r.answer) (Some (sheet_of s)) None
  pub selectors-laid :
      selectors' ≡ cond (is_accepted r.answer) (padded (selectors_length sheet_rows) (on_selectors s (sheet_n s) (sheet_l s)) (selectors_length (sheet_n s))) selectors
  pub labels-laid : labels' ≡ cond (is_accepted r.answer) (padded (labels_length sheet_rows) (on_labels s (sheet_n s) (sheet_l s)) (labels_length (sheet_n s))) labels
  pub witness-laid : witness' ≡ cond (is_accepted r.answer) (padded (witness_length sheet_rows) (on_witness_with L s (sheet_n s) (sheet_l s)) (witness_length (sheet_n s))) witness
  pub publics-laid : publics' ≡ cond (is_accepted r.answer) (padded sheet_rows (on_publics s (sheet_n s) (sheet_l s)) (sheet_l s)) publics
  pub challenges_laid : challenges' ≡ cond (is_accepted r.answer) (drawn_on s (sheet_n s) (sheet_l s)) challenges

abbrev pub Reads : (s selectors labels witness publics challenges : List ℕ) (r : Outcome Sheet) (selectors' labels' witness' publics' challenges' : List ℕ) → Type 0
Reads = ReadsWith by_rows
