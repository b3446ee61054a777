-- Document 01's worked sheet, as it was lent and as it is lent; and four rows, whose two layouts no transfer exchanges by itself.
--
-- columns, rows    the wire values of the sheet in both layouts
-- high_b           those in columns, with 17 at b of row 0
-- high_nine        the sheet with a line of blinders, of which the last is 99
-- twelve           the numbers 0 to 11
-- Worked, worked   what the definitions make of them, and their answers; that they are so
--
-- Assumes nothing.
use Rattle.std.specs.Prelude.{◌≡◌, refl, List, [], ◌∷◌, ◌++◌, ℕ, take, drop}
use Rattle.std.specs.Int.Count.{ones}
use Rattle.algebra.specs.Lists.{tab}
use Rattle.algebra.specs.Modular.{first}
use Rattle.field.specs.Fields.{is_field, is_current, is_rows, greatest_rows}
use Rattle.field.specs.Reasons.{answer_of, first_other, first_above}
use Rattle.transform.specs.Parts.{laid}
use Rattle.circuit.specs.Circuit.{lent_by, laid_by, by_rows}
use Rattle.circuit.specs.Reasons.{unbound_row}
use Rattle.circuit.specs.Promises.{any_rows}
use Rattle.losses.specs.Losses.{lost_reasons}
use Rattle.text.specs.Text.{is_digit, digits_end, value_of, is_number_at, number_at, field_at, is_field_at, is_line_at, decimal_of, fields_text, fields_of, refused_text}
use Rattle.sheet.specs.Sheet.{fields_due, line_at, number_of, is_blinded, bad_line}
use Rattle.sheet.specs.Worked.{bytes, with, blinders, blinded}
use Rattle.joining.specs.Joining.{source_row, joined_at, joined_text_with}
use Rattle.joining.specs.Worked.{second, joined_bytes}
use Rattle.archive.specs.Deposit.{deposit_text_with, deposit_text}
use Rattle.transfer.specs.Transfer.{to_rows, to_columns, transfer_reasons}
use Rattle.transfer.specs.Columns.{by_columns, columns_read}

abbrev columns : List ℕ
columns = 2 ∷ 6 ∷ 3 ∷ 6 ∷ 6 ∷ 12 ∷ []

abbrev rows : List ℕ
rows = 2 ∷ 3 ∷ 6 ∷ 6 ∷ 6 ∷ 12 ∷ []

abbrev high_b : List ℕ
high_b = 2 ∷ 6 ∷ 17 ∷ 6 ∷ 6 ∷ 12 ∷ []

abbrev high_nine : List ℕ
high_nine = bytes ++ (take 16 blinders ++ (57 ∷ drop 16 blinders))

abbrev twelve : List ℕ
twelve = 0 ∷ 1 ∷ 2 ∷ 3 ∷ 4 ∷ 5 ∷ 6 ∷ 7 ∷ 8 ∷ 9 ∷ 10 ∷ 11 ∷ []

pub record Worked : Type 0 where
  pub to_rows_lem : to_rows 2 columns ≡ rows
  pub to_columns_lem : to_columns 2 rows ≡ columns
  -- place 1 has position 4 in rows, and place 3 in columns: of the two transfers neither is its own reverse
  pub four_rows : to_rows 4 twelve ≡ 0 ∷ 4 ∷ 8 ∷ 1 ∷ 5 ∷ 9 ∷ 2 ∷ 6 ∷ 10 ∷ 3 ∷ 7 ∷ 11 ∷ []
  pub four_columns : to_columns 4 twelve ≡ 0 ∷ 3 ∷ 6 ∷ 9 ∷ 1 ∷ 4 ∷ 7 ∷ 10 ∷ 2 ∷ 5 ∷ 8 ∷ 11 ∷ []
  -- what reading the sheet laid before, and what was read in it
  pub read_before : columns_read bytes 2 0 ≡ columns
  pub held_before : tab (lent_by by_columns 2 columns) 6 ≡ columns
  -- b of row 0 is 17: 7 counted it third, and counts it second
  pub seven_before : answer_of (lost_reasons 17 2 high_b (1 ∷ [])) ≡ record { number = 7; detail = 2 }
  pub seven_now : answer_of (lost_reasons 17 2 (to_rows 2 high_b) (1 ∷ [])) ≡ record { number = 7; detail = 1 }
  -- so it is printed for a sheet, on which b of row 0 is 213, the ten selectors before it counting too; the sheets of joining's worked case join to what they join to
  pub printed_before : deposit_text_with by_columns (with 43 (50 ∷ 49 ∷ [])) ≡ refused_text 7 12
  pub printed_now : deposit_text (with 43 (50 ∷ 49 ∷ [])) ≡ refused_text 7 11
  pub joined_before : joined_text_with by_columns bytes second ≡ joined_bytes
  -- with a line of blinders: the same witness is read; a number on that line is counted alike in both layouts, behind the witness; and joining drops the line
  pub read_blinded : columns_read blinded 2 0 ≡ columns
  pub nine_before : deposit_text_with by_columns high_nine ≡ refused_text 7 28
  pub nine_now : deposit_text high_nine ≡ refused_text 7 28
  pub joined_blinded : joined_text_with by_columns blinded (second ++ blinders) ≡ joined_bytes
  pub taken : answer_of (transfer_reasons 2 columns rows) ≡ record { number = 0; detail = 0 }
  -- 3 rows, and 1; a buffer too long, and then one too short
  pub three_rows : answer_of (transfer_reasons 3 columns rows) ≡ record { number = 3; detail = 0 }
  pub one_row : answer_of (transfer_reasons 1 columns rows) ≡ record { number = 3; detail = 0 }
  pub lent_long : answer_of (transfer_reasons 2 twelve rows) ≡ record { number = 6; detail = 1 }
  pub written_short : answer_of (transfer_reasons 4 twelve rows) ≡ record { number = 6; detail = 2 }

pub worked : Worked
unfolding tab first ones is_field is_current is_rows greatest_rows any_rows first_other first_above unbound_row laid lent_by laid_by by_rows by_columns is_digit digits_end value_of is_number_at number_at field_at is_field_at is_line_at decimal_of fields_text fields_of fields_due line_at number_of is_blinded bad_line source_row joined_at deposit_text_with
worked =
    record {
      to_rows_lem = refl;
      to_columns_lem = refl;
      four_rows = refl;
      four_columns = refl;
      read_before = refl;
      held_before = refl;
      seven_before = refl;
      seven_now = refl;
      printed_before = refl;
      printed_now = refl;
      joined_before = refl;
      read_blinded = refl;
      nine_before = refl;
      nine_now = refl;
      joined_blinded = refl;
      taken = refl;
      three_rows = refl;
      one_row = refl;
      lent_long = refl;
      written_short = refl;
    }
