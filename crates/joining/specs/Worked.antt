-- Document 01's worked sheet joined to the same with row 0 made a public row: the definitions make of both what document 02 says.
--
-- second        the second sheet: its challenges begin with 3, to tell them from the first's
-- over_largest  the first sheet over the prime 2013265921
-- joined_bytes  the joined sheet, written by hand
-- Worked, worked   the joined sheet, its rows, and the answers to this pair and to pairs near it; that they are so
--
-- Assumes nothing.
use Rattle.std.specs.Prelude.{◌≡◌, refl, true, false, List, [], ◌∷◌, ◌++◌, ℕ, take, drop}
use Rattle.std.proofs.Common.{inl, inr}
use Rattle.std.specs.Int.Count.{ones}
use Rattle.algebra.specs.Lists.{tab}
use Rattle.algebra.specs.Modular.{first}
use Rattle.field.specs.Fields.{is_field, is_current, is_rows, greatest_rows}
use Rattle.field.specs.Reasons.{answer_of, first_other, first_above}
use Rattle.transform.specs.Parts.{laid}
use Rattle.circuit.specs.Circuit.{lent_by, laid_by, by_rows}
use Rattle.circuit.specs.Reasons.{unbound_row}
use Rattle.text.specs.Text.{is_digit, digits_end, value_of, is_number_at, number_at, field_at, is_field_at, is_line_at, decimal_of, fields_text, fields_of}
use Rattle.sheet.specs.Sheet.{fields_due, line_at, number_of, is_blinded, bad_line}
use Rattle.sheet.specs.Worked.{bytes, without, with, changed, blinders, blinded, over97, rows64}
use Rattle.joining.specs.Joining.{on_sheet, source_row, from_second, joined_at, joined_numbers, joined_text, join_reasons}

abbrev pub second : List ℕ
second = changed 55 51

abbrev pub over_largest : List ℕ
over_largest = 50 ∷ 48 ∷ 49 ∷ 51 ∷ 50 ∷ 54 ∷ 53 ∷ 57 ∷ 50 ∷ 49 ∷ drop 2 bytes

-- 17,4,1: the public row of the second; the two rows of the first; the other row of the second; the wire values in the same order
abbrev pub joined_bytes : List ℕ
joined_bytes =
    49 ∷ 55 ∷ 44 ∷ 52 ∷ 44 ∷ 49 ∷ 10
    ∷ 49 ∷ 44 ∷ 48 ∷ 44 ∷ 48 ∷ 44 ∷ 48 ∷ 44 ∷ 48 ∷ 44 ∷ 54 ∷ 44 ∷ 55 ∷ 44 ∷ 56 ∷ 10
    ∷ 48 ∷ 44 ∷ 48 ∷ 44 ∷ 49 ∷ 54 ∷ 44 ∷ 49 ∷ 44 ∷ 48 ∷ 44 ∷ 48 ∷ 44 ∷ 49 ∷ 44 ∷ 50 ∷ 10
    ∷ 49 ∷ 44 ∷ 49 ∷ 44 ∷ 49 ∷ 54 ∷ 44 ∷ 48 ∷ 44 ∷ 48 ∷ 44 ∷ 50 ∷ 44 ∷ 50 ∷ 44 ∷ 51 ∷ 10
    ∷ 49 ∷ 44 ∷ 49 ∷ 44 ∷ 49 ∷ 54 ∷ 44 ∷ 48 ∷ 44 ∷ 48 ∷ 44 ∷ 56 ∷ 44 ∷ 56 ∷ 44 ∷ 57 ∷ 10
    ∷ 50 ∷ 44 ∷ 51 ∷ 44 ∷ 54 ∷ 10
    ∷ 50 ∷ 44 ∷ 51 ∷ 44 ∷ 54 ∷ 10
    ∷ 54 ∷ 44 ∷ 54 ∷ 44 ∷ 49 ∷ 50 ∷ 10
    ∷ 54 ∷ 44 ∷ 54 ∷ 44 ∷ 49 ∷ 50 ∷ 10
    ∷ 50 ∷ 10
    ∷ 49 ∷ 44 ∷ 49 ∷ 44 ∷ 50 ∷ 44 ∷ 50 ∷ 10
    ∷ []

pub record Worked : Type 0 where
  pub row_0 : source_row 2 0 1 0 ≡ inr 0
  pub row_1 : source_row 2 0 1 1 ≡ inl 0
  pub row_2 : source_row 2 0 1 2 ≡ inl 1
  pub row_3 : source_row 2 0 1 3 ≡ inr 1
  -- position 5 is column b of row 1, position 4 column b of row 0
  pub of_first : from_second 2 0 1 5 ≡ false
  pub of_second : from_second 2 0 1 4 ≡ true
  pub labels : (joined_numbers (on_sheet bytes) (on_sheet second)).labels ≡ 6 ∷ 0 ∷ 2 ∷ 8 ∷ 7 ∷ 1 ∷ 2 ∷ 8 ∷ 8 ∷ 2 ∷ 3 ∷ 9 ∷ []
  pub witness : (joined_numbers (on_sheet bytes) (on_sheet second)).witness ≡ 2 ∷ 3 ∷ 6 ∷ 2 ∷ 3 ∷ 6 ∷ 6 ∷ 6 ∷ 12 ∷ 6 ∷ 6 ∷ 12 ∷ []
  pub text : joined_text bytes second ≡ joined_bytes
  pub taken : answer_of (join_reasons bytes second 65536) ≡ record { number = 0; detail = 0 }
  -- both with a line of blinders, which is dropped; that of the second out of form; too great a number on that of the first, then an extra line in the second
  pub text_blinded : joined_text blinded (second ++ blinders) ≡ joined_bytes
  pub taken_blinded : answer_of (join_reasons blinded (second ++ blinders) 65536) ≡ record { number = 0; detail = 0 }
  pub nine_few : answer_of (join_reasons blinded (second ++ drop 2 blinders) 65536) ≡ record { number = 5; detail = 8 }
  pub high_nine_lem : answer_of (join_reasons (bytes ++ (take 16 blinders ++ (57 ∷ drop 16 blinders))) (second ++ (blinders ++ blinders)) 65536) ≡ record { number = 7; detail = 28 }
  -- the written buffer is one byte too short, behind a 5 of the first sheet, and before its 8
  pub short : answer_of (join_reasons bytes second 65535) ≡ record { number = 6; detail = 3 }
  pub line_first : answer_of (join_reasons (without 61) second 65535) ≡ record { number = 5; detail = 6 }
  pub short_first : answer_of (join_reasons (with 39 (49 ∷ [])) second 65535) ≡ record { number = 6; detail = 3 }
  -- the first sheet's 8 comes before the second's 1, and that before 15
  pub label_first : answer_of (join_reasons (with 39 (49 ∷ [])) [] 65536) ≡ record { number = 8; detail = 5 }
  pub unread_first : answer_of (join_reasons bytes [] 65536) ≡ record { number = 1; detail = 0 }
  -- another prime; another n, though the doubled n is too great as well; and the doubled n alone
  pub other_prime : answer_of (join_reasons bytes over_largest 65536) ≡ record { number = 15; detail = 0 }
  pub other_rows : answer_of (join_reasons joined_bytes bytes 65536) ≡ record { number = 15; detail = 0 }
  pub many_rows : answer_of (join_reasons joined_bytes joined_bytes 65536) ≡ record { number = 3; detail = 0 }
  -- 97 in the first sheet comes before its 3 and before the written buffer; in the second, behind all of the first's, and before the second's 3 and 15
  pub first_97 : answer_of (join_reasons over97 second 65535) ≡ record { number = 16; detail = 0 }
  pub first_64 : answer_of (join_reasons rows64 second 65536) ≡ record { number = 16; detail = 0 }
  pub second_97 : answer_of (join_reasons bytes over97 65536) ≡ record { number = 16; detail = 0 }
  pub second_64 : answer_of (join_reasons bytes rows64 65536) ≡ record { number = 16; detail = 0 }
  pub label_then_97 : answer_of (join_reasons (with 39 (49 ∷ [])) over97 65536) ≡ record { number = 8; detail = 5 }

pub worked : Worked
unfolding tab first is_digit digits_end value_of is_number_at number_at field_at is_field_at is_line_at fields_due line_at number_of is_blinded bad_line is_field is_current is_rows greatest_rows first_other first_above unbound_row laid decimal_of fields_text fields_of ones lent_by laid_by by_rows source_row joined_at
worked =
    record {
      row_0 = refl;
      row_1 = refl;
      row_2 = refl;
      row_3 = refl;
      of_first = refl;
      of_second = refl;
      labels = refl;
      witness = refl;
      text = refl;
      taken = refl;
      text_blinded = refl;
      taken_blinded = refl;
      nine_few = refl;
      high_nine_lem = refl;
      short = refl;
      line_first = refl;
      short_first = refl;
      label_first = refl;
      unread_first = refl;
      other_prime = refl;
      other_rows = refl;
      many_rows = refl;
      first_97 = refl;
      first_64 = refl;
      second_97 = refl;
      second_64 = refl;
      label_then_97 = refl;
    }
