-- Document 01's worked sheet, as bytes: the definitions of a sheet make of it what the document says.
--
-- bytes        the sheet
-- without i, with i more   the sheet with byte i left out, and with more bytes before byte i
-- public_bytes, changed i b, two_public   the sheet with row 0 made a public row; that sheet with another byte i; that sheet with l = 2
-- blinders, blinded    a line of nine blinders, 1 to 9; the sheet with it at its end
-- over97, rows64, rows512   the sheet over 97; a first line of 64 rows over 97, and of 512 rows over the largest prime, with nothing behind it
-- Worked, worked   what is read off the sheet, and the answers to it and to sheets near it; that they are so
--
-- Assumes nothing.
use Rattle.std.specs.Prelude.{◌≡◌, refl, true, false, List, [], ◌∷◌, ◌++◌, ℕ, suc, take, drop}
use Rattle.std.specs.Int.Count.{ones}
use Rattle.algebra.specs.Lists.{tab}
use Rattle.algebra.specs.Modular.{first}
use Rattle.field.specs.Fields.{is_field, is_current, is_rows, greatest_rows}
use Rattle.field.specs.Reasons.{answer_of, first_other, first_above}
use Rattle.transform.specs.Parts.{laid}
use Rattle.circuit.specs.Circuit.{lent_by, by_rows}
use Rattle.circuit.specs.Reasons.{unbound_row}
use Rattle.text.specs.Text.{is_digit, digits_end, value_of, is_number_at, number_at, field_at, is_field_at, is_line_at, decimal_of, fields_text, fields_of}
use Rattle.sheet.specs.Sheet.{fields_due, line_at, number_of, sheet_p, sheet_n, sheet_l, is_blinded, bad_line, on_selectors, on_labels, on_witness, on_publics, on_challenges, drawn_on, sheet_reasons, read_answer, new_answer}
use Rattle.sheet.specs.Written.{sheet_text}

-- 17,2,0 and the five lines behind it, each with byte 10 at its end
abbrev pub bytes : List ℕ
bytes =
    49 ∷ 55 ∷ 44 ∷ 50 ∷ 44 ∷ 48 ∷ 10
    ∷ 48 ∷ 44 ∷ 48 ∷ 44 ∷ 49 ∷ 54 ∷ 44 ∷ 49 ∷ 44 ∷ 48 ∷ 44 ∷ 48 ∷ 44 ∷ 49 ∷ 44 ∷ 50 ∷ 10
    ∷ 49 ∷ 44 ∷ 49 ∷ 44 ∷ 49 ∷ 54 ∷ 44 ∷ 48 ∷ 44 ∷ 48 ∷ 44 ∷ 50 ∷ 44 ∷ 50 ∷ 44 ∷ 51 ∷ 10
    ∷ 50 ∷ 44 ∷ 51 ∷ 44 ∷ 54 ∷ 10
    ∷ 54 ∷ 44 ∷ 54 ∷ 44 ∷ 49 ∷ 50 ∷ 10
    ∷ 49 ∷ 44 ∷ 49 ∷ 44 ∷ 50 ∷ 44 ∷ 50 ∷ 10
    ∷ []

-- the sheet with byte i left out, and with bytes added before byte i
abbrev pub without : ℕ → List ℕ
without i = take i bytes ++ drop (suc i) bytes

abbrev pub with : ℕ → List ℕ → List ℕ
with i more = take i bytes ++ (more ++ drop i bytes)

-- the same with row 0 made a public row, and the content 2 of its a as public input
abbrev pub public_bytes : List ℕ
public_bytes =
    49 ∷ 55 ∷ 44 ∷ 50 ∷ 44 ∷ 49 ∷ 10
    ∷ 49 ∷ 44 ∷ 48 ∷ 44 ∷ 48 ∷ 44 ∷ 48 ∷ 44 ∷ 48 ∷ 44 ∷ 48 ∷ 44 ∷ 49 ∷ 44 ∷ 50 ∷ 10
    ∷ 49 ∷ 44 ∷ 49 ∷ 44 ∷ 49 ∷ 54 ∷ 44 ∷ 48 ∷ 44 ∷ 48 ∷ 44 ∷ 50 ∷ 44 ∷ 50 ∷ 44 ∷ 51 ∷ 10
    ∷ 50 ∷ 44 ∷ 51 ∷ 44 ∷ 54 ∷ 10
    ∷ 54 ∷ 44 ∷ 54 ∷ 44 ∷ 49 ∷ 50 ∷ 10
    ∷ 50 ∷ 10
    ∷ 49 ∷ 44 ∷ 49 ∷ 44 ∷ 50 ∷ 44 ∷ 50 ∷ 10
    ∷ []

-- that sheet with another byte i; and with l = 2 and the content 6 of a as second public input
abbrev pub changed : ℕ → ℕ → List ℕ
changed i b = take i public_bytes ++ (b ∷ drop (suc i) public_bytes)

abbrev pub two_public : List ℕ
two_public = take 55 (changed 5 50) ++ (54 ∷ 10 ∷ drop 55 public_bytes)

-- 1,2,3,4,5,6,7,8,9 and byte 10, and the sheet with that line
abbrev pub blinders : List ℕ
blinders = 49 ∷ 44 ∷ 50 ∷ 44 ∷ 51 ∷ 44 ∷ 52 ∷ 44 ∷ 53 ∷ 44 ∷ 54 ∷ 44 ∷ 55 ∷ 44 ∷ 56 ∷ 44 ∷ 57 ∷ 10 ∷ []

abbrev pub blinded : List ℕ
blinded = bytes ++ blinders

-- 9 in place of the 1 of 17; 97,64,0; and 2013265921,512,0
abbrev pub over97 : List ℕ
over97 = 57 ∷ drop 1 bytes

abbrev pub rows64 : List ℕ
rows64 = 57 ∷ 55 ∷ 44 ∷ 54 ∷ 52 ∷ 44 ∷ 48 ∷ 10 ∷ []

abbrev pub rows512 : List ℕ
rows512 = 50 ∷ 48 ∷ 49 ∷ 51 ∷ 50 ∷ 54 ∷ 53 ∷ 57 ∷ 50 ∷ 49 ∷ 44 ∷ 53 ∷ 49 ∷ 50 ∷ 44 ∷ 48 ∷ 10 ∷ []

pub record Worked : Type 0 where
  pub p_is : sheet_p bytes ≡ 17
  pub n_is : sheet_n bytes ≡ 2
  pub l_is : sheet_l bytes ≡ 0
  pub selectors : tab (on_selectors bytes 2 0) 10 ≡ 0 ∷ 1 ∷ 0 ∷ 1 ∷ 16 ∷ 16 ∷ 1 ∷ 0 ∷ 0 ∷ 0 ∷ []
  pub labels : tab (on_labels bytes 2 0) 6 ≡ 0 ∷ 2 ∷ 1 ∷ 2 ∷ 2 ∷ 3 ∷ []
  pub witness : tab (on_witness bytes 2 0) 6 ≡ 2 ∷ 3 ∷ 6 ∷ 6 ∷ 6 ∷ 12 ∷ []
  pub publics : tab (on_publics bytes 2 0) 0 ≡ []
  pub challenges : tab (on_challenges bytes 2 0) 4 ≡ 1 ∷ 1 ∷ 2 ∷ 2 ∷ []
  pub accepted : read_answer bytes ≡ record { number = 0; detail = 0 }
  pub written :
      sheet_text 17 2 0 (0 ∷ 1 ∷ 0 ∷ 1 ∷ 16 ∷ 16 ∷ 1 ∷ 0 ∷ 0 ∷ 0 ∷ []) (0 ∷ 2 ∷ 1 ∷ 2 ∷ 2 ∷ 3 ∷ []) (2 ∷ 3 ∷ 6 ∷ 6 ∷ 6 ∷ 12 ∷ []) [] (1 ∷ 1 ∷ 2 ∷ 2 ∷ [])
      ≡ bytes
  -- the first line without its byte 10, and with a zero before 17
  pub first_open : read_answer (without 6) ≡ record { number = 1; detail = 0 }
  pub first_zero : read_answer (with 0 (48 ∷ [])) ≡ record { number = 1; detail = 0 }
  -- 187 for 17; 3 rows; 512 rows, which the largest prime has, but no sheet; 3 public inputs
  pub no_prime : read_answer (with 1 (56 ∷ [])) ≡ record { number = 2; detail = 0 }
  pub no_power : read_answer (49 ∷ 55 ∷ 44 ∷ 51 ∷ 44 ∷ 48 ∷ 10 ∷ []) ≡ record { number = 3; detail = 0 }
  pub many_rows : read_answer rows512 ≡ record { number = 3; detail = 0 }
  pub many : read_answer (49 ∷ 55 ∷ 44 ∷ 50 ∷ 44 ∷ 51 ∷ 10 ∷ []) ≡ record { number = 4; detail = 0 }
  -- the last line without its byte 10; a byte behind it; a zero before the first number of line 2
  pub last_open : read_answer (without 61) ≡ record { number = 5; detail = 6 }
  pub extra : read_answer (with 62 (49 ∷ [])) ≡ record { number = 5; detail = 7 }
  pub zero_ahead : read_answer (with 7 (48 ∷ [])) ≡ record { number = 5; detail = 2 }
  -- 1 before the last content, 12: it is 112, and place 15 of the elements; 2 and 1 before b of row 0, 3: it is 213, and place 11, behind ten selectors and a of row 0;
  -- 1 before the last label, 3: it is 13, and position 5
  pub high : read_answer (with 51 (49 ∷ [])) ≡ record { number = 7; detail = 15 }
  pub high_b_lem : read_answer (with 43 (50 ∷ 49 ∷ [])) ≡ record { number = 7; detail = 11 }
  pub high_label : read_answer (with 39 (49 ∷ [])) ≡ record { number = 8; detail = 5 }
  -- row 0 is a public row; qL is 0, qR, qO, qM, qC are 1 in turn; row 1 is none, and l is 2
  pub public_row : read_answer public_bytes ≡ record { number = 0; detail = 0 }
  pub q_l_none : read_answer (changed 7 48) ≡ record { number = 14; detail = 0 }
  pub q_r_one : read_answer (changed 9 49) ≡ record { number = 14; detail = 0 }
  pub q_o_one : read_answer (changed 11 49) ≡ record { number = 14; detail = 0 }
  pub q_m_one : read_answer (changed 13 49) ≡ record { number = 14; detail = 0 }
  pub q_c_one : read_answer (changed 15 49) ≡ record { number = 14; detail = 0 }
  pub second_row : read_answer two_public ≡ record { number = 14; detail = 1 }
  -- with no line of blinders behind the challenges, and with one
  pub drawn : drawn_on bytes 2 0 ≡ 1 ∷ 1 ∷ 2 ∷ 2 ∷ 0 ∷ 0 ∷ 0 ∷ 0 ∷ 0 ∷ 0 ∷ 0 ∷ 0 ∷ 0 ∷ []
  pub drawn_nine : drawn_on blinded 2 0 ≡ 1 ∷ 1 ∷ 2 ∷ 2 ∷ 1 ∷ 2 ∷ 3 ∷ 4 ∷ 5 ∷ 6 ∷ 7 ∷ 8 ∷ 9 ∷ []
  pub none_blinded : is_blinded bytes 2 0 ≡ false
  pub is_blinded_lem : is_blinded blinded 2 0 ≡ true
  pub blinded-accepted : read_answer blinded ≡ record { number = 0; detail = 0 }
  -- eight numbers on that line, ten, and no byte 10; a line behind it, and a byte
  pub nine_few : read_answer (bytes ++ drop 2 blinders) ≡ record { number = 5; detail = 7 }
  pub nine_many : read_answer (bytes ++ (49 ∷ 44 ∷ blinders)) ≡ record { number = 5; detail = 7 }
  pub nine_open : read_answer (bytes ++ take 17 blinders) ≡ record { number = 5; detail = 7 }
  pub nine-twice : read_answer (blinded ++ blinders) ≡ record { number = 5; detail = 8 }
  pub nine_tail : read_answer (blinded ++ (49 ∷ [])) ≡ record { number = 5; detail = 8 }
  -- 99 for 9 at its end: place 28, behind ten selectors, six contents, four challenges and eight more; and 11 before the last challenge, 2: it is 112, and place 19
  pub high_nine_lem : read_answer (bytes ++ (take 16 blinders ++ (57 ∷ drop 16 blinders))) ≡ record { number = 7; detail = 28 }
  pub high_challenge : read_answer (with 60 (49 ∷ 49 ∷ []) ++ (take 16 blinders ++ (57 ∷ drop 16 blinders))) ≡ record { number = 7; detail = 19 }
  -- the witness has room for 767 numbers; challenges and blinders have room for the challenges only
  pub short : answer_of (sheet_reasons bytes 1280 768 767 256 13) ≡ record { number = 6; detail = 4 }
  pub short_drawn : answer_of (sheet_reasons bytes 1280 768 768 256 4) ≡ record { number = 6; detail = 6 }
  -- over 97 a sheet is read as before
  pub read_97 : read_answer over97 ≡ record { number = 0; detail = 0 }
  pub read_64 : read_answer rows64 ≡ record { number = 3; detail = 0 }
  -- as a new sheet: over 17 it is taken; over 97 it is not, whatever stands behind; 1 and 2 come before
  pub new_17 : new_answer bytes ≡ record { number = 0; detail = 0 }
  pub new_97 : new_answer over97 ≡ record { number = 16; detail = 0 }
  pub new_64 : new_answer rows64 ≡ record { number = 16; detail = 0 }
  pub new_open : new_answer (take 7 rows64) ≡ record { number = 1; detail = 0 }
  pub new_no_prime : new_answer (with 1 (56 ∷ [])) ≡ record { number = 2; detail = 0 }
  pub new_label : new_answer (with 39 (49 ∷ [])) ≡ record { number = 8; detail = 5 }

pub worked : Worked
unfolding tab first is_digit digits_end value_of is_number_at number_at field_at is_field_at is_line_at fields_due line_at number_of is_blinded bad_line is_field is_current is_rows greatest_rows first_other first_above unbound_row laid decimal_of fields_text fields_of ones lent_by by_rows
worked =
    record {
      p_is = refl;
      n_is = refl;
      l_is = refl;
      selectors = refl;
      labels = refl;
      witness = refl;
      publics = refl;
      challenges = refl;
      accepted = refl;
      written = refl;
      first_open = refl;
      first_zero = refl;
      no_prime = refl;
      no_power = refl;
      many_rows = refl;
      many = refl;
      last_open = refl;
      extra = refl;
      zero_ahead = refl;
      high = refl;
      high_b_lem = refl;
      high_label = refl;
      public_row = refl;
      q_l_none = refl;
      q_r_one = refl;
      q_o_one = refl;
      q_m_one = refl;
      q_c_one = refl;
      second_row = refl;
      drawn = refl;
      drawn_nine = refl;
      none_blinded = refl;
      is_blinded_lem = refl;
      blinded-accepted = refl;
      nine_few = refl;
      nine_many = refl;
      nine_open = refl;
      nine-twice = refl;
      nine_tail = refl;
      high_nine_lem = refl;
      high_challenge = refl;
      short = refl;
      short_drawn = refl;
      read_97 = refl;
      read_64 = refl;
      new_17 = refl;
      new_97 = refl;
      new_64 = refl;
      new_open = refl;
      new_no_prime = refl;
      new_label = refl;
    }
