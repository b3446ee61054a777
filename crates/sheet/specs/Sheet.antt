-- The sheet (document 01, "The sheet"): which bytes are one, and the numbers that stand on it. Lines count from 0 here.
--
-- sheet_rows             the greatest number of rows on a sheet; the lent buffers have the lengths that so many rows need
-- challenge_count        the challenges on a sheet
-- drawn_count            the length of the buffer that challenges and blinders are laid in
-- label_field            the fields before the labels on a gate line: its selectors
-- gate_fields            the fields of a gate line: those, and three labels
-- LINES
-- fields_due n l i       how many numbers line i has: 3 on the first, then those of n gate lines, n lines of 3, l of 1, one of the challenges, and one of the blinders
-- plain_lines n l        how many lines there are up to that of the challenges
-- lines_due e n l        how many lines there are, with e lines (0 or 1) of blinders
-- line_at s n l i        where line i starts
-- number_of s n l i j    number j of line i
-- sheet_p, sheet_n, sheet_l   p, n and l: the numbers of the first line
-- is_blinded s n l       something stands behind the line of the challenges (document 02, request 9): it is the line of the blinders
-- sheet_blinded s n l    the same as a number: how many such lines the sheet has
-- sheet_of s             p, n and l, and whether the sheet has such a line
-- is_bad s n l i         line i is missing or out of form
-- bad_from s n l i m     the lowest such line from line i on; m where there is none before line m
-- bad_line s n l         the lowest from line 1 on; the number of lines due where there is none
-- is_extra s n l         something stands behind the last line that is due
-- NUMBERS AS THEY ARE LENT
-- on_position s n l k    the wire value of position k
-- on_selectors, on_labels, on_witness_with L, on_publics, on_challenges, on_blinders   number k of each kind; the witness is lent by the layout L
-- blinders_on s n l      the blinders of the sheet: none where their line is absent
-- padded m f count       count numbers, and zeros behind them up to m
-- drawn_on s n l         challenges and blinders as they are laid in one buffer, zeros where the line of the latter is absent
-- REASONS
-- too_long s             the sheet has more than 65,536 bytes
-- sheet_elements_with L s n l   the elements in the order of 7
-- bad_first s            1: the sheet is too long, or its first line is missing or out of form
-- first_reasons          of the first line: this, and those of p, n and l, which stand on it
-- line_reasons           of the lines behind it
-- sheet_due bytes        the lengths due, for a sheet of so many bytes
-- sheet_numbers_with L   of the elements, labels and public rows, as they are lent
-- behind_reasons_with L  all reasons behind those of the first line; `lengths` are those of a call's lent buffers, which stand between the lines and the numbers
-- read_reasons_with L s lengths   all reasons of a call that reads the sheet s
-- sheet_lengths          6 of `read`, for the lengths of the five lent buffers
-- sheet_reasons_with L   all reasons of `read`
-- new_reasons_with L s lengths, new_answer_with L s   for a call that takes s as a new sheet (document 02, request 7): 16 straight after 2; the answer of its own reasons,
--                        the buffers having the lengths due
-- BY THE LAYOUT OF TODAY
-- on_witness, sheet_elements, sheet_numbers, behind_reasons, read_reasons, sheet_reasons, new_reasons, new_answer   the same, row by row
-- read_answer s          the answer of the sheet's own reasons: of reading it into buffers of the lengths due
--
-- Assumes nothing.
use Rattle.std.specs.Prelude.{Bool, not, cond, ◌||◌, List, [], ◌∷◌, ◌++◌, ℕ, zero, suc, ◌+◌, ◌*◌, ◌-◌, ◌/◌, ◌%◌, eqb, leb, ltb, length, replicate}
use Rattle.algebra.specs.Lists.{tab}
use Rattle.algebra.specs.Modular.{first}
use Rattle.field.specs.Reasons.{Answer, Reason, answer_of, shape_reasons, bad_lengths, current_only}
use Rattle.circuit.specs.Circuit.{Layout, by_rows}
use Rattle.circuit.specs.Buffers.{selector_count, blinder_count, selectors_length, labels_length, witness_length}
use Rattle.circuit.specs.Reasons.{number_reasons}
use Rattle.text.specs.Text.{number_at, field_at, is_line_at}
use Rattle.sheet.specs.declared.Sheet.{Sheet}

abbrev pub sheet_rows : ℕ
sheet_rows = 256

abbrev pub challenge_count : ℕ
challenge_count = 4

abbrev pub drawn_count : ℕ
drawn_count = challenge_count + blinder_count

abbrev pub label_field : ℕ
label_field = selector_count

abbrev pub gate_fields : ℕ
gate_fields = label_field + 3

-- LINES

unfoldable pub fields_due : ℕ → ℕ → ℕ → ℕ
fields_due n l i =
    cond (eqb i 0) 3
    (cond (leb i n) gate_fields (cond (leb i (n + n)) 3 (cond (leb i (n + n + l)) 1 (cond (leb i (n + n + l + 1)) challenge_count blinder_count))))

abbrev pub plain_lines : ℕ → ℕ → ℕ
plain_lines n l = n + n + l + 2

abbrev pub lines_due : ℕ → ℕ → ℕ → ℕ
lines_due e n l = plain_lines n l + e

unfoldable pub line_at : List ℕ → ℕ → ℕ → ℕ → ℕ
line_at s n l zero = 0
line_at s n l (suc i) = field_at s (line_at s n l i) (fields_due n l i)

unfoldable pub number_of : List ℕ → ℕ → ℕ → ℕ → ℕ → ℕ
number_of s n l i j = number_at s (field_at s (line_at s n l i) j)

-- the first line starts at 0, and has 3 numbers whatever n and l are
abbrev pub sheet_p : List ℕ → ℕ
sheet_p s = number_at s (field_at s 0 0)

abbrev pub sheet_n : List ℕ → ℕ
sheet_n s = number_at s (field_at s 0 1)

abbrev pub sheet_l : List ℕ → ℕ
sheet_l s = number_at s (field_at s 0 2)

unfoldable pub is_blinded : List ℕ → ℕ → ℕ → Bool
is_blinded s n l = ltb (line_at s n l (plain_lines n l)) (length s)

abbrev pub sheet_blinded : List ℕ → ℕ → ℕ → ℕ
sheet_blinded s n l = cond (is_blinded s n l) 1 0

abbrev pub sheet_of : List ℕ → Sheet
sheet_of s = record { p = sheet_p s; n = sheet_n s; l = sheet_l s; blinded = is_blinded s (sheet_n s) (sheet_l s) }

abbrev pub is_bad : List ℕ → ℕ → ℕ → ℕ → Bool
is_bad s n l i = not (is_line_at s (line_at s n l i) (fields_due n l i))

abbrev pub bad_from : (s : List ℕ) (n l i m : ℕ) → ℕ
bad_from s n l i m = first (is_bad s n l) i (m - i)

unfoldable pub bad_line : List ℕ → ℕ → ℕ → ℕ
bad_line s n l = bad_from s n l 1 (lines_due (sheet_blinded s n l) n l)

abbrev pub is_extra : List ℕ → ℕ → ℕ → Bool
is_extra s n l = ltb (line_at s n l (lines_due (sheet_blinded s n l) n l)) (length s)

-- NUMBERS AS THEY ARE LENT

-- selectors and labels are lent column after column: number k is in column k / n and row k % n
abbrev pub on_selectors : List ℕ → ℕ → ℕ → ℕ → ℕ
on_selectors s n l k = number_of s n l (suc (k % n)) (k / n)

abbrev pub on_labels : List ℕ → ℕ → ℕ → ℕ → ℕ
on_labels s n l k = number_of s n l (suc (k % n)) (label_field + k / n)

-- position k too is in column k / n and row k % n
abbrev pub on_position : List ℕ → ℕ → ℕ → ℕ → ℕ
on_position s n l k = number_of s n l (n + suc (k % n)) (k / n)

abbrev pub on_witness_with : Layout → List ℕ → ℕ → ℕ → ℕ → ℕ
on_witness_with L s n l j = on_position s n l (L.position_at n j)

abbrev pub on_publics : List ℕ → ℕ → ℕ → ℕ → ℕ
on_publics s n l k = number_of s n l (n + n + suc k) 0

abbrev pub on_challenges : List ℕ → ℕ → ℕ → ℕ → ℕ
on_challenges s n l k = number_of s n l (n + n + l + 1) k

abbrev pub on_blinders : List ℕ → ℕ → ℕ → ℕ → ℕ
on_blinders s n l k = number_of s n l (plain_lines n l) k

abbrev pub blinders_on : List ℕ → ℕ → ℕ → List ℕ
blinders_on s n l = tab (on_blinders s n l) (blinder_count * sheet_blinded s n l)

abbrev pub padded : ℕ → (ℕ → ℕ) → ℕ → List ℕ
padded m f count = tab f count ++ replicate (m - count) 0

abbrev pub drawn_on : List ℕ → ℕ → ℕ → List ℕ
drawn_on s n l = tab (on_challenges s n l) challenge_count ++ padded blinder_count (on_blinders s n l) (blinder_count * sheet_blinded s n l)

-- REASONS

abbrev pub too_long : List ℕ → Bool
too_long s = ltb 65536 (length s)

-- the elements in the order of 7: selectors, witness, public inputs, challenges, blinders
abbrev pub sheet_elements_with : Layout → List ℕ → ℕ → ℕ → List ℕ
sheet_elements_with L s n l =
    tab (on_selectors s n l) (selectors_length n)
    ++ (tab (on_witness_with L s n l) (witness_length n) ++ (tab (on_publics s n l) l ++ (tab (on_challenges s n l) challenge_count ++ blinders_on s n l)))

abbrev pub bad_first : List ℕ → Reason
bad_first s = record { number = 1; detail = 0; applies = too_long s || not (is_line_at s 0 3) }

abbrev pub first_reasons : List ℕ → List Reason
first_reasons s = bad_first s ∷ shape_reasons (sheet_p s) (sheet_n s) (sheet_l s) sheet_rows

abbrev pub line_reasons : List ℕ → ℕ → ℕ → List Reason
line_reasons s n l =
    record { number = 5; detail = suc (bad_line s n l); applies = ltb (bad_line s n l) (lines_due (sheet_blinded s n l) n l) || is_extra s n l } ∷ []

-- sheet, selectors, labels, witness, public inputs, challenges with the blinders behind them. The sheet has whatever length it has, so the first place never differs
abbrev pub sheet_due : ℕ → List ℕ
sheet_due bytes =
    bytes ∷ selectors_length sheet_rows ∷ labels_length sheet_rows ∷ witness_length sheet_rows ∷ sheet_rows ∷ drawn_count ∷ []

abbrev pub sheet_numbers_with : Layout → List ℕ → ℕ → ℕ → ℕ → List Reason
sheet_numbers_with L s p n l =
    number_reasons p n l (sheet_elements_with L s n l) (tab (on_selectors s n l) (selectors_length n)) (tab (on_labels s n l) (labels_length n))

abbrev pub behind_reasons_with : (L : Layout) (s : List ℕ) (p n l : ℕ) (lengths : List Reason) → List Reason
behind_reasons_with L s p n l lengths = line_reasons s n l ++ (lengths ++ sheet_numbers_with L s p n l)

abbrev pub read_reasons_with : (L : Layout) (s : List ℕ) (lengths : List Reason) → List Reason
read_reasons_with L s lengths = first_reasons s ++ behind_reasons_with L s (sheet_p s) (sheet_n s) (sheet_l s) lengths

abbrev pub sheet_lengths : (s : List ℕ) (selectors labels witness publics challenges : ℕ) → Reason
sheet_lengths s selectors labels witness publics challenges =
    bad_lengths (length s ∷ selectors ∷ labels ∷ witness ∷ publics ∷ challenges ∷ []) (sheet_due (length s))

abbrev pub sheet_reasons_with : (L : Layout) (s : List ℕ) (selectors labels witness publics challenges : ℕ) → List Reason
sheet_reasons_with L s selectors labels witness publics challenges = read_reasons_with L s (sheet_lengths s selectors labels witness publics challenges ∷ [])

abbrev pub new_reasons_with : (L : Layout) (s : List ℕ) (lengths : List Reason) → List Reason
new_reasons_with L s lengths = current_only (sheet_p s) (read_reasons_with L s lengths)

abbrev pub new_answer_with : Layout → List ℕ → Answer
new_answer_with L s = answer_of (new_reasons_with L s [])

-- BY THE LAYOUT OF TODAY

abbrev pub on_witness : List ℕ → ℕ → ℕ → ℕ → ℕ
on_witness = on_witness_with by_rows

abbrev pub sheet_elements : List ℕ → ℕ → ℕ → List ℕ
sheet_elements = sheet_elements_with by_rows

abbrev pub sheet_numbers : List ℕ → ℕ → ℕ → ℕ → List Reason
sheet_numbers = sheet_numbers_with by_rows

abbrev pub behind_reasons : (s : List ℕ) (p n l : ℕ) (lengths : List Reason) → List Reason
behind_reasons = behind_reasons_with by_rows

abbrev pub read_reasons : (s : List ℕ) (lengths : List Reason) → List Reason
read_reasons = read_reasons_with by_rows

abbrev pub sheet_reasons : (s : List ℕ) (selectors labels witness publics challenges : ℕ) → List Reason
sheet_reasons = sheet_reasons_with by_rows

abbrev pub read_answer : List ℕ → Answer
read_answer s = answer_of (read_reasons s [])

abbrev pub new_reasons : (s : List ℕ) (lengths : List Reason) → List Reason
new_reasons = new_reasons_with by_rows

abbrev pub new_answer : List ℕ → Answer
new_answer = new_answer_with by_rows
