-- The table of a sheet's numbers, which the reader fills before it lays them out, line after line.
--
-- line_words           the words of a line, the first of which are its numbers: no line has more
-- table_lines          the lines: no sheet has more
-- table_length         the words of the table
-- table_place i j      where field j of line i stands
-- column_block n line field count   a block of the table that is lent column after column: `count` numbers of n lines, from this line and this field on
-- row_block width line count         one that is lent row by row: `count` numbers of lines of `width` fields, from this line on
-- selectors_block, labels_block, witness_block, publics_block, challenges_block, blinders_block e   the blocks that are lent; e lines (0 or 1) are there of blinders
-- place_in B k, in_table t B k      where number k of a block stands, and the number
-- selectors_in, labels_in, witness_in, publics_in, challenges_in, blinders_in e   number k of each block that is lent
-- table_elements e n l t   the elements in the order of reason 7
-- table_drawn e n l t  challenges and blinders, as they are laid in one buffer
-- Held s n l m t       the table has the numbers of the lines from 1 to m - 1 of the sheet s
-- HeldAll s n l t      it has those of all lines
-- Tabled s n l blinded t   it has, and `blinded` says whether a line of blinders is there
-- Begins s n l i at t  what reading the lines from line i on asks: it starts at `at`, the lines before it are in the table, and all lines fit into it
-- Fits t B             the block lies within the table
-- Full n l t           the table has room for the lines of n rows and l public inputs
-- Room                 the five lent buffers have the lengths that sheet_rows rows need
-- Laid e n l t         the five lent buffers hold the blocks of the table
--
-- Assumes nothing.
use Rattle.std.specs.Prelude.{◌≡◌, Bool, List, ◌++◌, ℕ, ◌+◌, ◌*◌, ◌/◌, ◌%◌, ◌≤◌, ◌<◌, length, get_or}
use Rattle.algebra.specs.Lists.{tab}
use Rattle.circuit.specs.Buffers.{blinder_count, selectors_length, labels_length, witness_length}
use Rattle.sheet.specs.declared.blocks.Block.{Block}
use Rattle.sheet.specs.Sheet.{sheet_rows, challenge_count, drawn_count, label_field, fields_due, plain_lines, lines_due, line_at, number_of, is_blinded, sheet_blinded, padded}

abbrev pub line_words : ℕ
line_words = 9

abbrev pub table_lines : ℕ
table_lines = 771

abbrev pub table_length : ℕ
table_length = line_words * table_lines

abbrev pub table_place : ℕ → ℕ → ℕ
table_place i j = line_words * i + j

abbrev pub column_block : (n line field count : ℕ) → Block
column_block n line field count = record { start = table_place line field; run = n; step = line_words; leap = 1; count = count }

abbrev pub row_block : (width line count : ℕ) → Block
row_block width line count = record { start = table_place line 0; run = width; step = 1; leap = line_words; count = count }

abbrev pub selectors_block : ℕ → Block
selectors_block n = column_block n 1 0 (selectors_length n)

abbrev pub labels_block : ℕ → Block
labels_block n = column_block n 1 label_field (labels_length n)

abbrev pub witness_block : ℕ → Block
witness_block n = row_block 3 (n + 1) (witness_length n)

abbrev pub publics_block : ℕ → ℕ → Block
publics_block n l = row_block 1 (n + n + 1) l

abbrev pub challenges_block : ℕ → ℕ → Block
challenges_block n l = row_block challenge_count (n + n + l + 1) challenge_count

abbrev pub blinders_block : ℕ → ℕ → ℕ → Block
blinders_block e n l = row_block blinder_count (plain_lines n l) (blinder_count * e)

abbrev pub place_in : Block → ℕ → ℕ
place_in B k = B.start + B.step * (k % B.run) + B.leap * (k / B.run)

abbrev pub in_table : List ℕ → Block → ℕ → ℕ
in_table t B k = get_or t (place_in B k) 0

abbrev pub selectors_in : List ℕ → ℕ → ℕ → ℕ
selectors_in t n = in_table t (selectors_block n)

abbrev pub labels_in : List ℕ → ℕ → ℕ → ℕ
labels_in t n = in_table t (labels_block n)

abbrev pub witness_in : List ℕ → ℕ → ℕ → ℕ
witness_in t n = in_table t (witness_block n)

abbrev pub publics_in : List ℕ → ℕ → ℕ → ℕ → ℕ
publics_in t n l = in_table t (publics_block n l)

abbrev pub challenges_in : List ℕ → ℕ → ℕ → ℕ → ℕ
challenges_in t n l = in_table t (challenges_block n l)

abbrev pub blinders_in : List ℕ → ℕ → ℕ → ℕ → ℕ → ℕ
blinders_in t e n l = in_table t (blinders_block e n l)

abbrev pub table_elements : ℕ → ℕ → ℕ → List ℕ → List ℕ
table_elements e n l t =
    tab (selectors_in t n) (selectors_length n)
    ++ (tab (witness_in t n) (witness_length n)
    ++ (tab (publics_in t n l) l ++ (tab (challenges_in t n l) challenge_count ++ tab (blinders_in t e n l) (blinder_count * e))))

abbrev pub table_drawn : ℕ → ℕ → ℕ → List ℕ → List ℕ
table_drawn e n l t = tab (challenges_in t n l) challenge_count ++ padded blinder_count (blinders_in t e n l) (blinder_count * e)

pub record Held (s : List ℕ) (n l m : ℕ) (t : List ℕ) : Type 0 where
  pub number : (i j : ℕ) → 0 < i → i < m → j < fields_due n l i → get_or t (table_place i j) 0 ≡ number_of s n l i j

abbrev pub HeldAll : (s : List ℕ) (n l : ℕ) (t : List ℕ) → Type 0
HeldAll s n l t = Held s n l (lines_due (sheet_blinded s n l) n l) t

pub record Tabled (s : List ℕ) (n l : ℕ) (blinded : Bool) (t : List ℕ) : Type 0 where
  pub blinded_is : blinded ≡ is_blinded s n l
  pub held : HeldAll s n l t

pub record Full (n l : ℕ) (t : List ℕ) : Type 0 where
  pub some : 0 < n
  pub few : n ≤ sheet_rows
  pub publics : l ≤ n
  pub long : length t ≡ table_length

pub record Begins (s : List ℕ) (n l i at : ℕ) (t : List ℕ) : Type 0 where
  pub full : Full n l t
  pub short : length s ≤ 65536
  pub behind_first : 0 < i
  pub starts : at ≡ line_at s n l i
  pub within : at ≤ length s
  pub held : Held s n l i t

pub record Fits (t : List ℕ) (B : Block) : Type 0 where
  pub some : 0 < B.run
  pub within : (k : ℕ) → k < B.count → place_in B k < length t

pub record Room (selectors labels witness publics challenges : List ℕ) : Type 0 where
  pub selectors_long : length selectors ≡ selectors_length sheet_rows
  pub labels_long : length labels ≡ labels_length sheet_rows
  pub witness_long : length witness ≡ witness_length sheet_rows
  pub publics_long : length publics ≡ sheet_rows
  pub challenges_long : length challenges ≡ drawn_count

pub record Laid (e n l : ℕ) (t selectors labels witness publics challenges : List ℕ) : Type 0 where
  pub selectors-laid : selectors ≡ padded (selectors_length sheet_rows) (selectors_in t n) (selectors_length n)
  pub labels-laid : labels ≡ padded (labels_length sheet_rows) (labels_in t n) (labels_length n)
  pub witness-laid : witness ≡ padded (witness_length sheet_rows) (witness_in t n) (witness_length n)
  pub publics-laid : publics ≡ padded sheet_rows (publics_in t n l) l
  pub challenges_laid : challenges ≡ table_drawn e n l t
