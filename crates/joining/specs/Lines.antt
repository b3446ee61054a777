-- What the functions that put the joined sheet ask and promise: its lines, read off the tables t and u of the two sheets.
--
-- source_as s                 the row that stands at a row, as the enum of `source_of`
-- number_in raise t i j       number j of line i of a table: as it is before the field of the labels, raised from there on
-- line_in raise t i k         the k numbers of line i
-- Raisable raise t i k        a table has a line i of k numbers, and those raised are words
-- row_in n l m start k t u i  the line of row i of the joined sheet, of k numbers: the rows stand from line `start` of either sheet on, and the labels of the second are
--                             raised by 3n. So it is a gate line (1 and gate_fields), or the wire values (n + 1 and 3, which end before the field of the labels)
-- RowLines n l m start k t u   what this asks of the tables of two sheets of n rows, with l and m public inputs
-- Tables n l m t u            the tables can be joined
-- public_in n t i             the line of public input i
-- table_text p n l m t u      the joined sheet
--
-- Assumes nothing.
use Rattle.std.specs.Prelude.{◌≡◌, ◌⊎◌, cond, List, [], ◌∷◌, ◌++◌, ℕ, ◌+◌, ◌*◌, ◌≤◌, ◌<◌, ltb, length, get_or}
use Rattle.std.proofs.Common.{inl, inr}
use Rattle.algebra.specs.Lists.{tab}
use Rattle.transform.specs.Parts.{laid}
use Rattle.text.specs.Text.{line_of}
use Rattle.sheet.specs.Sheet.{sheet_rows, challenge_count, label_field, gate_fields}
use Rattle.sheet.specs.Table.{line_words, table_lines, table_length, table_place}
use Rattle.joining.specs.declared.rows.Source.{Source}
use Rattle.joining.specs.declared.rows.Source.TheVariants.{First, Second}
use Rattle.joining.specs.Joining.{source_row, from_row}

abbrev pub source_as : ℕ ⊎ ℕ → Source
source_as (inl r) = First r
source_as (inr r) = Second r

abbrev pub number_in : (raise : ℕ) (t : List ℕ) (i j : ℕ) → ℕ
number_in raise t i j = cond (ltb j label_field) (get_or t (table_place i j) 0) (raise + get_or t (table_place i j) 0)

abbrev pub line_in : (raise : ℕ) (t : List ℕ) (i k : ℕ) → List ℕ
line_in raise t i k = tab (number_in raise t i) k

pub record Raisable (raise : ℕ) (t : List ℕ) (i k : ℕ) : Type 0 where
  pub long : length t ≡ table_length
  pub line : i < table_lines
  pub fields : k ≤ line_words
  pub small : (j : ℕ) → label_field ≤ j → j < k → raise + get_or t (table_place i j) 0 < 4294967296

abbrev pub row_in : (n l m start k : ℕ) (t u : List ℕ) → ℕ → List ℕ
row_in n l m start k t u i = from_row (λ r. line_in 0 t (start + r) k) (λ r. line_in (3 * n) u (start + r) k) (source_row n l m i)

pub record RowLines (n l m start k : ℕ) (t u : List ℕ) : Type 0 where
  pub few : 2 * n ≤ sheet_rows
  pub one_few : l ≤ n
  pub two_few : m ≤ n
  pub some : 0 < k
  pub one_lines : (r : ℕ) → r < n → Raisable 0 t (start + r) k
  pub two_lines : (r : ℕ) → r < n → Raisable (3 * n) u (start + r) k

-- the labels, which stand on the gate lines, are below 3n
pub record Tables (n l m : ℕ) (t u : List ℕ) : Type 0 where
  pub few : 2 * n ≤ sheet_rows
  pub one_few : l ≤ n
  pub two_few : m ≤ n
  pub one_long : length t ≡ table_length
  pub two_long : length u ≡ table_length
  pub one_labels : (r j : ℕ) → r < n → label_field ≤ j → j < gate_fields → get_or t (table_place (1 + r) j) 0 < 3 * n
  pub two_labels : (r j : ℕ) → r < n → label_field ≤ j → j < gate_fields → get_or u (table_place (1 + r) j) 0 < 3 * n

abbrev pub public_in : ℕ → List ℕ → ℕ → List ℕ
public_in n t i = line_in 0 t (n + n + 1 + i) 1

abbrev pub table_text : (p n l m : ℕ) (t u : List ℕ) → List ℕ
table_text p n l m t u =
    line_of (p ∷ (2 * n) ∷ (l + m) ∷ [])
    ++ (laid (λ i. line_of (row_in n l m 1 gate_fields t u i)) (2 * n)
    ++ (laid (λ i. line_of (row_in n l m (n + 1) 3 t u i)) (2 * n)
    ++ (laid (λ i. line_of (public_in n t i)) l
    ++ (laid (λ i. line_of (public_in n u i)) m
    ++ line_of (line_in 0 t (n + n + l + 1) challenge_count)))))
