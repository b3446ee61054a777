-- Laws of the lines that are put from the tables.
--
-- lines_none, lines_turn   lines put one after the other: none, and one more
-- source_first, source_second   the enum says from which sheet a row comes
-- first_below, second_below     and its row is below n
-- row_first, row_second         so the line of the row is one of that sheet
-- before_labels    a line that ends before the field of the labels has nothing to raise
-- gate_lines, wire_lines        of tables that can be joined, the gate lines and those of the wire values can be put
-- row_long, public_long         how long a line of a row is, and that of a public input
--
-- Assumes nothing.
use mathlib.Core.Path.{◌≡◌, sym, ap, subst}
use mathlib.Core.Logic.{◌⊎◌, inl, inr}
use mathlib.Core.Bool.{Bool, true, false, true≢false}
use mathlib.Core.List.{List}
use Prim.Native.Nat.{ℕ, ◌+◌, ◌*◌, ◌≤◌, ◌<◌}
use native.Mathlib.Numerals.{add-one}
use native.Mathlib.Omega.{arith}
use lib.ListN.{length}
use Rattle.algebra.specs.Tables.{length-tab}
use Rattle.transform.specs.Parts.{laid}
use Rattle.text.specs.Text.{line_of}
use Rattle.text.specs.Puts.{field_bytes, Puts, puts_none, puts_both}
use Rattle.sheet.specs.Sheet.{label_field, gate_fields}
use Rattle.sheet.specs.Table.{table_lines, table_length}
use Rattle.sheet.specs.Fits.{line_long}
use Rattle.joining.specs.declared.rows.Source.{Source}
use Rattle.joining.specs.declared.rows.Source.TheVariants.{First, Second}
use Rattle.joining.specs.Joining.{source_row, from_row}
use Rattle.joining.specs.Rows.{Below, source_below}
use Rattle.joining.specs.Lines.{source_as, line_in, Raisable, row_in, RowLines, Tables, public_in}

-- LINES ONE AFTER THE OTHER

pub lines_none : (f : ℕ → List ℕ) (at : ℕ) (out : List ℕ) → Puts at (laid f 0) out at out
unfolding laid
lines_none f at out = puts_none at out

pub lines_turn : {at r s : ℕ} {out out' out'' : List ℕ} (f : ℕ → List ℕ) (i : ℕ) → Puts at (laid f i) out r out' → Puts r (f i) out' s out''
    → Puts at (laid f (i + 1)) out s out''
unfolding laid
lines_turn f i P Q = rw (add-one i) (puts_both P Q)

-- WHERE A ROW COMES FROM

is_first : Source → Bool
is_first (First r) = true
is_first (Second r) = false

row_of : Source → ℕ
row_of (First r) = r
row_of (Second r) = r

pub source_first : (s : ℕ ⊎ ℕ) (r : ℕ) → First r ≡ source_as s → s ≡ inl r
unfolding is_first row_of
source_first (inl q) r e = ap inl (sym (ap row_of e))
source_first (inr q) r e = absurd (true≢false (ap is_first e))

pub source_second : (s : ℕ ⊎ ℕ) (r : ℕ) → Second r ≡ source_as s → s ≡ inr r
unfolding is_first row_of
source_second (inl q) r e = absurd (true≢false (sym (ap is_first e)))
source_second (inr q) r e = ap inr (sym (ap row_of e))

module _ (n l m i r : ℕ) (few : l ≤ n) (few' : m ≤ n) (h : i < 2 * n) where
  pub first_below : source_row n l m i ≡ inl r → r < n
  first_below e = subst (Below n) e (source_below n l m few few' i h)

  pub second_below : source_row n l m i ≡ inr r → r < n
  second_below e = subst (Below n) e (source_below n l m few few' i h)

module _ (n l m start k : ℕ) (t u : List ℕ) (i r : ℕ) where
  pub row_first : source_row n l m i ≡ inl r → line_in 0 t (start + r) k ≡ row_in n l m start k t u i
  row_first e = sym (ap (from_row (λ r. line_in 0 t (start + r) k) (λ r. line_in (3 * n) u (start + r) k)) e)

  pub row_second : source_row n l m i ≡ inr r → line_in (3 * n) u (start + r) k ≡ row_in n l m start k t u i
  row_second e = sym (ap (from_row (λ r. line_in 0 t (start + r) k) (λ r. line_in (3 * n) u (start + r) k)) e)

-- WHAT IS RAISED

pub before_labels : {raise i k : ℕ} (t : List ℕ) → length t ≡ table_length → i < table_lines → k ≤ label_field → Raisable raise t i k
before_labels t long line few = record { long = long; line = line; fields = omega arith; small = λ j g h. absurd (omega arith) }

module _ {n l m : ℕ} {t u : List ℕ} (T : Tables n l m t u) where
  pub gate_lines : RowLines n l m 1 gate_fields t u
  gate_lines =
      record {
        few = T.few;
        one_few = T.one_few;
        two_few = T.two_few;
        some = omega arith;
        one_lines = λ r h. record { long = T.one_long; line = omega arith; fields = omega arith; small = λ j g k. omega (arith, T.one_labels r j h g k) };
        two_lines = λ r h. record { long = T.two_long; line = omega arith; fields = omega arith; small = λ j g k. omega (arith, T.two_labels r j h g k) };
      }

  pub wire_lines : RowLines n l m (n + 1) 3 t u
  wire_lines =
      record {
        few = T.few;
        one_few = T.one_few;
        two_few = T.two_few;
        some = omega arith;
        one_lines = λ r h. before_labels t T.one_long (omega arith) (omega arith);
        two_lines = λ r h. before_labels u T.two_long (omega arith) (omega arith);
      }

-- HOW LONG A LINE IS

pub row_long : (n l m start k : ℕ) (t u : List ℕ) (i : ℕ) → 0 < k → length (line_of (row_in n l m start k t u i)) ≤ field_bytes * k
row_long n l m start k t u i some = go (source_row n l m i)
  where
    go : (s : ℕ ⊎ ℕ) → length (line_of (from_row (λ r. line_in 0 t (start + r) k) (λ r. line_in (3 * n) u (start + r) k) s)) ≤ field_bytes * k
    go (inl r) = line_long (line_in 0 t (start + r) k) k (length-tab _ k) some
    go (inr r) = line_long (line_in (3 * n) u (start + r) k) k (length-tab _ k) some

pub public_long : (n : ℕ) (t : List ℕ) (i : ℕ) → length (line_of (public_in n t i)) ≤ field_bytes
public_long n t i = line_long (public_in n t i) 1 (length-tab _ 1) (omega arith)
