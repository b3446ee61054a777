-- The rows and positions of a joined sheet, and those of the two sheets that they come from: n rows each, with l and m public inputs.
--
-- source_one, source_two, source_three, source_four   the four kinds of rows, in their order, and the rows that stand there
-- by_kind            what holds of each kind holds of all 2n rows
-- Below n s          a row of either sheet, below n
-- source_below       each row of the joined sheet comes from a row below n
-- Stands m P         there is a row or position of the joined sheet with P, below m
-- one_stands, two_stands   each row of the first stands at some row of the joined sheet, and so does each of the second
-- joined_position    the number at a column and a row of the joined sheet
-- at_one, at_two     each position of the first stands at some position of the joined sheet, and so does each of the second
-- joined_word        a word of a buffer of the joined sheet that is lent column after column
--
-- Assumes nothing.
use Rattle.std.specs.Prelude.{◌≡◌, ◌⊎◌, ℕ, ◌+◌, ◌*◌, ◌-◌, ◌/◌, ◌%◌, ◌≤◌, ◌<◌, get_or}
use Rattle.std.proofs.Common.{ap, subst, ◌∙◌, inl, inr, mod-lt, div-lt_iff_lt-mul, div-add-mod'}
use Rattle.std.proofs.Math.Decide.{dec_lt}
use native.Mathlib.Omega.{arith}
use borrow.Author.Tests.{lt-ltb, le-ltb}
use Rattle.algebra.specs.Ends.{run_room}
use Rattle.algebra.specs.Lists.{tab}
use Rattle.algebra.specs.Tables.{get_or-tab}
use Rattle.circuit.specs.Circuit.{position}
use Rattle.circuit.specs.Positions.{position-column, position_row}
use Rattle.joining.specs.Joining.{source_row, from_row, joined_at}

module _ (n l m : ℕ) where
  pub source_one : (r : ℕ) → r < l → source_row n l m r ≡ inl r
  unfolding source_row
  source_one r h = rw (lt-ltb r l h)

  pub source_two : (r : ℕ) → r < m → source_row n l m (l + r) ≡ inr r
  unfolding source_row
  source_two r h =
      let q : l + r - l ≡ r = omega arith in
      rw (le-ltb (l + r) l (omega arith), lt-ltb (l + r) (l + m) (omega arith), q)

  pub source_three : (r : ℕ) → l ≤ r → r < n → source_row n l m (r + m) ≡ inl r
  unfolding source_row
  source_three r g h =
      let q : r + m - m ≡ r = omega arith in
      rw (le-ltb (r + m) l (omega arith), le-ltb (r + m) (l + m) (omega arith), lt-ltb (r + m) (n + m) (omega arith), q)

  pub source_four : (r : ℕ) → l ≤ n → m ≤ r → source_row n l m (n + r) ≡ inr r
  unfolding source_row
  source_four r f g =
      let q : n + r - n ≡ r = omega arith in
      rw (le-ltb (n + r) l (omega arith), le-ltb (n + r) (l + m) (omega arith), le-ltb (n + r) (n + m) (omega arith), q)

  module _ (few : l ≤ n) (few' : m ≤ n) where
    pub by_kind : (P : ℕ → Type 0) → ((r : ℕ) → r < l → P r) → ((r : ℕ) → r < m → P (l + r)) → ((r : ℕ) → l ≤ r → r < n → P (r + m))
        → ((r : ℕ) → m ≤ r → r < n → P (n + r)) → (i : ℕ) → i < 2 * n → P i
    by_kind P one two three four i h = go (dec_lt i l) (dec_lt i (l + m)) (dec_lt i (n + m))
      where
        go : Dec (i < l) → Dec (i < l + m) → Dec (i < n + m) → P i
        go (yes a) b c = one i a
        go (no a) (yes b) c = let q : l + (i - l) ≡ i = omega arith in subst P q (two (i - l) (omega arith))
        go (no a) (no b) (yes c) = let q : i - m + m ≡ i = omega arith in subst P q (three (i - m) (omega arith) (omega arith))
        go (no a) (no b) (no c) = let q : n + (i - n) ≡ i = omega arith in subst P q (four (i - n) (omega arith) (omega arith))

-- a row of either sheet, below n
abbrev pub Below : ℕ → ℕ ⊎ ℕ → Type 0
Below n (inl r) = r < n
Below n (inr r) = r < n

pub record Stands (m : ℕ) (P : ℕ → Type 0) : Type 0 where
  pub at : ℕ
  pub within : at < m
  pub there : P at

module _ (n l m : ℕ) (few : l ≤ n) (few' : m ≤ n) where
  pub source_below : (i : ℕ) → i < 2 * n → Below n (source_row n l m i)
  source_below =
      by_kind n l m few few' (λ i. Below n (source_row n l m i))
      (λ r h. rw (source_one n l m r h) (omega arith))
      (λ r h. rw (source_two n l m r h) (omega arith))
      (λ r g h. rw (source_three n l m r g h) h)
      (λ r g h. rw (source_four n l m r few g) h)

  pub one_stands : (r : ℕ) → r < n → Stands (2 * n) (λ i. source_row n l m i ≡ inl r)
  one_stands r h = go (dec_lt r l)
    where
      go : Dec (r < l) → Stands (2 * n) (λ i. source_row n l m i ≡ inl r)
      go (yes a) = record { at = r; within = omega arith; there = source_one n l m r a }
      go (no a) = record { at = r + m; within = omega arith; there = source_three n l m r (omega arith) h }

  pub two_stands : (r : ℕ) → r < n → Stands (2 * n) (λ i. source_row n l m i ≡ inr r)
  two_stands r h = go (dec_lt r m)
    where
      go : Dec (r < m) → Stands (2 * n) (λ i. source_row n l m i ≡ inr r)
      go (yes a) = record { at = l + r; within = omega arith; there = source_two n l m r a }
      go (no a) = record { at = n + r; within = omega arith; there = source_four n l m r few (omega arith) }

-- POSITIONS

module _ (n l m : ℕ) where
  pub joined_position : (f g : ℕ → ℕ) (c i : ℕ) → i < 2 * n
      → joined_at n l m f g (position (2 * n) c i) ≡ from_row (λ r. f (position n c r)) (λ r. g (position n c r)) (source_row n l m i)
  unfolding joined_at
  joined_position f g c i h = rw (position-column (2 * n) c i h, position_row (2 * n) c i h)

  pub joined_word : (columns : ℕ) (f g : ℕ → ℕ) (c i : ℕ) → c < columns → i < 2 * n
      → get_or (tab (joined_at n l m f g) (columns * (2 * n))) (position (2 * n) c i) 0
      ≡ from_row (λ r. f (position n c r)) (λ r. g (position n c r)) (source_row n l m i)
  joined_word columns f g c i h k =
      get_or-tab (joined_at n l m f g) (columns * (2 * n)) (position (2 * n) c i) (omega (arith, run_room c columns (2 * n) h))
      ∙ joined_position f g c i k

  module _ (few : l ≤ n) (few' : m ≤ n) (some : 0 < n) where
    column : (k : ℕ) → k < 3 * n → k / n < 3
    column k h = (div-lt_iff_lt-mul {x = k} {y = 3} some).1 h

    -- the position in the column of position k, and in a row at which the row t stands
    at_row : (k : ℕ) → k < 3 * n → (t : ℕ ⊎ ℕ) → Stands (2 * n) (λ i. source_row n l m i ≡ t)
        → Stands (3 * (2 * n)) (λ j. (f g : ℕ → ℕ) → joined_at n l m f g j ≡ from_row (λ r. f (position n (k / n) r)) (λ r. g (position n (k / n) r)) t)
    at_row k h t row =
        record {
          at = position (2 * n) (k / n) row.at;
          within = omega (arith, row.within, run_room (k / n) 3 (2 * n) (column k h));
          there = λ f g.
              joined_position f g (k / n) row.at row.within
              ∙ ap (from_row (λ r. f (position n (k / n) r)) (λ r. g (position n (k / n) r))) row.there;
        }

    pub at_one : (k : ℕ) → k < 3 * n → Stands (3 * (2 * n)) (λ j. (f g : ℕ → ℕ) → joined_at n l m f g j ≡ f k)
    at_one k h =
        let a = at_row k h (inl (k % n)) (one_stands n l m few few' (k % n) (mod-lt k some)) in
        record { at = a.at; within = a.within; there = λ f g. a.there f g ∙ ap f (div-add-mod' k n) }

    pub at_two : (k : ℕ) → k < 3 * n → Stands (3 * (2 * n)) (λ j. (f g : ℕ → ℕ) → joined_at n l m f g j ≡ g k)
    at_two k h =
        let a = at_row k h (inr (k % n)) (two_stands n l m few few' (k % n) (mod-lt k some)) in
        record { at = a.at; within = a.within; there = λ f g. a.there f g ∙ ap g (div-add-mod' k n) }
