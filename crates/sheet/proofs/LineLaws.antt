-- The lines of a sheet: the search for the first one out of form, and the table that is filled line by line.
--
-- bad_before           what is found before line m is found before a later one too
-- bad_behind           where nothing is found before line m, the search goes on from there
-- second_start         where line 1 starts
-- next_start           where the line behind line i starts
-- part_long            the words that are lent for k numbers are k
-- held_none, held_more   the table before the first line, and after one line more
--
-- Assumes nothing.
use mathlib.Core.Path.{◌≡◌, refl, sym, ap, ap₂, ◌∙◌}
use mathlib.Core.Bool.{Bool, false, true≢false}
use mathlib.Core.List.{List, ◌++◌}
use Prim.Native.Nat.{ℕ, ◌+◌, ◌-◌, ◌≤◌, ◌<◌}
use native.Mathlib.Decide.{dec_lt}
use native.Mathlib.Numerals.{add-one}
use native.Mathlib.Omega.{arith}
use lib.ListN.{length, get_or, take, get_or-append}
use lib.Seq.{length-take-le, get_or-take, get_or-append-add}
use borrow.Rule.Slice.PartMut.{put_mid, mid_of, post_of, mid_len}
use Rattle.algebra.specs.Lists.{tab}
use Rattle.algebra.specs.Search.{First, first_is}
use Rattle.algebra.specs.Tables.{length-tab, get_or-tab}
use Rattle.text.specs.Text.{number_at, field_at}
use Rattle.sheet.specs.Sheet.{fields_due, line_at, number_of, is_bad, bad_from}
use Rattle.sheet.specs.Table.{table_place, Held}
use Rattle.sheet.specs.Due.{due_most}

-- what is first is so once
once : {test : ℕ → Bool} {start count r r' : ℕ} → First test start count r → First test start count r' → r ≡ r'
once {test} {start} {count} {r} {r'} f g = go (dec_lt r r') (dec_lt r' r)
  where
    go : Dec (r < r') → Dec (r' < r) → r ≡ r'
    go (yes h) k = absurd (true≢false (sym (f.hit (omega (arith, g.high))) ∙ g.none r f.low h))
    go (no h) (yes k) = absurd (true≢false (sym (g.hit (omega (arith, f.high))) ∙ f.none r' g.low k))
    go (no h) (no k) = omega arith

module _ (s : List ℕ) (n l i : ℕ) where
  abbrev searched : (m : ℕ) → First (is_bad s n l) i (m - i) (bad_from s n l i m)
  searched m = first_is (is_bad s n l) i (m - i)

  pub bad_before : (m k : ℕ) → m ≤ k → bad_from s n l i m < m → bad_from s n l i k ≡ bad_from s n l i m
  bad_before m k h g =
      let f = searched m in
      once (searched k) record { low = f.low; high = omega (arith, f.low); none = f.none; hit = λ u. f.hit (omega (arith, f.low)) }

  pub bad_behind : (m k : ℕ) → i ≤ m → m ≤ k → bad_from s n l i m ≡ m → bad_from s n l i k ≡ bad_from s n l m k
  bad_behind m k g h e =
      let b = first_is (is_bad s n l) m (k - m) in
      once (searched k)
      record {
        low = omega (arith, b.low);
        high = omega (arith, b.high);
        none = λ j u v. at j u v (dec_lt j m);
        hit = λ u. b.hit (omega arith);
      }
    where
      at : (j : ℕ) → i ≤ j → j < bad_from s n l m k → Dec (j < m) → is_bad s n l j ≡ false
      at j u v (yes w) = (searched m).none j u (omega arith)
      at j u v (no w) = (first_is (is_bad s n l) m (k - m)).none j (omega arith) v

pub second_start : (s : List ℕ) (n l : ℕ) → field_at s 0 3 ≡ line_at s n l 1
unfolding line_at fields_due
second_start s n l = refl

pub next_start : (s : List ℕ) (n l i at k next : ℕ) → next ≡ field_at s at k → at ≡ line_at s n l i → k ≡ fields_due n l i → next ≡ line_at s n l (i + 1)
unfolding line_at
next_start s n l i at k next e f g = e ∙ ap₂ (field_at s) f g ∙ ap (line_at s n l) (sym (add-one i))

pub part_long : (from to k : ℕ) (t : List ℕ) → to ≡ from + k → to ≤ length t → length (mid_of from (to - from) t) ≡ k
part_long from to k t e room = let q : to - from ≡ k = omega arith in mid_len from to t room ∙ q

pub held_none : (s : List ℕ) (n l : ℕ) (t : List ℕ) → Held s n l 1 t
held_none s n l t = record { number = λ i j g h f. absurd (omega arith) }

-- line i is read into its words, from `from` to `to`
module _ (s : List ℕ) (n l i k at from to : ℕ) (t ys : List ℕ) (few : k ≡ fields_due n l i) (starts : at ≡ line_at s n l i)
    (begins : from ≡ table_place i 0) (ends : to ≡ table_place i k) (room : to ≤ length t)
    (is : ys ≡ tab (λ j. number_at s (field_at s at j)) (length (mid_of from (to - from) t))) where
  abbrev after : List ℕ
  after = put_mid from (to - from) t ys

  front : length (take from t) ≡ from
  front = length-take-le from t (omega arith)

  long : length (mid_of from (to - from) t) ≡ k
  long = part_long from to k t (omega arith) room

  ys_long : length ys ≡ k
  ys_long = ap length is ∙ length-tab (λ j. number_at s (field_at s at j)) (length (mid_of from (to - from) t)) ∙ long

  before : (m : ℕ) → m < from → get_or after m 0 ≡ get_or t m 0
  before m h =
      get_or-append (take from t) (ys ++ post_of from (to - from) t) 0 m (omega (arith, front))
      ∙ get_or-take from t m 0 h

  here : (j : ℕ) → j < k → get_or after (table_place i j) 0 ≡ number_of s n l i j
  unfolding number_of
  here j h =
      ap (λ (m : ℕ). get_or after m 0) (omega (arith, front))
      ∙ get_or-append-add (take from t) (ys ++ post_of from (to - from) t) j 0
      ∙ get_or-append ys (post_of from (to - from) t) 0 j (omega (arith, ys_long))
      ∙ ap (λ (l : List ℕ). get_or l j 0) is
      ∙ get_or-tab (λ j. number_at s (field_at s at j)) (length (mid_of from (to - from) t)) j (omega (arith, long))
      ∙ ap (λ (a : ℕ). number_at s (field_at s a j)) starts

  pub held_more : Held s n l i t → Held s n l (i + 1) after
  held_more held = record { number = λ m j g h f. go m j g h f (dec_lt m i) }
    where
      go : (m j : ℕ) → 0 < m → m < i + 1 → j < fields_due n l m → Dec (m < i) → get_or after (table_place m j) 0 ≡ number_of s n l m j
      go m j g h f (yes u) = before (table_place m j) (omega (arith, due_most n l m)) ∙ held.number m j g u f
      go m j g h f (no u) =
          let q : m ≡ i = omega arith in
          let w : j < fields_due n l i = rw (← q) f in
          ap (λ (m : ℕ). get_or after (table_place m j) 0) q ∙ here j (omega (arith, few, w)) ∙ ap (λ (m : ℕ). number_of s n l m j) (sym q)
