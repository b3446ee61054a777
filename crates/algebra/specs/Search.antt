-- The first number that passes a test, and the laws of a loop that looks for it: after i numbers, the search goes on as `first t i (n - i)`.
--
-- First t s c r   r is the first of the c numbers from s on that passes the test t, or s + c where none does
-- first_is        `first` is
-- first_some      where a number passes, the first one is no higher, and passes
-- first_none      where none of 0 .. n - 1 passes, it is n
-- first_le        it is at most n
-- none_of         where it is n, none passes
-- first_same      what is first is so once
-- found           what no lower number passes, and what passes unless it is n, is the first one
-- first_ext       tests that agree below n have one first number
-- both_false, one_true   a test that is the disjunction of two: it fails where both fail; where it passes, one passes
-- first_position  what the library's search of a list gives, the list's length where nothing passes, is `first` of its elements
-- first_stop, first_skip, first_end   the loop: the test passes, it fails, there is nothing left
--
-- Assumes nothing.
use Rattle.std.specs.Prelude.{◌≡◌, refl, ◌⊎◌, Bool, true, false, ◌||◌, List, length, get_or, ltb, cond, Some, None}
use Rattle.std.specs.List.{position, position_or_len}
use Rattle.std.specs.Option.{unwrap_or}
use Rattle.std.proofs.Common.{sym, ap, ◌∙◌, inl, inr, true≢false}
use borrow.Author.Tests.{ltb-false}
use Prim.Native.Nat.{ℕ, zero, suc, ◌+◌, ◌-◌, ◌≤◌, ◌<◌}
use Rattle.std.proofs.Math.Decide.{ℕ_discrete, dec_lt}
use Rattle.std.proofs.Math.Numerals.{add-one}
use native.Mathlib.Omega.{arith}
use Rattle.std.proofs.lemmas.List.Sums.{position_or_len_is}
use Rattle.algebra.specs.Modular.{first}

pub record First (test : ℕ → Bool) (start count r : ℕ) : Type 0 where
  pub low : start ≤ r
  pub high : r ≤ start + count
  pub none : (j : ℕ) → start ≤ j → j < r → test j ≡ false
  pub hit : r < start + count → test r ≡ true

pub first_is : (test : ℕ → Bool) (start count : ℕ) → First test start count (first test start count)
unfolding first
first_is test start zero = record { low = omega arith; high = omega arith; none = λ j l h. absurd (omega arith); hit = λ h. absurd (omega arith) }
first_is test start (suc count) = go (test start) refl (first_is test (suc start) count)
  where
    go : (b : Bool) → test start ≡ b → First test (suc start) count (first test (suc start) count)
        → First test start (suc count) (elim b [ true ↦ start | false ↦ first test (suc start) count ])
    go true e f = record { low = omega arith; high = omega arith; none = λ j l h. absurd (omega arith); hit = λ h. e }
    go false e f =
        record {
          low = omega (arith, f.low);
          high = omega (arith, f.high);
          none = λ j l h. at j l h (ℕ_discrete start j);
          hit = λ h. f.hit (omega arith);
        }
      where
        at : (j : ℕ) → start ≤ j → j < first test (suc start) count → Dec (start ≡ j) → test j ≡ false
        at j l h (yes u) = ap test (sym u) ∙ e
        at j l h (no u) = f.none j (omega arith) h

pub first_some : (test : ℕ → Bool) (start count r : ℕ) → First test start count r → (j : ℕ) → start ≤ j → j < start + count → test j ≡ true
    → (r ≤ j) × (test r ≡ true)
first_some test start count r f j l h e = go (dec_lt j r)
  where
    go : Dec (j < r) → (r ≤ j) × (test r ≡ true)
    go (yes k) = absurd (true≢false (sym e ∙ f.none j l k))
    go (no k) = (omega arith, f.hit (omega arith))

pub first_none : (test : ℕ → Bool) (n : ℕ) → ((k : ℕ) → k < n → test k ≡ true → ⊥) → first test 0 n ≡ n
first_none test n h = go (dec_lt (first test 0 n) n)
  where
    f : First test 0 n (first test 0 n)
    f = first_is test 0 n

    go : Dec (first test 0 n < n) → first test 0 n ≡ n
    go (yes l) = absurd (h (first test 0 n) l (f.hit (omega arith)))
    go (no l) = omega (arith, f.high)

pub first_le : (test : ℕ → Bool) (m : ℕ) → first test 0 m ≤ m
first_le test m = omega (arith, (first_is test 0 m).high)

pub none_of : (test : ℕ → Bool) (m : ℕ) → first test 0 m ≡ m → (k : ℕ) → k < m → test k ≡ false
none_of test m e k l = (first_is test 0 m).none k (omega arith) (omega arith)

pub first_same : {test : ℕ → Bool} {n r s : ℕ} → First test 0 n r → First test 0 n s → r ≡ s
first_same {test} {n} {r} {s} f g = go (dec_lt r s) (dec_lt s r)
  where
    go : Dec (r < s) → Dec (s < r) → r ≡ s
    go (yes h) k = absurd (true≢false (sym (f.hit (omega (arith, g.high))) ∙ g.none r (omega arith) h))
    go (no h) (yes k) = absurd (true≢false (sym (g.hit (omega (arith, f.high))) ∙ f.none s (omega arith) k))
    go (no h) (no k) = omega arith

pub first_ext : (test other : ℕ → Bool) (n : ℕ) → ((k : ℕ) → k < n → test k ≡ other k) → first test 0 n ≡ first other 0 n
first_ext test other n h =
    let f = first_is test 0 n in
    let g = first_is other 0 n in
    first_same f
    record {
      low = g.low;
      high = g.high;
      none = λ j l k. h j (omega (arith, g.high)) ∙ g.none j l k;
      hit = λ l. h (first other 0 n) (omega arith) ∙ g.hit l;
    }

-- A TEST THAT IS THE DISJUNCTION OF TWO

pub both_false : (a b : Bool) → (a || b) ≡ false → (a ≡ false) × (b ≡ false)
both_false true b e = absurd (true≢false e)
both_false false b e = (refl, e)

pub one_true : (a b : Bool) → (a || b) ≡ true → (a ≡ true) ⊎ (b ≡ true)
one_true true b e = inl refl
one_true false b e = inr e

-- THE LOOP

module _ (test : ℕ → Bool) (n i : ℕ) where
  pub first_stop : i < n → test i ≡ true → first test i (n - i) ≡ i
  unfolding first
  first_stop h e = let s : n - i ≡ suc (n - (i + 1)) = omega arith in rw (s, e, first)

  pub first_skip : i < n → test i ≡ false → first test i (n - i) ≡ first test (i + 1) (n - (i + 1))
  unfolding first
  first_skip h e = let s : n - i ≡ suc (n - (i + 1)) = omega arith in rw (s, e, first, add-one i)

  pub first_end : n ≤ i → first test i (n - i) ≡ i
  unfolding first
  first_end h = let s : n - i ≡ 0 = omega arith in rw s

pub found : (test : ℕ → Bool) (n r : ℕ) → r ≤ n → ((k : ℕ) → k < r → test k ≡ false) → (r < n → test r ≡ true) → r ≡ first test 0 n
found test n r l none hit =
    first_same record { low = omega arith; high = omega arith; none = λ j l h. none j h; hit = λ h. hit (omega arith) } (first_is test 0 n)

pub first_position : (test : ℕ → Bool) (xs : List ℕ) → unwrap_or (position test xs) (length xs) ≡ first (λ k. test (get_or xs k 0)) 0 (length xs)
first_position test xs =
    let f = first_is (λ k. test (get_or xs k 0)) 0 (length xs) in
    let e : position_or_len test xs ≡ first (λ k. test (get_or xs k 0)) 0 (length xs) =
    position_or_len_is test xs (first (λ k. test (get_or xs k 0)) 0 (length xs)) 0 (first_le _ _) (λ k l. f.none k (omega arith) l)
    (λ h. f.hit (omega arith))
    in
    let l : position_or_len test xs ≤ length xs = rw e (first_le _ _) in
    go l (ltb (position_or_len test xs) (length xs)) refl ∙ e
  where
    go : position_or_len test xs ≤ length xs → (b : Bool) → ltb (position_or_len test xs) (length xs) ≡ b
        → unwrap_or (cond b (Some (position_or_len test xs)) None) (length xs) ≡ position_or_len test xs
    go l true e = refl
    go l false e = omega (arith, ltb-false)
