-- Lines laid end to end, read one after the other.
--
-- laid_split     lists laid end to end, the first m and then the rest
-- laid_same      lists that agree are laid the same
-- laid_one       one list
-- laid_long      lists of at most `most` numbers each, laid end to end
-- LINES OF A TEXT of m lines: line i has the numbers `line i`, which are below 2^32, and as many as a sheet of n and l has there
-- starts         where line i starts
-- in_form        line i is in form
-- reads          its numbers are those that were written
-- OF A TEXT WITH NO LINE OF BLINDING NUMBERS
-- no_blinders    none is found
-- no_bad         no line is out of form
-- no_extra       nothing stands behind the last
--
-- Assumes nothing.
use Rattle.std.specs.Prelude.{◌≡◌, true, false, not, ltb}
use Rattle.std.proofs.Math.Path.{refl, sym, ap, ap₂, subst}
use Rattle.std.proofs.Common.{◌∙◌, true≢false, mul-suc, arith, length-append, le-ltb}
use mathlib.Core.List.{List, ◌++◌, append_assoc, append-nil}
use Prim.Native.Nat.{ℕ, zero, suc, ◌+◌, ◌*◌, ◌-◌, ◌≤◌, ◌<◌}
use Rattle.std.proofs.Math.Decide.{dec_lt}
use Rattle.std.proofs.Math.ListN.{length, get_or}
use Rattle.algebra.specs.Search.{First, first_is}
use Rattle.transform.specs.Parts.{laid}
use Rattle.text.specs.Text.{number_at, field_at, is_line_at, line_of}
use Rattle.text.specs.ReadBack.{line_is, line_ends, line_numbers}
use Rattle.sheet.specs.Sheet.{fields_due, plain_lines, lines_due, line_at, number_of, is_blinded, is_bad, bad_from, bad_line, is_extra}
use Rattle.sheet.specs.Due.{some_due}
use Rattle.sheet.specs.Written.{Small}

pub laid_split : (f : ℕ → List ℕ) (m k : ℕ) → laid f (m + k) ≡ laid f m ++ laid (λ i. f (m + i)) k
unfolding laid
laid_split f m zero = let q : m + 0 ≡ m = omega arith in ap (laid f) q ∙ sym (append-nil (laid f m))
laid_split f m (suc k) =
    let q : m + suc k ≡ suc (m + k) = omega arith in
    ap (laid f) q
    ∙ ap (λ (l : List ℕ). l ++ f (m + k)) (laid_split f m k) ∙ append_assoc (laid f m) (laid (λ i. f (m + i)) k) (f (m + k))

pub laid_same : (f g : ℕ → List ℕ) (m : ℕ) → ((i : ℕ) → i < m → f i ≡ g i) → laid f m ≡ laid g m
unfolding laid
laid_same f g zero h = refl
laid_same f g (suc m) h = ap₂ (λ (a b : List ℕ). a ++ b) (laid_same f g m (λ i k. h i (omega arith))) (h m (omega arith))

pub laid_one : (f : ℕ → List ℕ) → laid f 1 ≡ f 0
unfolding laid
laid_one f = refl

pub laid_long : (f : ℕ → List ℕ) (most m : ℕ) → ((i : ℕ) → i < m → length (f i) ≤ most) → length (laid f m) ≤ most * m
unfolding laid
laid_long f most zero h = omega arith
laid_long f most (suc m) h =
    omega (arith, length-append (laid f m) (f m), laid_long f most m (λ i k. h i (omega arith)), h m (omega arith), mul-suc most m)

module _ (n l m : ℕ) (line : ℕ → List ℕ) (small : (i : ℕ) → Small (line i)) (long : (i : ℕ) → i < m → length (line i) ≡ fields_due n l i) where
  abbrev bytes : ℕ → List ℕ
  bytes k = laid (λ i. line_of (line i)) k

  some : (i : ℕ) → i < m → 0 < length (line i)
  some i h = omega (arith, long i h, some_due n l i)

  -- the text up to line i, line i, and what follows
  apart : (i k : ℕ) → bytes (i + suc k) ≡ bytes i ++ (line_of (line i) ++ laid (λ j. line_of (line (i + (1 + j)))) k)
  apart i k =
      let q : suc k ≡ 1 + k = omega arith in
      ap (λ (m : ℕ). bytes (i + m)) q
      ∙ laid_split (λ i. line_of (line i)) i (1 + k)
      ∙ ap (λ (b : List ℕ). bytes i ++ b)
      (laid_split (λ j. line_of (line (i + j))) 1 k
      ∙ ap (λ (b : List ℕ). b ++ laid (λ j. line_of (line (i + (1 + j)))) k) (laid_one (λ j. line_of (line (i + j))) ∙ ap (λ (m : ℕ). line_of (line m)) (omega arith)))

  whole : (i : ℕ) → i < m → bytes m ≡ bytes i ++ (line_of (line i) ++ laid (λ j. line_of (line (i + (1 + j)))) (m - suc i))
  whole i h = let q : m ≡ i + suc (m - suc i) = omega arith in ap bytes q ∙ apart i (m - suc i)

  pub starts : (i : ℕ) → i ≤ m → line_at (bytes m) n l i ≡ length (bytes i)
  unfolding line_at laid
  starts zero h = refl
  starts (suc i) h =
      ap₂ (field_at (bytes m)) (starts i (omega arith)) (sym (long i h))
      ∙ subst (λ (s : List ℕ). field_at s (length (bytes i)) (length (line i)) ≡ length (bytes i) + length (line_of (line i))) (sym (whole i h))
      (line_ends (bytes i) (line i) (laid (λ j. line_of (line (i + (1 + j)))) (m - suc i)) (some i h) (small i))
      ∙ sym (length-append (bytes i) (line_of (line i)))

  pub in_form : (i : ℕ) → i < m → is_line_at (bytes m) (line_at (bytes m) n l i) (fields_due n l i) ≡ true
  in_form i h =
      ap₂ (is_line_at (bytes m)) (starts i (omega arith)) (sym (long i h))
      ∙ subst (λ (s : List ℕ). is_line_at s (length (bytes i)) (length (line i)) ≡ true) (sym (whole i h))
      (line_is (bytes i) (line i) (laid (λ j. line_of (line (i + (1 + j)))) (m - suc i)) (some i h) (small i))

  pub reads : (i j : ℕ) → i < m → j < fields_due n l i → number_of (bytes m) n l i j ≡ get_or (line i) j 0
  unfolding number_of
  reads i j h g =
      ap (λ (a : ℕ). number_at (bytes m) (field_at (bytes m) a j)) (starts i (omega arith))
      ∙ subst (λ (s : List ℕ). number_at s (field_at s (length (bytes i)) j) ≡ get_or (line i) j 0) (sym (whole i h))
      (line_numbers (bytes i) (line i) (laid (λ j. line_of (line (i + (1 + j)))) (m - suc i)) (some i h) (small i) j (omega (arith, long i h)))

  module _ (plain : m ≡ plain_lines n l) where
    -- nothing stands behind the m lines
    ends : (k : ℕ) → k ≡ m → ltb (line_at (bytes m) n l k) (length (bytes m)) ≡ false
    ends k e = le-ltb (line_at (bytes m) n l k) (length (bytes m)) (rw e (omega (arith, starts m (omega arith))))

    pub no_blinders : is_blinded (bytes m) n l ≡ false
    unfolding is_blinded
    no_blinders = ends (plain_lines n l) (sym plain)

    pub no_bad : bad_line (bytes m) n l ≡ plain_lines n l
    unfolding bad_line
    no_bad = rw no_blinders (go (dec_lt (bad_from (bytes m) n l 1 (lines_due 0 n l)) m))
      where
        found : First (is_bad (bytes m) n l) 1 (lines_due 0 n l - 1) (bad_from (bytes m) n l 1 (lines_due 0 n l))
        found = first_is (is_bad (bytes m) n l) 1 (lines_due 0 n l - 1)

        go : Dec (bad_from (bytes m) n l 1 (lines_due 0 n l) < m) → bad_from (bytes m) n l 1 (lines_due 0 n l) ≡ plain_lines n l
        go (yes h) = absurd (true≢false (sym (found.hit (omega arith)) ∙ ap not (in_form (bad_from (bytes m) n l 1 (lines_due 0 n l)) h)))
        go (no h) = omega (arith, found.high)

    pub no_extra : is_extra (bytes m) n l ≡ false
    no_extra = rw no_blinders (ends (lines_due 0 n l) (omega arith))
