-- Lists, sums, products and counts.
--
-- tab f n         the list f 0, f 1, .., f (n - 1)
-- gathered f n    the same list of numbers that may be none; none where one of them is
-- sum_n n f       f 0 + f 1 + .. + f (n - 1)
-- prod_n n f      f 0 × f 1 × .. × f (n - 1)
-- All P l         every element of l satisfies P
-- Nodup l         l has no element twice
-- In x l          x is an element of l
-- AtMost K P      every list without repetition whose elements satisfy P has at most K of them
-- Exactly K P     there is a list without repetition that has all things that satisfy P and no others, and its length is K
-- occurs x l      the same as In, of numbers, as a test
-- different l     how many different numbers l has: each is counted where it stands for the last time
-- Perm n σ        σ is a permutation of 0 .. n - 1 (that it is onto follows)
--
-- Assumes nothing.
use Rattle.std.specs.Prelude.{◌≡◌, ◌≢◌, ◌⊎◌, Bool, false, cond, ◌||◌, List, [], ◌∷◌, ℕ, zero, suc, ◌+◌, ◌*◌, ◌≤◌, ◌<◌, eqb, length}
use Rattle.std.proofs.Math.Option.{Option, none, some, map}

unfoldable pub tab : (ℕ → ℕ) → ℕ → List ℕ
tab f zero = []
tab f (suc n) = f 0 ∷ tab (λ k. f (suc k)) n

unfoldable pub gathered : (ℕ → Option ℕ) → ℕ → Option (List ℕ)
gathered f zero = some []
gathered f (suc n) = elim (f 0) [ none ↦ none | some a ↦ map (λ l. a ∷ l) (gathered (λ k. f (suc k)) n) ]

abbrev pub sum_n : ℕ → (ℕ → ℕ) → ℕ
sum_n zero f = 0
sum_n (suc n) f = f n + sum_n n f

abbrev pub prod_n : ℕ → (ℕ → ℕ) → ℕ
prod_n zero f = 1
prod_n (suc n) f = f n * prod_n n f

module _ {A : Type 0} where
  abbrev pub All : (A → Type 0) → List A → Type 0
  All P [] = Unit {0}
  All P (x ∷ xs) = P x × All P xs

  abbrev pub Nodup : List A → Type 0
  Nodup [] = Unit {0}
  Nodup (x ∷ xs) = All (λ y. x ≢ y) xs × Nodup xs

  abbrev pub In : A → List A → Type 0
  In x [] = ⊥
  In x (y ∷ l) = (x ≡ y) ⊎ In x l

  abbrev pub AtMost : ℕ → (A → Type 0) → Type 0
  AtMost K P = (l : List A) → Nodup l → All P l → length l ≤ K

  pub record Exactly (K : ℕ) (P : A → Type 0) : Type 0 where
    pub things : List A
    pub once : Nodup things
    pub only : All P things
    pub all : (a : A) → P a → In a things
    pub count : length things ≡ K

unfoldable pub occurs : ℕ → List ℕ → Bool
occurs x [] = false
occurs x (y ∷ l) = eqb x y || occurs x l

unfoldable pub different : List ℕ → ℕ
different [] = 0
different (x ∷ l) = cond (occurs x l) (different l) (suc (different l))

pub record Perm (n : ℕ) (σ : ℕ → ℕ) : Type 0 where
  pub into : (k : ℕ) → k < n → σ k < n
  pub inj : (j k : ℕ) → j < n → k < n → σ j ≡ σ k → j ≡ k
