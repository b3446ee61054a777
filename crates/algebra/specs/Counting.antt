-- The rules of counting: `AtMost K P` says that every list without repetition whose elements satisfy P has at most K of them.
--
-- All-map, All_both     every element: by an implication; of two properties
-- All_image, Nodup_image  the images of a list's elements: by an implication; without repetition, by a map that keeps things apart
-- at_most_of            fewer things, a larger bound
-- at_most_none          none at all
-- at_most_or            things of two kinds: the bounds add up
-- at_most_key           by a key with N values: at most K things for each
-- at_most_image         by a map that keeps things apart
-- at_most_below         the numbers below n
--
-- Assumes nothing.
use Rattle.std.specs.Prelude.{◌≡◌, ◌≢◌, ◌⊎◌, List, [], ◌∷◌, map, ℕ, zero, suc, ◌+◌, ◌*◌, ◌≤◌, ◌<◌, length}
use Rattle.std.proofs.Common.{sym, ◌∙◌, inl, inr, arith}
use Rattle.std.proofs.Math.Decide.{ℕ_discrete}
use Rattle.std.proofs.lemmas.List.{length-map}
use Rattle.algebra.specs.Lists.{All, Nodup, AtMost}

module _ {A : Type 0} where
  pub All-map : {P Q : A → Type 0} → ((a : A) → P a → Q a) → (l : List A) → All P l → All Q l
  All-map h [] t = tt
  All-map h (x ∷ xs) t = (h x t.0, All-map h xs t.1)

  pub All_both : (P Q : A → Type 0) (l : List A) → All P l → All Q l → All (λ a. P a × Q a) l
  All_both P Q [] s t = tt
  All_both P Q (x ∷ xs) s t = ((s.0, t.0), All_both P Q xs s.1 t.1)

  pub at_most_of : {K L : ℕ} {P Q : A → Type 0} → AtMost K P → ((a : A) → Q a → P a) → K ≤ L → AtMost L Q
  at_most_of {K} {L} m h k l n t = omega (arith, m l n (All-map h l t))

  pub at_most_none : {P : A → Type 0} → ((a : A) → P a → ⊥) → AtMost 0 P
  at_most_none h [] n t = omega arith
  at_most_none h (x ∷ xs) n t = absurd (h x t.0)

  -- a list cut in two by a choice for each element
  record Cut (P Q R : A → Type 0) (l : List A) : Type 1 where
    one : List A
    two : List A
    sum : length l ≡ length one + length two
    keep : (S : A → Type 0) → All S l → All S one × All S two
    nodup : Nodup l → Nodup one × Nodup two
    is_one : All P one
    is_two : All Q two

  cut : {P Q R : A → Type 0} → ((a : A) → R a → P a ⊎ Q a) → (l : List A) → All R l → Cut P Q R l
  cut h [] t = record { one = []; two = []; sum = omega arith; keep = λ S s. (tt, tt); nodup = λ n. (tt, tt); is_one = tt; is_two = tt }
  cut {P} {Q} {R} h (x ∷ xs) t = go (cut h xs t.1) (h x t.0)
    where
      go : Cut P Q R xs → P x ⊎ Q x → Cut P Q R (x ∷ xs)
      go c (inl u) =
          record {
            one = x ∷ c.one;
            two = c.two;
            sum = omega (arith, c.sum);
            keep = λ S s. ((s.0, (c.keep S s.1).0), (c.keep S s.1).1);
            nodup = λ n. (((c.keep _ n.0).0, (c.nodup n.1).0), (c.nodup n.1).1);
            is_one = (u, c.is_one);
            is_two = c.is_two;
          }
      go c (inr u) =
          record {
            one = c.one;
            two = x ∷ c.two;
            sum = omega (arith, c.sum);
            keep = λ S s. ((c.keep S s.1).0, (s.0, (c.keep S s.1).1));
            nodup = λ n. ((c.nodup n.1).0, ((c.keep _ n.0).1, (c.nodup n.1).1));
            is_one = c.is_one;
            is_two = (u, c.is_two);
          }

  pub at_most_or : {K L : ℕ} {P Q R : A → Type 0} → AtMost K P → AtMost L Q → ((a : A) → R a → P a ⊎ Q a) → AtMost (K + L) R
  at_most_or {K} {L} {P} {Q} {R} m k h l n t =
      let c : Cut P Q R l = cut h l t in
      omega (arith, c.sum, m c.one (c.nodup n).0 c.is_one, k c.two (c.nodup n).1 c.is_two)

  pub at_most_key : {P : A → Type 0} (key : A → ℕ) (N K : ℕ) → ((a : A) → P a → key a < N)
      → ((g : ℕ) → g < N → AtMost K (λ a. P a × (key a ≡ g))) → AtMost (N * K) P
  at_most_key key zero K b m l n t = at_most_of (at_most_none (λ a h. absurd (omega (arith, b a h)))) (λ a h. h) (omega arith) l n t
  at_most_key {P} key (suc N) K b m l n t =
      at_most_of
      (at_most_or {R = P} (at_most_key {P = λ a. P a × (key a < N)} key N K (λ a h. h.1) below) (m N (omega arith)) side)
      (λ a h. h)
      (omega arith)
      l
      n
      t
    where
      below : (g : ℕ) → g < N → AtMost K (λ a. (P a × (key a < N)) × (key a ≡ g))
      below g h = at_most_of (m g (omega arith)) (λ a u. (u.0.0, u.1)) (omega arith)

      side : (a : A) → P a → (P a × (key a < N)) ⊎ (P a × (key a ≡ N))
      side a h = go (ℕ_discrete (key a) N)
        where
          go : Dec (key a ≡ N) → (P a × (key a < N)) ⊎ (P a × (key a ≡ N))
          go (yes e) = inr (h, e)
          go (no e) = inl (h, omega (arith, b a h))

module _ {A B : Type 0} where
  pub All_image : {P : A → Type 0} (Q : B → Type 0) (f : A → B) → ((a : A) → P a → Q (f a)) → (l : List A) → All P l → All Q (map f l)
  All_image Q f to [] t = tt
  All_image Q f to (x ∷ xs) t = (to x t.0, All_image Q f to xs t.1)

  pub Nodup_image : {P : A → Type 0} (f : A → B) → ((a b : A) → P a → P b → f a ≡ f b → a ≡ b) → (l : List A) → Nodup l → All P l → Nodup (map f l)
  Nodup_image f inj [] n t = tt
  Nodup_image {P} f inj (x ∷ xs) n t = (
    All_image (λ z. f x ≢ z) f (λ y h e. h.1 (inj x y t.0 h.0 e)) xs (All_both P (λ y. x ≢ y) xs t.1 n.0),
    Nodup_image f inj xs n.1 t.1,
  )

  pub at_most_image : {K : ℕ} {P : A → Type 0} {Q : B → Type 0} (f : A → B) → ((a : A) → P a → Q (f a))
      → ((a b : A) → P a → P b → f a ≡ f b → a ≡ b) → AtMost K Q → AtMost K P
  at_most_image {K} {P} {Q} f to inj m l n t = rw (length-map l f) at (m (map f l) (Nodup_image f inj l n t) (All_image Q f to l t))

pub at_most_below : (n : ℕ) → AtMost n (λ x. x < n)
at_most_below n = at_most_of (at_most_key {P = λ x. x < n} (λ x. x) n 1 (λ a h. h) one) (λ a h. h) (omega arith)
  where
    one : (g : ℕ) → g < n → AtMost 1 (λ a. (a < n) × (a ≡ g))
    one g h [] u t = omega arith
    one g h (x ∷ []) u t = omega arith
    one g h (x ∷ y ∷ l) u t = absurd (u.0.0 (t.0.1 ∙ sym t.1.0.1))
