-- Products over k < n, and their reordering by a permutation of 0 .. n - 1.
--
-- prod_n_ext, prod_n_cong   equal, congruent factors give equal, congruent products
-- prod_n-mul, prod_n_split  a product of two products; the first factors taken apart
-- prod_n_nonzero            a product of factors that are not zero modulo a prime is not zero
-- telescope                 where z starts at 1 and goes from k to k + 1 by num k over den k, z(n) × the product of den is the product of num
-- prod_n_perm               a product reordered by a permutation
--
-- Assumes nothing.
use Rattle.std.specs.Prelude.{◌≡◌, refl, ◌≢◌, ◌⊎◌, List, [], ◌∷◌, ℕ, zero, suc, ◌+◌, ◌*◌, ◌<◌, length}
use Rattle.std.proofs.Common.{sym, ap, ap₂, ◌∙◌, inl, inr, ⊎_elim, add-zero, add-suc, arith}
use Rattle.std.proofs.Math.Decide.{ℕ_discrete}
use Rattle.algebra.specs.Modular.{Prime}
use Rattle.algebra.specs.Lists.{tab, prod_n, All, Nodup, Perm}
use Rattle.algebra.specs.Congruence.{Cong, cong, ◌⨾◌, cong_mul, cong_on}
use Rattle.algebra.specs.Primes.{euclid, one_nonzero}
use Rattle.algebra.specs.Tables.{length-tab, all_tab, nodup_tab}
use Rattle.algebra.specs.Counting.{All-map, All_both, at_most_below}

pub prod_n_ext : (n : ℕ) (f g : ℕ → ℕ) → ((k : ℕ) → k < n → f k ≡ g k) → prod_n n f ≡ prod_n n g
prod_n_ext zero f g h = refl
prod_n_ext (suc n) f g h = ap₂ ◌*◌ (h n (omega arith)) (prod_n_ext n f g (λ k l. h k (omega arith)))

pub prod_n_cong : {p : ℕ} (n : ℕ) (f g : ℕ → ℕ) → ((k : ℕ) → k < n → Cong p (f k) (g k)) → Cong p (prod_n n f) (prod_n n g)
prod_n_cong zero f g h = cong refl
prod_n_cong (suc n) f g h = cong_mul (h n (omega arith)) (prod_n_cong n f g (λ k l. h k (omega arith)))

pub prod_n-mul : (n : ℕ) (f g : ℕ → ℕ) → prod_n n (λ k. f k * g k) ≡ prod_n n f * prod_n n g
prod_n-mul zero f g = refl
prod_n-mul (suc n) f g = rw (prod_n-mul n f g) (omega arith)

pub prod_n_split : (n m : ℕ) (f : ℕ → ℕ) → prod_n (n + m) f ≡ prod_n n f * prod_n m (λ k. f (n + k))
prod_n_split n zero f = rw add-zero (omega arith)
prod_n_split n (suc m) f = rw (add-suc, prod_n_split n m f) (omega arith)

pub prod_n_nonzero : {p : ℕ} (n : ℕ) (f : ℕ → ℕ) → Prime p → ((k : ℕ) → k < n → Cong p (f k) 0 → ⊥) → Cong p (prod_n n f) 0 → ⊥
prod_n_nonzero zero f P h e = one_nonzero P e
prod_n_nonzero (suc n) f P h e = ⊎_elim (h n (omega arith)) (prod_n_nonzero n f P (λ k l. h k (omega arith))) (euclid P e)

pub telescope : {p : ℕ} (n : ℕ) (z num den : ℕ → ℕ) → Cong p (z 0) 1
    → ((k : ℕ) → k < n → Cong p (z (suc k) * den k) (z k * num k))
    → Cong p (z n * prod_n n den) (prod_n n num)
telescope zero z num den s h = cong (omega arith) ⨾ s
telescope (suc n) z num den s h =
    cong {b = z (suc n) * den n * prod_n n den} (omega arith)
    ⨾ cong_mul (h n (omega arith)) (cong refl)
    ⨾ cong {b = num n * (z n * prod_n n den)} (omega arith)
    ⨾ cong_on (num n) (telescope n z num den s (λ k l. h k (omega arith)))

-- A PERMUTATION

-- the product over the elements of a list
abbrev prod_l : List ℕ → (ℕ → ℕ) → ℕ
prod_l [] f = 1
prod_l (x ∷ xs) f = f x * prod_l xs f

prod_n_front : (n : ℕ) (f : ℕ → ℕ) → prod_n (suc n) f ≡ f 0 * prod_n n (λ k. f (suc k))
prod_n_front zero f = refl
prod_n_front (suc n) f = ap (λ (z : ℕ). f (suc n) * z) (prod_n_front n f) ∙ omega arith

prod_l-tab : (n : ℕ) (σ f : ℕ → ℕ) → prod_l (tab σ n) f ≡ prod_n n (λ k. f (σ k))
unfolding tab
prod_l-tab zero σ f = refl
prod_l-tab (suc n) σ f = ap (λ (z : ℕ). f (σ 0) * z) (prod_l-tab n (λ k. σ (suc k)) f) ∙ sym (prod_n_front n (λ k. f (σ k)))

-- the list xs without its element n
record Without (n : ℕ) (xs : List ℕ) : Type 1 where
  rest : List ℕ
  long : length xs ≡ suc (length rest)
  keep : (S : ℕ → Type 0) → All S xs → All S rest
  nodup : Nodup xs → Nodup rest × All (λ y. n ≢ y) rest
  prod : (f : ℕ → ℕ) → prod_l xs f ≡ f n * prod_l rest f

find : (n : ℕ) (xs : List ℕ) → Without n xs ⊎ All (λ y. n ≢ y) xs
find n [] = inr tt
find n (x ∷ xs) = go (ℕ_discrete n x) (find n xs)
  where
    go : Dec (n ≡ x) → Without n xs ⊎ All (λ y. n ≢ y) xs → Without n (x ∷ xs) ⊎ All (λ y. n ≢ y) (x ∷ xs)
    go (yes e) w =
        inl
        record
        { rest = xs; long = refl; keep = λ S t. t.1; nodup = λ u. (u.1, rw e u.0); prod = λ f. rw e }
    go (no e) (inl w) =
        inl
        record {
          rest = x ∷ w.rest;
          long = ap suc w.long;
          keep = λ S t. (t.0, w.keep S t.1);
          nodup = λ u. ((w.keep _ u.0, (w.nodup u.1).0), (e, (w.nodup u.1).1));
          prod = λ f. omega (arith, ap (λ (z : ℕ). f x * z) (w.prod f));
        }
    go (no e) (inr w) = inr (e, w)

-- n different numbers below n are all of them
prod_l_range : (n : ℕ) (xs : List ℕ) (f : ℕ → ℕ) → length xs ≡ n → Nodup xs → All (λ x. x < n) xs → prod_l xs f ≡ prod_n n f
prod_l_range zero [] f l u t = refl
prod_l_range zero (x ∷ xs) f l u t = absurd (omega arith)
prod_l_range (suc n) xs f l u t = go (λ ys. prod_l_range n ys f) (find n xs)
  where
    go : ((ys : List ℕ) → length ys ≡ n → Nodup ys → All (λ x. x < n) ys → prod_l ys f ≡ prod_n n f)
        → Without n xs ⊎ All (λ y. n ≢ y) xs → prod_l xs f ≡ prod_n (suc n) f
    go ih (inl w) =
        w.prod f
        ∙ ap (λ (z : ℕ). f n * z)
        (ih w.rest (omega (arith, w.long)) (w.nodup u).0
        (All-map (λ x h. omega (arith, h.0, h.1)) w.rest (All_both _ _ w.rest (w.keep _ t) (w.nodup u).1)))
    go ih (inr w) = absurd (omega (arith, at_most_below n xs u (All-map (λ x h. omega (arith, h.0, h.1)) xs (All_both _ _ xs t w))))

pub prod_n_perm : (n : ℕ) (σ f : ℕ → ℕ) → Perm n σ → prod_n n (λ k. f (σ k)) ≡ prod_n n f
prod_n_perm n σ f s =
    sym (prod_l-tab n σ f) ∙ prod_l_range n (tab σ n) f (length-tab σ n) (nodup_tab σ n s.inj) (all_tab _ σ n s.into)
