-- The pairs (beta, gamma) for which some z passes the row check, where the witness does not satisfy the constraints.
--
-- product_N, product_D    the products of N(i) and of D(i) over the rows, as products over the positions
-- Passing                 a pair of elements for which some row values of z pass
-- few_pairs               at most (3n - 1) × p pairs are such, where the witness does not satisfy the constraints
--
-- Assumes nothing.
use Rattle.std.specs.Prelude.{◌≡◌, refl, ◌≢◌, ◌⊎◌, ℕ, zero, suc, ◌*◌, ◌%◌, ◌-◌, ◌≤◌, ◌<◌}
use Rattle.std.proofs.Common.{sym, ap, ◌∙◌, subst, inl, inr, mod-eq_of_lt, arith}
use Rattle.std.proofs.Math.Nat.{mod_self, zero-mod}
use Rattle.std.proofs.Math.Decide.{ℕ_discrete}
use Rattle.algebra.specs.Lists.{prod_n, AtMost, Perm}
use Rattle.algebra.specs.Congruence.{Cong, cong, ◌⨾◌, back, cong_mul, cong_mod, cong_lt}
use Rattle.algebra.specs.Counting.{at_most_of, at_most_none}
use Rattle.algebra.specs.Products.{prod_n_cong, telescope}
use Rattle.algebra.specs.Pairs.{PairPasses, pair_bound}
use Rattle.field.specs.Fields.{tag}
use Rattle.field.specs.Domain.{Domain}
use Rattle.transform.specs.Interpolation.{rows_positive}
use Rattle.circuit.specs.Circuit.{Constraints, permutation, gate, Satisfies}
use Rattle.circuit.specs.Positions.{product_by_rows}
use Rattle.circuit.specs.Permutation.{permutation_perm, permutation_agree}
use Rattle.protocol.specs.Protocol.{factor, wired_tag, row_n, row_d, pass, row_verdict}
use Rattle.protocol.specs.Domains.{tag_apart}
use Rattle.protocol.proofs.Rows.{RowHolds, passed_row}

-- EQUAL PRODUCTS

pub product_N : (p n : ℕ) (v : ℕ → ℕ) (beta gamma : ℕ) → Cong p (prod_n n (row_n p n v beta gamma)) (prod_n (3 * n) (factor (tag p n) v beta gamma))
unfolding row_n
product_N p n v beta gamma = prod_n_cong n _ _ (λ i l. cong_mod) ⨾ cong (sym (product_by_rows n (factor (tag p n) v beta gamma)))

pub product_D : (p n : ℕ) (C : Constraints) (v : ℕ → ℕ) (beta gamma : ℕ)
    → Cong p (prod_n n (row_d p n C v beta gamma)) (prod_n (3 * n) (factor (wired_tag p n C) v beta gamma))
unfolding row_d
product_D p n C v beta gamma =
    prod_n_cong n _ _ (λ i l. cong_mod) ⨾ cong (sym (product_by_rows n (factor (wired_tag p n C) v beta gamma)))

module _ (p n : ℕ) (C : Constraints) (x v : ℕ → ℕ) where
  abbrev pub Passing : (ℕ × ℕ) → Type 0
  Passing s = (s.0 < p) × (s.1 < p) × ((z : ℕ → ℕ) × (row_verdict p n C x v z s.0 s.1 ≡ pass))

  -- a z that passes makes the two products equal
  equal_products : 0 < n → (z : ℕ → ℕ) (beta gamma : ℕ) → row_verdict p n C x v z beta gamma ≡ pass
      → Cong p (prod_n n (row_n p n v beta gamma)) (prod_n n (row_d p n C v beta gamma))
  equal_products pos z beta gamma e =
      back (telescope n (λ k. z (k % n)) Ns Ds (cong (ap z (zero-mod n) ∙ one)) step)
      ⨾ cong_mul (cong (ap z (mod_self n) ∙ one)) (cong refl) ⨾ cong (omega arith)
    where
      Ns : ℕ → ℕ
      Ns = row_n p n v beta gamma

      Ds : ℕ → ℕ
      Ds = row_d p n C v beta gamma

      row : (j : ℕ) → j < n → RowHolds p n C x v z beta gamma j
      row = passed_row p n C x v z beta gamma e

      one : z 0 ≡ 1
      one = (row 0 pos).started refl

      step : (k : ℕ) → k < n → Cong p (z (suc k % n) * Ds k) (z (k % n) * Ns k)
      step k l = back (record { same = (row k l).stepped }) ⨾ cong (ap (λ (t : ℕ). z t * Ns k) (sym (mod-eq_of_lt l)))

  passing_pair : 0 < n → (s : ℕ × ℕ) → Passing s → PairPasses p (3 * n) v (tag p n) (permutation (3 * n) C.label) s
  passing_pair pos s h =
      (h.0, h.1, back (product_N p n v s.0 s.1) ⨾ equal_products pos h.2.0 s.0 s.1 h.2.1 ⨾ product_D p n C v s.0 s.1)

-- FEW PAIRS

-- two functions agree below m, or differ somewhere
agree_or_differ : (f g : ℕ → ℕ) (m : ℕ) → ((k : ℕ) → k < m → f k ≡ g k) ⊎ ((k : ℕ) × (k < m) × (f k ≢ g k))
agree_or_differ f g zero = inl (λ k h. absurd (omega arith))
agree_or_differ f g (suc m) = go (agree_or_differ f g m) (ℕ_discrete (f m) (g m))
  where
    go : ((k : ℕ) → k < m → f k ≡ g k) ⊎ ((k : ℕ) × (k < m) × (f k ≢ g k)) → Dec (f m ≡ g m)
        → ((k : ℕ) → k < suc m → f k ≡ g k) ⊎ ((k : ℕ) × (k < suc m) × (f k ≢ g k))
    go (inr b) e = inr (b.0, omega (arith, b.1), b.2)
    go (inl a) (no e) = inr (m, omega arith, e)
    go (inl a) (yes e) = inl (λ k h. at k h (ℕ_discrete k m))
      where
        at : (k : ℕ) → k < suc m → Dec (k ≡ m) → f k ≡ g k
        at k h (yes u) = subst (λ (k : ℕ). f k ≡ g k) (sym u) e
        at k h (no u) = a k (omega arith)

module _ (q n : ℕ) (D : Domain (suc q) n) (C : Constraints) (x v : ℕ → ℕ) where
  abbrev p : ℕ
  p = suc q

  abbrev σ : ℕ → ℕ
  σ = permutation (3 * n) C.label

  -- where the permutation leads to another wire value
  few : (m : ℕ) → m ≡ 3 * n → (k : ℕ) → k < 3 * n → (Cong (suc q) (v (σ k)) (v k) → ⊥) → AtMost ((m - 1) * suc q) (PairPasses (suc q) m v (tag (suc q) n) σ)
  few zero e k l d = absurd (omega arith)
  few (suc m) e k l d =
      at_most_of
      (pair_bound q D.prime m v (tag p n) σ (subst (λ (t : ℕ). Perm t σ) (sym e) (permutation_perm (3 * n) C.label))
      (λ i j a b. tag_apart q n D i j (omega arith) (omega arith)) k (omega arith) d)
      (λ s h. h)
      (bound m)
    where
      bound : (a : ℕ) → suc q * a ≤ (suc a - 1) * suc q
      bound a = let t : suc a - 1 ≡ a = omega arith in rw t (omega arith)

  module _ (small : (k : ℕ) → k < 3 * n → v k < suc q) (broken : Satisfies (suc q) n C x v → ⊥) where
    pub few_pairs : AtMost ((3 * n - 1) * suc q) (Passing (suc q) n C x v)
    few_pairs = go (agree_or_differ (gate p n C x v) (λ i. 0) n) (agree_or_differ (λ k. v (σ k)) v (3 * n))
      where
        go : ((i : ℕ) → i < n → gate p n C x v i ≡ 0) ⊎ ((i : ℕ) × (i < n) × (gate p n C x v i ≢ 0))
            → ((k : ℕ) → k < 3 * n → v (σ k) ≡ v k) ⊎ ((k : ℕ) × (k < 3 * n) × (v (σ k) ≢ v k))
            → AtMost ((3 * n - 1) * suc q) (Passing (suc q) n C x v)
        go (inl a) (inl b) = absurd (broken record { gates = a; copies = permutation_agree (3 * n) C.label v b })
        go (inr a) b =
            at_most_of
            (at_most_none {P = Passing p n C x v} (λ s h. a.2 (passed_row p n C x v h.2.0 s.0 s.1 h.2.1 a.0 a.1).gated))
            (λ s h. h)
            (omega arith)
        go (inl a) (inr b) = at_most_of (few (3 * n) refl b.0 b.1 differ) (passing_pair p n C x v (omega (arith, rows_positive q n D))) (omega arith)
          where
            differ : Cong (suc q) (v (σ b.0)) (v b.0) → ⊥
            differ e = b.2 (cong_lt (small (σ b.0) ((permutation_perm (3 * n) C.label).into b.0 b.1)) (small b.0 b.1) e)
