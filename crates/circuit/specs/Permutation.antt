-- The copy permutation: where it leads, that it is a permutation of the m positions, and that it goes round all positions of a label.
--
-- Above label k r         r is above k, and no position between them has k's label
-- Around m label k r      no position above k has k's label, and none below r
-- Leads m label k r       r is the next position of k's label: the next higher one, or, where there is none, the lowest
-- permutation_leads       the permutation leads there
-- permutation_perm        it is a permutation of 0 .. m - 1
-- permutation-label       it keeps the label
-- permutation_agree       wire values that it keeps agree wherever the labels do
--
-- Assumes nothing.
use Rattle.std.specs.Prelude.{◌≡◌, ◌≢◌, ◌⊎◌, true, false, ltb}
use Rattle.std.proofs.Math.Path.{refl}
use Rattle.std.proofs.Common.{sym, ap, ◌∙◌, inl, inr, arith, ltb-true, ltb-false, eqb-true, eq-eqb}
use Rattle.std.proofs.Math.Bool.{Bool}
use Prim.Native.Nat.{ℕ, zero, suc, ◌+◌, ◌-◌, ◌≤◌, ◌<◌}
use Rattle.std.proofs.Math.Decide.{ℕ_discrete, dec_lt, dec_le}
use Rattle.std.proofs.Math.Dec.{eqb}
use Rattle.std.proofs.lemmas.Bool.{eqb-false}
use Rattle.algebra.specs.Modular.{first}
use Rattle.algebra.specs.Lists.{Perm}
use Rattle.algebra.specs.Search.{First, first_is, first_some}
use Rattle.circuit.specs.Circuit.{permutation}

abbrev pub Above : (ℕ → ℕ) → ℕ → ℕ → Type 0
Above label k r = (k < r) × ((j : ℕ) → k < j → j < r → label j ≢ label k)

abbrev pub Around : ℕ → (ℕ → ℕ) → ℕ → ℕ → Type 0
Around m label k r = ((j : ℕ) → k < j → j < m → label j ≢ label k) × ((j : ℕ) → j < r → label j ≢ label k)

pub record Leads (m : ℕ) (label : ℕ → ℕ) (k r : ℕ) : Type 0 where
  pub within : r < m
  pub keeps : label r ≡ label k
  pub next : Above label k r ⊎ Around m label k r

module _ (m : ℕ) (label : ℕ → ℕ) where
  pub permutation_leads : (k : ℕ) → k < m → Leads m label k (permutation m label k)
  unfolding permutation
  permutation_leads k h = go (ltb higher m) refl
    where
      test : ℕ → Bool
      test j = eqb (label j) (label k)

      higher : ℕ
      higher = first test (suc k) (m - suc k)

      lowest : ℕ
      lowest = first test 0 m

      f : First test (suc k) (m - suc k) higher
      f = first_is test (suc k) (m - suc k)

      self : (lowest ≤ k) × (test lowest ≡ true)
      self = first_some test 0 m lowest (first_is test 0 m) k (omega arith) (omega arith) (eq-eqb (label k) (label k) refl)

      go : (b : Bool) → ltb higher m ≡ b → Leads m label k (elim b [ true ↦ higher | false ↦ lowest ])
      go true e =
          let l : higher < m = ltb-true higher m e in
          record {
            within = l;
            keeps = eqb-true (label higher) (label k) (f.hit (omega arith));
            next = inl (omega (arith, f.low), λ j a b. eqb-false (label j) (label k) (f.none j (omega arith) b));
          }
      go false e =
          let l : m ≤ higher = ltb-false higher m e in
          record {
            within = omega (arith, self.0);
            keeps = eqb-true (label lowest) (label k) self.1;
            next = inr (
              λ j a b. eqb-false (label j) (label k) (f.none j (omega arith) (omega arith)),
              λ j b. eqb-false (label j) (label k) ((first_is test 0 m).none j (omega arith) b),
            );
          }

  pub permutation-label : (k : ℕ) → k < m → label (permutation m label k) ≡ label k
  permutation-label k h = (permutation_leads k h).keeps

  -- of two positions of one label the lower leads above itself and no further than the higher; and they lead to different positions
  lower : (j k r s : ℕ) → j < k → k < m → label j ≡ label k → Leads m label j r → Leads m label k s → (j < r) × (r ≤ k) × (r ≢ s)
  lower j k r s h l e a b = go a.next b.next
    where
      go : Above label j r ⊎ Around m label j r → Above label k s ⊎ Around m label k s → (j < r) × (r ≤ k) × (r ≢ s)
      go (inr u) c = absurd (u.0 k h l (sym e))
      go (inl u) c = (u.0, below (dec_lt k r), far c)
        where
          below : Dec (k < r) → r ≤ k
          below (yes i) = absurd (u.1 k h i (sym e))
          below (no i) = omega arith

          far : Above label k s ⊎ Around m label k s → r ≢ s
          far (inl c) t = omega (arith, c.0, below (dec_lt k r))
          far (inr c) t = c.1 j (omega (arith, u.0)) e

  pub permutation_perm : Perm m (permutation m label)
  permutation_perm =
      record { into = λ k h. (permutation_leads k h).within; inj = λ j k h l e. go j k h l e (dec_lt j k) (dec_lt k j) }
    where
      σ : ℕ → ℕ
      σ = permutation m label

      one_label : (j k : ℕ) → j < m → k < m → σ j ≡ σ k → label j ≡ label k
      one_label j k h l e = sym (permutation-label j h) ∙ ap label e ∙ permutation-label k l

      apart : (j k : ℕ) → j < k → j < m → k < m → σ j ≡ σ k → ⊥
      apart j k a h l e = (lower j k (σ j) (σ k) a l (one_label j k h l e) (permutation_leads j h) (permutation_leads k l)).2 e

      go : (j k : ℕ) → j < m → k < m → σ j ≡ σ k → Dec (j < k) → Dec (k < j) → j ≡ k
      go j k h l e (yes a) d = absurd (apart j k a h l e)
      go j k h l e (no a) (yes b) = absurd (apart k j b l h (sym e))
      go j k h l e (no a) (no b) = omega arith

  module _ (v : ℕ → ℕ) (kept : (k : ℕ) → k < m → v (permutation m label k) ≡ v k) where
    -- upward from j, in at most d steps
    upward : (d j k : ℕ) → k ≤ j + d → j ≤ k → j < m → k < m → label j ≡ label k → v j ≡ v k
    upward zero j k b o h l e = ap v (omega arith)
    upward (suc d) j k b o h l e = go (upward d) (ℕ_discrete j k)
      where
        go : ((i k : ℕ) → k ≤ i + d → i ≤ k → i < m → k < m → label i ≡ label k → v i ≡ v k) → Dec (j ≡ k) → v j ≡ v k
        go ih (yes u) = ap v u
        go ih (no u) =
            let σj : ℕ = permutation m label j in
            let a = lower j k σj (permutation m label k) (omega arith) l e (permutation_leads j h) (permutation_leads k l) in
            sym (kept j h) ∙ ih σj k (omega (arith, a.0)) a.1 (permutation_leads j h).within l (permutation-label j h ∙ e)

    pub permutation_agree : (j k : ℕ) → j < m → k < m → label j ≡ label k → v j ≡ v k
    permutation_agree j k h l e = go (dec_le j k)
      where
        go : Dec (j ≤ k) → v j ≡ v k
        go (yes o) = upward k j k (omega arith) o h l e
        go (no o) = sym (upward j k j (omega arith) (omega arith) l h (sym e))
