-- How often 11 applies, for a witness that satisfies the constraints: exactly (document 02, request 6).
--
-- lost_most          lost_pairs is at most 3n × p
-- wired_own          the step from the wired tags to the positions' own: where copies agree, wire value + beta × wired tag of position k is
--                    wire value + beta × tag of the position that the permutation leads to from k
-- factor-tagged      so the factor of D at k is the number `tagged` of that position + gamma, modulo p
-- gammas_exact       with each beta, exactly lost_gammas gammas below p meet 11
-- pairs_exact        exactly lost_pairs pairs do
--
-- The permutation reaches every position, so the gammas that meet 11 are the negatives of the numbers `tagged` of all positions; negation is one-to-one.
-- Assumes nothing.
use Rattle.std.specs.Prelude.{◌≡◌, refl, ℕ, suc, ◌+◌, ◌*◌, ◌%◌, ◌≤◌, ◌<◌}
use Rattle.std.proofs.Common.{sym, ap, ◌∙◌, subst, zero-lt-suc, arith}
use Rattle.std.proofs.Math.Nat.{mod-lt}
use Rattle.algebra.specs.Lists.{tab, In, Exactly}
use Rattle.algebra.specs.Congruence.{Cong, cong, ◌⨾◌, back, cong_add, cong_mod, cong_lt, cong_cancel, cong_neg}
use Rattle.algebra.specs.Exact.{tab_in, in_tab, exactly_of, exactly_image, exactly_pairs, exactly_different, different_most, perm_onto}
use Rattle.algebra.specs.Sums.{sum_n_most}
use Rattle.algebra.specs.Tables.{length-tab}
use Rattle.field.specs.Fields.{tag}
use Rattle.circuit.specs.Circuit.{Constraints, permutation, Satisfies}
use Rattle.circuit.specs.Permutation.{permutation_perm, permutation-label}
use Rattle.protocol.specs.Protocol.{factor, wired_tag, zero_factor, tagged, lost_gammas, lost_pairs}
use Rattle.protocol.specs.Conditions.{zero_at, zero_below}

-- THE NUMBERS

pub lost_most : (p n : ℕ) (v : ℕ → ℕ) → lost_pairs p n v ≤ 3 * n * p
unfolding lost_pairs lost_gammas
lost_most p n v =
    omega (
      arith,
      sum_n_most p (3 * n) (lost_gammas p n v)
          (λ beta l. omega (arith, different_most (tab (tagged p n v beta) (3 * n)), length-tab (tagged p n v beta) (3 * n))),
    )

-- THE STEP FROM WIRED TAGS TO OWN TAGS

abbrev σ : ℕ → Constraints → ℕ → ℕ
σ n C = permutation (3 * n) C.label

module _ (p n : ℕ) (C : Constraints) (x v : ℕ → ℕ) (sat : Satisfies p n C x v) where
  pub wired_own : (beta k : ℕ) → k < 3 * n
      → v k + beta * wired_tag p n C k ≡ v (permutation (3 * n) C.label k) + beta * tag p n (permutation (3 * n) C.label k)
  wired_own beta k l =
      ap (λ (a : ℕ). a + beta * wired_tag p n C k)
      (sat.copies k (σ n C k) l ((permutation_perm (3 * n) C.label).into k l) (sym (permutation-label (3 * n) C.label k l)))

  pub factor-tagged : (beta gamma k : ℕ) → k < 3 * n
      → Cong p (factor (wired_tag p n C) v beta gamma k) (tagged p n v beta (permutation (3 * n) C.label k) + gamma)
  unfolding tagged
  factor-tagged beta gamma k l = cong (ap (λ (a : ℕ). a + gamma) (wired_own beta k l)) ⨾ cong_add (back cong_mod) (cong refl)

-- THE COUNTS

module _ (q n : ℕ) (C : Constraints) (x v : ℕ → ℕ) (sat : Satisfies (suc q) n C x v) where
  abbrev p : ℕ
  p = suc q

  abbrev minus : ℕ → ℕ
  minus y = q * y % suc q

  tagged-lt : (beta k : ℕ) → tagged (suc q) n v beta k < suc q
  unfolding tagged
  tagged-lt beta k = mod-lt _ (zero-lt-suc q)

  module _ (beta : ℕ) where
    abbrev numbers : ℕ → ℕ
    numbers = tagged p n v beta

    abbrev Lost : ℕ → Type 0
    Lost gamma = (gamma < p) × (zero_factor p n C v beta gamma < n)

    abbrev Number : ℕ → Type 0
    Number y = In y (tab numbers (3 * n))

    -- minus a number of the list meets 11, at the position from which the permutation leads there
    to : (y : ℕ) → Number y → Lost (minus y)
    to y i =
        let at = tab_in numbers (3 * n) y i in
        let from = perm_onto (3 * n) (σ n C) (permutation_perm (3 * n) C.label) at.0 at.1 in
        let same : numbers (σ n C from.0) ≡ y = ap numbers from.2 ∙ sym at.2 in (
          mod-lt _ (zero-lt-suc q),
          zero_below p n C v beta (minus y) from.0 from.1
              (factor-tagged p n C x v sat beta (minus y) from.0 from.1 ⨾ cong_add (cong same) cong_mod ⨾ cong_neg y),
        )

    number_lt : (y : ℕ) → Number y → y < p
    number_lt y i = let at = tab_in numbers (3 * n) y i in subst (λ (u : ℕ). u < p) (sym at.2) (tagged-lt beta at.0)

    apart : (y z : ℕ) → Number y → Number z → minus y ≡ minus z → y ≡ z
    apart y z i j e =
        cong_lt (number_lt y i) (number_lt z j) (cong_cancel {c = q * y} {d = q * z} (cong_neg y ⨾ back (cong_neg z)) (record { same = e }))

    -- a gamma that meets 11 at position k is minus the number of where the permutation leads from k
    onto : (gamma : ℕ) → Lost gamma → (y : ℕ) × Number y × (minus y ≡ gamma)
    onto gamma h =
        let zero = zero_at p n C v beta gamma h.1 in
        let y : ℕ = numbers (σ n C zero.0) in
        let sum : Cong p (y + gamma) 0 = back (factor-tagged p n C x v sat beta gamma zero.0 zero.1) ⨾ zero.2 in (
          y,
          in_tab numbers (3 * n) (σ n C zero.0) ((permutation_perm (3 * n) C.label).into zero.0 zero.1),
          cong_lt (mod-lt _ (zero-lt-suc q)) h.0
              (cong_mod
              ⨾ cong_cancel {a = q * y} {b = gamma} {c = y} {d = y} (cong (omega arith) ⨾ cong_neg y ⨾ back sum ⨾ cong (omega arith)) (cong refl)),
        )

    pub gammas_exact : Exactly (lost_gammas (suc q) n v beta) (λ gamma. (gamma < suc q) × (zero_factor (suc q) n C v beta gamma < n))
    unfolding lost_gammas
    gammas_exact = exactly_image minus to apart onto (exactly_different (tab numbers (3 * n)))

  pub pairs_exact : Exactly (lost_pairs (suc q) n v) (λ (s : ℕ × ℕ). (s.0 < suc q) × ((s.1 < suc q) × (zero_factor (suc q) n C v s.0 s.1 < n)))
  unfolding lost_pairs
  pairs_exact = exactly_pairs (suc q) (lost_gammas (suc q) n v) (λ s h. h.0) (λ beta l. exactly_of (gammas_exact beta) (λ gamma h. (l, h)) (λ gamma h. h.1))
