-- The reasons that look at the witness, and what they say: 9 and 10 apply nowhere exactly where the witness satisfies the constraints; 11 applies exactly
-- where a factor of some D(i) is zero.
--
-- satisfied            where 9 and 10 apply nowhere, the witness satisfies the constraints
-- unbroken             where it satisfies the constraints, 9 and 10 apply nowhere
-- zero_factor-le       11's row is at most n, which stands for none
-- factors_nonzero      where 11 applies nowhere, no factor of any D(i) is zero
-- zero_at, zero_below  where 11 applies, the factor at some position is zero; and back
-- zero-factor-labels   11 sees the labels alone of lent constraints
--
-- Assumes nothing.
use Rattle.std.specs.Prelude.{◌≡◌, refl, ◌⊎◌, Bool, false, ◌&&◌, ◌||◌, List, ltb}
use Rattle.std.proofs.Common.{sym, ap, ◌∙◌, inl, inr, arith}
use Rattle.std.proofs.Math.Bool.{true, not}
use Prim.Native.Nat.{ℕ, zero, suc, ◌*◌, ◌%◌, ◌≤◌, ◌<◌}
use Rattle.std.proofs.Math.Decide.{dec_lt}
use Rattle.std.proofs.Math.Dec.{eqb}
use borrow.Author.Tests.{eqb-true, eqb-false, eq-eqb, ltb-true, ltb-false, not-false, not-true}
use Rattle.algebra.specs.Modular.{first}
use Rattle.algebra.specs.Congruence.{Cong, cong_0, is_0}
use Rattle.algebra.specs.Search.{first_is, first_none, first_le, none_of, both_false, one_true}
use Rattle.circuit.specs.Circuit.{Constraints, position, lent_constraints, gate, Satisfies}
use Rattle.circuit.specs.Positions.{by_position}
use Rattle.protocol.specs.Protocol.{factor, wired_tag, broken_gate, broken_copy, zero_factor}

-- 9 AND 10

module _ (p n : ℕ) (C : Constraints) (x v : ℕ → ℕ) where
  -- position j has the label of k and another wire value
  abbrev clashes : ℕ → ℕ → Bool
  clashes k j = eqb (C.label j) (C.label k) && not (eqb (v j) (v k))

  pub satisfied : broken_gate p n C x v ≡ n → broken_copy n C v ≡ 3 * n → Satisfies p n C x v
  unfolding broken_gate broken_copy
  satisfied a b =
      record {
        gates = λ i l. eqb-true (gate p n C x v i) 0 (not-false _ (none_of _ n a i l));
        copies = λ j k h l e. go j k h l e (dec_lt j k) (dec_lt k j);
      }
    where
      lower : (j k : ℕ) → j < k → k < 3 * n → C.label j ≡ C.label k → v j ≡ v k
      lower j k h l e =
          let o = ltb-false _ k (none_of _ (3 * n) b k l) in
          eqb-true (v j) (v k)
          (not-false (eqb (v j) (v k))
          (ap (λ (t : Bool). t && not (eqb (v j) (v k))) (sym (eq-eqb (C.label j) (C.label k) e))
          ∙ (first_is (clashes k) 0 k).none j (omega arith) (omega (arith, o))))

      go : (j k : ℕ) → j < 3 * n → k < 3 * n → C.label j ≡ C.label k → Dec (j < k) → Dec (k < j) → v j ≡ v k
      go j k h l e (yes a) d = lower j k a l e
      go j k h l e (no a) (yes d) = sym (lower k j d h (sym e))
      go j k h l e (no a) (no d) = ap v (omega arith)

  pub unbroken : Satisfies p n C x v → (broken_gate p n C x v ≡ n) × (broken_copy n C v ≡ 3 * n)
  unfolding broken_gate broken_copy
  unbroken s = (first_none _ n gates_hold, first_none _ (3 * n) copies_agree)
    where
      gates_hold : (i : ℕ) → i < n → not (eqb (gate p n C x v i) 0) ≡ true → ⊥
      gates_hold i l e = eqb-false (gate p n C x v i) 0 (not-true _ e) (s.gates i l)

      never : (k j : ℕ) → j < k → k < 3 * n → (b : Bool) → eqb (C.label j) (C.label k) ≡ b → clashes k j ≡ true → ⊥
      never k j h l true u e =
          eqb-false (v j) (v k) (not-true _ (ap (λ (t : Bool). t && not (eqb (v j) (v k))) (sym u) ∙ e))
          (s.copies j k (omega arith) l (eqb-true (C.label j) (C.label k) u))
      never k j h l false u e =
          let w : true ≡ false = sym e ∙ ap (λ (t : Bool). t && not (eqb (v j) (v k))) u in
          let c : ◌≡◌ {A = ℕ} 0 1 = cc in
          omega arith

      copies_agree : (k : ℕ) → k < 3 * n → ltb (first (clashes k) 0 k) k ≡ true → ⊥
      copies_agree k l e =
          let r = ltb-true (first (clashes k) 0 k) k e in
          never k (first (clashes k) 0 k) r l _ refl ((first_is (clashes k) 0 k).hit (omega (arith, r)))

-- 11

pub zero_factor-le : (p n : ℕ) (C : Constraints) (v : ℕ → ℕ) (beta gamma : ℕ) → zero_factor p n C v beta gamma ≤ n
unfolding zero_factor
zero_factor-le p n C v beta gamma = first_le _ n

pub zero-factor-labels : (p n : ℕ) (selectors other labels : List ℕ) (v : ℕ → ℕ) (beta gamma : ℕ)
    → zero_factor p n (lent_constraints n selectors labels) v beta gamma ≡ zero_factor p n (lent_constraints n other labels) v beta gamma
unfolding zero_factor
zero-factor-labels p n selectors other labels v beta gamma = refl

module _ (p n : ℕ) (C : Constraints) (v : ℕ → ℕ) where
  -- the factor of D at position k is zero
  abbrev Zero : ℕ → ℕ → ℕ → Type 0
  Zero beta gamma k = Cong p (factor (wired_tag p n C) v beta gamma k) 0

  module _ (beta gamma : ℕ) where
    abbrev f : ℕ → ℕ → ℕ
    f i c = factor (wired_tag p n C) v beta gamma (position n c i) % p

    abbrev test : ℕ → Bool
    test i = eqb (f i 0) 0 || eqb (f i 1) 0 || eqb (f i 2) 0

    pub factors_nonzero : zero_factor p n C v beta gamma ≡ n → (k : ℕ) → k < 3 * n → Cong p (factor (wired_tag p n C) v beta gamma k) 0 → ⊥
    unfolding zero_factor
    factors_nonzero e = by_position 3 n (λ k. Zero beta gamma k → ⊥) at
      where
        row : (i : ℕ) → i < n → (eqb (f i 0) 0 ≡ false) × (eqb (f i 1) 0 ≡ false) × (eqb (f i 2) 0 ≡ false)
        row i l =
            let last = both_false (eqb (f i 0) 0 || eqb (f i 1) 0) (eqb (f i 2) 0) (none_of test n e i l) in
            let two = both_false (eqb (f i 0) 0) (eqb (f i 1) 0) last.0 in
            (two.0, two.1, last.1)

        at : (c i : ℕ) → c < 3 → i < n → Zero beta gamma (position n c i) → ⊥
        at zero i h l u = eqb-false (f i 0) 0 (row i l).0 (is_0 u)
        at (suc zero) i h l u = eqb-false (f i 1) 0 (row i l).1 (is_0 u)
        at (suc (suc zero)) i h l u = eqb-false (f i 2) 0 (row i l).2 (is_0 u)
        at (suc (suc (suc c))) i h l u = absurd (omega arith)

    pub zero_at : zero_factor p n C v beta gamma < n → (k : ℕ) × (k < 3 * n) × Cong p (factor (wired_tag p n C) v beta gamma k) 0
    unfolding zero_factor
    zero_at l = go (one_true _ _ ((first_is test 0 n).hit (omega arith)))
      where
        i : ℕ
        i = first test 0 n

        go : ((eqb (f i 0) 0 || eqb (f i 1) 0) ≡ true) ⊎ (eqb (f i 2) 0 ≡ true) → (k : ℕ) × (k < 3 * n) × Zero beta gamma k
        go (inr e) = (position n 2 i, omega arith, cong_0 (eqb-true (f i 2) 0 e))
        go (inl e) = in_two (one_true _ _ e)
          where
            in_two : (eqb (f i 0) 0 ≡ true) ⊎ (eqb (f i 1) 0 ≡ true) → (k : ℕ) × (k < 3 * n) × Zero beta gamma k
            in_two (inl e) = (position n 0 i, omega arith, cong_0 (eqb-true (f i 0) 0 e))
            in_two (inr e) = (position n 1 i, omega arith, cong_0 (eqb-true (f i 1) 0 e))

    pub zero_below : (k : ℕ) → k < 3 * n → Cong p (factor (wired_tag p n C) v beta gamma k) 0 → zero_factor p n C v beta gamma < n
    zero_below k l u = go (dec_lt (zero_factor p n C v beta gamma) n)
      where
        go : Dec (zero_factor p n C v beta gamma < n) → zero_factor p n C v beta gamma < n
        go (yes h) = h
        go (no h) = absurd (factors_nonzero (omega (arith, zero_factor-le p n C v beta gamma)) k l u)
