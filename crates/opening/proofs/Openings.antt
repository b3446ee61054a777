-- The theorems that specs/Openings lists, with their proofs.
-- Assumes nothing.
use Rattle.std.specs.Prelude.{◌≡◌, refl, ◌≢◌, Bool, List, ℕ, zero, suc, ◌-◌, ◌≤◌, ◌<◌, eqb, get_or, drop}
use Rattle.std.proofs.Math.Path.{sym, ap}
use Rattle.std.proofs.Common.{◌∙◌, mod-eq_of_lt, length-drop, le-ltb}
use Rattle.std.proofs.Math.Bool.{true, false, not}
use Rattle.std.proofs.Math.Nat.{mod-lt}
use Rattle.std.proofs.Math.Decide.{dec_lt}
use native.Mathlib.Omega.{arith}
use Rattle.std.proofs.Math.ListN.{length}
use Rattle.std.proofs.lemmas.Bool.{not-true, eqb-false}
use Rattle.algebra.specs.Lists.{tab, AtMost}
use Rattle.algebra.specs.Modular.{Prime}
use Rattle.algebra.specs.Search.{first_is}
use Rattle.algebra.specs.Polynomial.{mul_p, linear, quotient_linear, reduced, Elements, SameP, Root}
use Rattle.algebra.specs.Congruence.{cong, ◌⨾◌, is_0}
use Rattle.algebra.specs.Counting.{at_most_of}
use Rattle.algebra.specs.Tables.{length-tab, get_or-tab, all_get_d}
use Rattle.algebra.specs.PolynomialLaws.{eval_cong, tab_elements, reduced_elements, reduced_same, reduced_of}
use Rattle.algebra.specs.Same.{same_refl, same_mul, same_tested, tested_same}
use Rattle.algebra.specs.Roots.{roots, length-quotient-linear}
use Rattle.algebra.specs.Linear.{linear-root, linear_exact, linear_only}
use Rattle.field.specs.Primes.{field_prime}
use Rattle.field.specs.Reasons.{first_other}
use Rattle.field.specs.Lent.{lengths_same}
use Rattle.circuit.specs.Buffers.{opening_length}
use Rattle.protocol.specs.Protocol.{accept, reject}
use Rattle.pointcheck.specs.Buffers.{Readable}
use Rattle.opening.specs.Opening.{evaluations_of, mixture_of, opening_of, opening_verdict}
use Rattle.opening.specs.Mixing.{length-mixture, errors, eval-mixture, no_errors, error_found}
use Rattle.opening.specs.Openings.{PassingMixture, Openings}

-- THE PROOF

-- a verdict by a test
by_test : (b : Bool) → elim b [ true ↦ accept | false ↦ reject ] ≡ accept → b ≡ true
by_test true h = refl
by_test false h = cc

module _ (e q n : ℕ) (prepared transcript list : List ℕ) (R : Readable e (suc q) n prepared transcript) where
  abbrev p : ℕ
  p = suc q

  abbrev mixture : List ℕ → ℕ → List ℕ
  mixture s m = mixture_of e p n prepared transcript list s m

  abbrev right : ℕ → List ℕ
  right point = evaluations_of e p n prepared transcript list point

  prime : Prime (suc q)
  prime = field_prime (suc q) R.admissible.one_of_three

  accepted_same : (s h : List ℕ) (point m : ℕ) → opening_verdict e (suc q) n prepared transcript list s h point m ≡ accept
      → SameP (suc q) (mixture_of e (suc q) n prepared transcript list s m) (mul_p (linear (suc q) point) h)
  unfolding opening_verdict
  accepted_same s h point m holds = tested_same p (mixture s m) (mul_p (linear p point) h) (by_test _ holds)

  same_accepted : (s h : List ℕ) (point m : ℕ) → SameP (suc q) (mixture_of e (suc q) n prepared transcript list s m) (mul_p (linear (suc q) point) h)
      → opening_verdict e (suc q) n prepared transcript list s h point m ≡ accept
  unfolding opening_verdict
  same_accepted s h point m same =
      ap (λ (b : Bool). elim b [ true ↦ accept | false ↦ reject ]) (same_tested p (mixture s m) (mul_p (linear p point) h) same)

  right_long : (point : ℕ) → Elements (suc q) (length list) (evaluations_of e (suc q) n prepared transcript list point)
  unfolding evaluations_of
  right_long point = tab_elements _ (length list) (λ k l. mod-lt _ (omega arith))

  opening_long : (point m : ℕ) → Elements (suc q) (opening_length e n) (opening_of e (suc q) n prepared transcript list point m)
  unfolding opening_of
  opening_long point m = reduced_elements (opening_length e n) _ (omega arith)

  -- the mixture over X - point, not reduced: it has room for its coefficients
  fits : (s : List ℕ) (point m : ℕ) → length (quotient_linear point (drop 1 (mixture_of e (suc q) n prepared transcript list s m))) ≤ opening_length e n
  fits s point m =
      omega (
        arith,
        length-quotient-linear point (drop 1 (mixture s m)),
        length-drop 1 (mixture s m),
        length-mixture e p n prepared transcript list R s m,
      )

  complete : (point m : ℕ)
      → opening_verdict e (suc q) n prepared transcript list (evaluations_of e (suc q) n prepared transcript list point) (opening_of e (suc q) n prepared transcript list point m) point m
      ≡ accept
  unfolding opening_of
  complete point m =
      let g = mixture (right point) m in
      let Q = quotient_linear point (drop 1 g) in
      same_accepted (right point) (reduced p (opening_length e n) Q) point m (λ k.
      linear_exact q point g (no_errors e q n prepared transcript list point m) k
      ∙ same_mul p (linear p point) (linear p point) Q (reduced p (opening_length e n) Q) (same_refl p (linear p point) (linear p point) refl)
      (λ j. sym (reduced_same p (opening_length e n) Q (fits (right point) point m) j))
      k)

  only : (point m : ℕ) (opening : List ℕ) → Elements (suc q) (opening_length e n) opening
      → opening_verdict e (suc q) n prepared transcript list (evaluations_of e (suc q) n prepared transcript list point) opening point m ≡ accept
      → opening ≡ opening_of e (suc q) n prepared transcript list point m
  unfolding opening_of
  only point m opening E holds =
      let g = mixture (right point) m in
      reduced_of p (opening_length e n) opening (quotient_linear point (drop 1 g)) E.long (λ k l.
      sym (mod-eq_of_lt (all_get_d (λ (x : ℕ). x < p) opening E.below k (omega (arith, E.long))))
      ∙ linear_only q point g opening (accepted_same (right point) opening point m holds) k)

  -- with an accepted opening polynomial, m is a root of the errors
  root : (s h : List ℕ) (point m : ℕ) → opening_verdict e (suc q) n prepared transcript list s h point m ≡ accept
      → Root (suc q) (tab (errors e (suc q) n prepared transcript list s point) (length list)) m
  root s h point m holds =
      is_0
      (cong (sym (eval-mixture e p n prepared transcript list s m point))
      ⨾ eval_cong (mixture s m) (mul_p (linear p point) h) point point (accepted_same s h point m holds) (cong refl)
      ⨾ linear-root q point h)

  sound : (point : ℕ) (s : List ℕ) → Elements (suc q) (length list) s → s ≢ evaluations_of e (suc q) n prepared transcript list point
      → AtMost (length list - 1) (PassingMixture e (suc q) n prepared transcript list s point)
  unfolding first_other
  sound point s E wrong = go (dec_lt (first_other s (right point)) (length (right point)))
    where
      -- the first place at which an evaluation is wrong
      go : Dec (first_other s (right point) < length (right point)) → AtMost (length list - 1) (PassingMixture e (suc q) n prepared transcript list s point)
      go (yes l) =
          let long : length (right point) ≡ length list = (right_long point).long in
          let within : first_other s (right point) < length list = omega arith in
          at_most_of
          (roots q prime (length list - 1) (tab (errors e p n prepared transcript list s point) (length list)) (first_other s (right point))
          (omega (arith, length-tab (errors e p n prepared transcript list s point) (length list)))
          (λ h. error_found e q n prepared transcript list s point (first_other s (right point)) within
          (all_get_d (λ (x : ℕ). x < p) s E.below _ (omega (arith, E.long)))
          (eqb-false _ _ (not-true _ ((first_is (λ k. not (eqb (get_or s k 0) (get_or (right point) k 0))) 0 (length (right point))).hit (omega arith))))
          (cong (sym (get_or-tab _ (length list) _ within)) ⨾ h)))
          (λ m h. (root s h.opening point m h.accepted, h.m_element))
          (omega arith)
      go (no l) = absurd (wrong (lengths_same s (right point) (E.long ∙ sym (right_long point).long) (le-ltb (first_other s (right point)) (length (right point)) (omega arith))))

-- THE THEOREM

pub openings : (e p n : ℕ) (prepared transcript list : List ℕ) → Readable e p n prepared transcript → Openings e p n prepared transcript list
openings e zero n prepared transcript list R = absurd (omega (arith, (field_prime zero R.admissible.one_of_three).two))
openings e (suc q) n prepared transcript list R =
    record {
      exact = λ s h point m. (accepted_same e q n prepared transcript list R s h point m, same_accepted e q n prepared transcript list R s h point m);
      evaluations_long = right_long e q n prepared transcript list R;
      opening_long = opening_long e q n prepared transcript list R;
      complete = complete e q n prepared transcript list R;
      only = only e q n prepared transcript list R;
      sound = sound e q n prepared transcript list R;
    }
