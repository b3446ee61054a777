-- The alphas for which some quotient holds, where z does not pass the row check; and the zetas at which the point check accepts, where no quotient
-- holds.
--
-- few_alphas    at most 2 alphas
-- few_zetas     at most d zetas, where F and t × (X^n - 1) have at most d + 1 coefficients
--
-- Assumes nothing.
use Rattle.std.specs.Prelude.{◌≡◌, refl, ◌≢◌, ◌⊎◌, length}
use Rattle.std.proofs.Math.Path.{sym}
use Rattle.std.proofs.Common.{ap, ◌∙◌, inl, inr, arith}
use mathlib.Core.List.{List, [], ◌∷◌}
use Prim.Native.Nat.{ℕ, suc, ◌+◌, ◌*◌, ◌≤◌, ◌<◌}
use Rattle.std.proofs.Math.Nat.{mod-mod}
use Rattle.algebra.specs.Lists.{AtMost}
use Rattle.algebra.specs.Polynomial.{eval, times_vanishing, SameP, ZeroP, Root}
use Rattle.algebra.specs.Congruence.{Cong, cong, ◌⨾◌, back, cong_add, cong_mul, cong_neg, cong_0, is_0, cong_lt, cong_same}
use Rattle.algebra.specs.PolynomialLaws.{eval_cong}
use Rattle.algebra.specs.Counting.{at_most_of}
use Rattle.algebra.specs.Roots.{root-bound, agree}
use Rattle.algebra.specs.Division.{eval_vanishing, length_vanishing}
use Rattle.field.specs.Fields.{point}
use Rattle.field.specs.Domain.{Domain}
use Rattle.transform.specs.Transform.{interpolation}
use Rattle.circuit.specs.Circuit.{Constraints, position, gate}
use Rattle.circuit.specs.Buffers.{wire_length, z_length}
use Rattle.protocol.specs.Protocol.{f_of, gate_part, step_part, start_part, prepared_poly, prepared, transcript, pass, row_verdict, accept, point_verdict}
use Rattle.protocol.specs.Domains.{point-power}
use Rattle.protocol.proofs.Rows.{RowHolds, pass_or_row}
use Rattle.protocol.proofs.Values.{eval-F, gate_at_lem, step_at_lem, start_at_lem}
use Rattle.protocol.specs.Points.{accepted_agree}

module _ (q n : ℕ) (D : Domain (suc q) n) (C : Constraints) (x : ℕ → ℕ) (wire : ℕ → List ℕ) (z : List ℕ) (beta gamma : ℕ) where
  abbrev p : ℕ
  p = suc q

  abbrev P : ℕ → ℕ
  P = point (suc q) n

  abbrev F : ℕ → List ℕ
  F alpha = f_of (suc q) n C x wire z beta gamma alpha

  -- ALPHAS

  -- where a quotient holds, F is zero at the domain points
  zero_at_points : (alpha : ℕ) (t : List ℕ) → SameP (suc q) (F alpha) (times_vanishing (suc q) n t) → (i : ℕ) → Cong (suc q) (eval (F alpha) (P i)) 0
  zero_at_points alpha t h i =
      eval_cong (F alpha) (times_vanishing p n t) (P i) (P i) h (cong refl)
      ⨾ cong (eval_vanishing q n t (P i))
      ⨾ cong_mul (cong_add (point-power q n D i) (cong refl)) (cong refl)
      ⨾ cong {b = eval t (P i) + q * eval t (P i)} (omega arith) ⨾ cong_neg (eval t (P i))

  module _ (v : ℕ → ℕ) (wires : (c i : ℕ) → c < 3 → i < n → Cong (suc q) (eval (wire c) (point (suc q) n i)) (v (position n c i)))
      (u : ℕ → ℕ) (zs : (i : ℕ) → i < n → Cong (suc q) (eval z (point (suc q) n i)) (u i)) (start : u 0 < suc q) where
    -- F at row j's point, as a polynomial in alpha
    row : ℕ → List ℕ
    row j =
        eval (gate_part p (prepared_poly p n C) wire (interpolation p n x)) (P j)
        ∷ eval (step_part p n (prepared_poly p n C) wire z beta gamma) (P j)
        ∷ eval (start_part p n z) (P j)
        ∷ []

    row_holds : (j : ℕ) → j < n → ZeroP (suc q) (row j) → RowHolds (suc q) n C x v u beta gamma j
    unfolding row gate
    row_holds j l h =
        record {
          gated = sym (mod-mod _ p) ∙ is_0 (back (gate_at_lem q n D v wire wires C x j l) ⨾ cong_0 h.0);
          started = λ e. cong_lt {b = 1} start D.prime.two
              (cong_same (back (start_at_lem q n D u z zs) ⨾ cong (ap (λ (i : ℕ). eval (start_part p n z) (P i)) (sym e)) ⨾ cong_0 h.1.1.0));
          stepped = (cong_same (back (step_at_lem q n D u z zs v wire wires C beta gamma j l) ⨾ cong_0 h.1.0)).same;
        }

    pub few_alphas : row_verdict (suc q) n C x v u beta gamma ≢ pass
        → AtMost 2 (λ (alpha : ℕ). (alpha < suc q) × ((t : List ℕ) × SameP (suc q) (f_of (suc q) n C x wire z beta gamma alpha) (times_vanishing (suc q) n t)))
    unfolding row
    few_alphas no-pass = go (pass_or_row p n C x v u beta gamma)
      where
        Holding : ℕ → Type 0
        Holding alpha = (alpha < suc q) × ((t : List ℕ) × SameP (suc q) (F alpha) (times_vanishing (suc q) n t))

        go : (row_verdict p n C x v u beta gamma ≡ pass) ⊎ ((j : ℕ) × (j < n) × (RowHolds p n C x v u beta gamma j → ⊥)) → AtMost 2 Holding
        go (inl e) = absurd (no-pass e)
        go (inr b) = at_most_of (root-bound q D.prime 2 (row b.0) (omega arith) (λ h. b.2 (row_holds b.0 b.1 h))) to (omega arith)
          where
            to : (alpha : ℕ) → Holding alpha → Root (suc q) (row b.0) alpha × (alpha < suc q)
            to alpha h = (
              is_0
                  (cong (omega (arith, eval-F p n (prepared_poly p n C) wire (interpolation p n x) z beta gamma alpha (P b.0)))
                  ⨾ zero_at_points alpha h.1.0 h.1.1 b.0),
              h.0,
            )

  -- ZETAS

  pub few_zetas : (e : ℕ) → ((c : ℕ) → c < 3 → length (wire c) ≡ wire_length e n) → length z ≡ z_length e n → (alpha : ℕ) (t : List ℕ) (d : ℕ)
      → length (f_of (suc q) n C x wire z beta gamma alpha) ≤ suc d → n + length t ≤ suc d
      → (SameP (suc q) (f_of (suc q) n C x wire z beta gamma alpha) (times_vanishing (suc q) n t) → ⊥)
      → AtMost d (λ (zeta : ℕ). (zeta < suc q) × (point_verdict e (suc q) n (prepared (suc q) n C) x (transcript wire z t) beta gamma alpha zeta ≡ accept))
  few_zetas e lw lz alpha t d lf lt none =
      at_most_of (agree q D.prime d (F alpha) (times_vanishing p n t) lf (omega (arith, length_vanishing p n t)) none)
      (λ zeta h. (accepted_agree e q n D C x wire z t lw lz beta gamma alpha zeta h.1, h.0))
      (omega arith)
