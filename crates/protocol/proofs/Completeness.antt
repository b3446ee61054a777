-- Completeness: for a witness that satisfies the constraints, and a pair with no zero factor of any D(i), the z and the t of the definitions hold, and the
-- point check accepts.
--
-- rows, z, t     z on the rows, as the list of its numbers; z; t
-- z_passes       z on the rows passes the row check
-- grand          it is the grand product
-- z_is, laid     z, and the transcript that the prover lays: there is one
-- t_holds        t × (X^n - 1) is F
-- accepts        the point check accepts that transcript, whatever alpha and zeta are, and whichever numbers blind it
--
-- Assumes nothing.
use Rattle.std.specs.Prelude.{◌≡◌, refl, List, ℕ, suc, ◌+◌, ◌*◌, ◌%◌, ◌<◌, length}
use Rattle.std.proofs.Common.{sym, ap, ◌∙◌, mod-lt, mod-eq_of_lt, arith}
use Rattle.std.proofs.Math.Option.{some}
use Rattle.std.proofs.Math.Nat.{mod_self}
use Rattle.std.proofs.Math.Decide.{ℕ_discrete, dec_lt}
use Rattle.algebra.specs.Lists.{tab, prod_n}
use Rattle.algebra.specs.Polynomial.{coef, eval, times_vanishing, SameP}
use Rattle.algebra.specs.Congruence.{Cong, cong, ◌⨾◌, back, cong_add, cong_lt, cong_zero, cong_diff}
use Rattle.algebra.specs.Primes.{cong_divide}
use Rattle.algebra.specs.PolynomialLaws.{eval_cong}
use Rattle.algebra.specs.Tables.{get_or-tab}
use Rattle.algebra.specs.Products.{prod_n_ext, prod_n_nonzero, prod_n_perm, telescope}
use Rattle.field.specs.Fields.{point, tag}
use Rattle.field.specs.Domain.{Domain}
use Rattle.transform.specs.Transform.{interpolation}
use Rattle.transform.specs.Interpolation.{rows_positive}
use Rattle.circuit.specs.Circuit.{Constraints, position, permutation, Satisfies}
use Rattle.circuit.specs.Buffers.{wire_length, z_length}
use Rattle.circuit.specs.Permutation.{permutation_perm, permutation-label}
use Rattle.protocol.specs.Protocol.{f_of, factor, wired_tag, row_n, row_d, start_part, prepared_poly, prepared, wire_blinder, z_blinder, z_through, wires_of, z_of, t_of, transcript, proved, pass, row_verdict, accept, point_verdict}
use Rattle.protocol.proofs.Rows.{RowHolds, rows_pass}
use Rattle.protocol.proofs.Values.{eval-F, gate_at_lem, step_at_lem, start_at_lem, start_off}
use Rattle.protocol.specs.Blinding.{wires_elements, z_elements, interpolated_at}
use Rattle.protocol.proofs.Lengths.{length-F-rows}
use Rattle.protocol.specs.Points.{agree_accepted}
use Rattle.protocol.proofs.Pairing.{product_N, product_D}
use Rattle.protocol.specs.GrandProduct.{GrandProduct, D_nonzero, number_z, Z_first, Z_lt, Z_step, rows_grand, z-laid, proved-laid}
use Rattle.protocol.specs.Quotients.{quotient_holds}

module _ (e q n : ℕ) (D : Domain (suc q) n) (C : Constraints) (x v : ℕ → ℕ) (b : List ℕ) (sat : Satisfies (suc q) n C x v) (beta gamma : ℕ)
    (nonzero : (k : ℕ) → k < 3 * n → Cong (suc q) (factor (wired_tag (suc q) n C) v beta gamma k) 0 → ⊥) where
  abbrev p : ℕ
  p = suc q

  abbrev P : ℕ → ℕ
  P = point (suc q) n

  abbrev Ns : ℕ → ℕ
  Ns = row_n (suc q) n v beta gamma

  abbrev Ds : ℕ → ℕ
  Ds = row_d (suc q) n C v beta gamma

  abbrev Z : ℕ → ℕ
  Z = number_z (suc q) Ns Ds

  abbrev σ : ℕ → ℕ
  σ = permutation (3 * n) C.label

  -- Z ON THE ROWS

  D_not_0 : (i : ℕ) → i < n → Cong (suc q) (Ds i) 0 → ⊥
  D_not_0 = D_nonzero p n D.prime C v beta gamma nonzero

  first : Z 0 ≡ 1
  first = Z_first p n D.prime Ns Ds D_not_0

  Z_stepped : (i : ℕ) → i < n → Cong (suc q) (Z (suc i) * Ds i) (Z i * Ns i)
  Z_stepped = Z_step p n D.prime Ns Ds D_not_0

  -- the permutation keeps the wire values, so the two products are the same
  same_products : Cong (suc q) (prod_n n Ns) (prod_n n Ds)
  same_products =
      product_N p n v beta gamma
      ⨾ cong
      (sym (prod_n_perm (3 * n) σ (factor (tag p n) v beta gamma) (permutation_perm (3 * n) C.label))
      ∙ prod_n_ext (3 * n) _ _ (λ k l.
      ap (λ (a : ℕ). a + beta * tag p n (σ k) + gamma)
      (sat.copies (σ k) k ((permutation_perm (3 * n) C.label).into k l) l (permutation-label (3 * n) C.label k l))))
      ⨾ back (product_D p n C v beta gamma)

  -- so z comes back to 1
  Z_round : Z n ≡ 1
  Z_round =
      cong_lt (Z_lt p n D.prime Ns Ds D_not_0 n (omega arith)) D.prime.two
      (cong_divide (prod_n n Ds) D.prime (prod_n_nonzero n Ds D.prime D_not_0)
      (cong {b = Z n * prod_n n Ds} (omega arith) ⨾ telescope n Z Ns Ds (cong first) Z_stepped ⨾ same_products ⨾ cong (omega arith)))

  Z_next : (i : ℕ) → i < n → Z (suc i % n) ≡ Z (suc i)
  Z_next i l = go (dec_lt (suc i) n)
    where
      go : Dec (suc i < n) → Z (suc i % n) ≡ Z (suc i)
      go (yes h) = ap Z (mod-eq_of_lt h)
      go (no h) = let e : suc i ≡ n = omega arith in rw e (ap Z (mod_self n) ∙ first ∙ sym Z_round)

  -- z on the rows, as the list of its numbers
  abbrev pub rows : List ℕ
  rows = tab (number_z (suc q) (row_n (suc q) n v beta gamma) (row_d (suc q) n C v beta gamma)) n

  at : (i : ℕ) → i < n → coef rows i ≡ Z i
  at i l = get_or-tab Z n i l

  row : (i : ℕ) → i < n → RowHolds (suc q) n C x v (coef rows) beta gamma i
  row i l =
      record {
        gated = sat.gates i l;
        started = λ e. at 0 (omega arith) ∙ first;
        stepped =
            rw (at i l, at (suc i % n) (mod-lt (suc i) (omega arith)))
            (back (Z_stepped i l) ⨾ cong (ap (λ (a : ℕ). a * Ds i) (sym (Z_next i l)))).same;
      }

  pub grand : GrandProduct (suc q) n C v beta gamma rows
  grand = rows_grand p n D.prime C v beta gamma nonzero (omega (arith, rows_positive q n D))

  pub z_passes : row_verdict (suc q) n C x v (coef rows) beta gamma ≡ pass
  z_passes = rows_pass p n C x v (coef rows) beta gamma row

  -- F AND T

  abbrev wires : ℕ → List ℕ
  wires = wires_of e (suc q) n v b

  abbrev pub z : List ℕ
  z = z_through e (suc q) n b rows

  pub z_is : z_of e (suc q) n C v b beta gamma ≡ some z
  z_is = z-laid e p n C v b beta gamma rows grand.is

  wires_fit : (c i : ℕ) → c < 3 → i < n → Cong (suc q) (eval (wires c) (P i)) (v (position n c i))
  wires_fit c i h l = interpolated_at q n (wire_blinder e b c) (λ r. v (position n c r)) D i l

  wires_long : (c : ℕ) → c < 3 → length (wires c) ≡ wire_length e n
  wires_long c h = (wires_elements D e b v c).long

  z_long : length z ≡ z_length e n
  z_long = (z_elements D e b (coef rows)).long

  z_fit : (i : ℕ) → i < n → Cong (suc q) (eval z (P i)) (coef rows i)
  z_fit = interpolated_at q n (z_blinder e b) (coef rows) D

  module _ (alpha : ℕ) where
    abbrev F : List ℕ
    F = f_of (suc q) n C x wires z beta gamma alpha

    F-zero : (i : ℕ) → i < n → Cong (suc q) (eval F (P i)) 0
    F-zero i l =
        cong (eval-F p n (prepared_poly p n C) wires (interpolation p n x) z beta gamma alpha (P i))
        ⨾ cong_add
        (cong_add (gate_at_lem q n D v wires wires_fit C x i l ⨾ cong (row i l).gated)
        (cong_zero alpha (step_at_lem q n D (coef rows) z z_fit v wires wires_fit C beta gamma i l ⨾ cong_diff (record { same = (row i l).stepped }))))
        (cong_zero (alpha * alpha) (start_zero (ℕ_discrete i 0)))
      where
        start_zero : Dec (i ≡ 0) → Cong (suc q) (eval (start_part p n z) (P i)) 0
        start_zero (yes e) =
            cong (ap (λ (k : ℕ). eval (start_part p n z) (P k)) e) ⨾ start_at_lem q n D (coef rows) z z_fit ⨾ cong_diff (cong ((row i l).started e))
        start_zero (no e) = start_off q n D z i (omega arith) l

    abbrev pub t : List ℕ
    t = t_of e (suc q) n C x v b z beta gamma alpha

    pub laid : proved e (suc q) n C x v b beta gamma alpha ≡ some (transcript (wires_of e (suc q) n v b) z t)
    laid = proved-laid e p n C v b beta gamma rows grand.is x alpha

    pub t_holds : SameP (suc q) (f_of (suc q) n C x (wires_of e (suc q) n v b) z beta gamma alpha) (times_vanishing (suc q) n t)
    t_holds = quotient_holds q n D F F-zero e (length-F-rows e p n C x wires z (rows_positive q n D) wires_long z_long beta gamma alpha)

    pub accepts : (zeta : ℕ) → point_verdict e (suc q) n (prepared (suc q) n C) x (transcript (wires_of e (suc q) n v b) z t) beta gamma alpha zeta ≡ accept
    accepts zeta =
        agree_accepted e q n D C x wires z t wires_long z_long beta gamma alpha zeta
        (eval_cong F (times_vanishing p n t) zeta zeta t_holds (cong refl))
