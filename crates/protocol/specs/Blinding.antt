-- Blinded polynomials: f + r × (X^n - 1).
--
-- blinded_elements      they are elements, as many as f and r have together
-- blinded_value         their value at x
-- blinded-root          at an x with x^n = 1 it is that of f
-- unblinded             where r has no coefficients, f stays as it is
-- wire_blinder_long, z_blinder_long    the coefficients of what blinds a wire, and z
-- wires_elements, z_elements           the wires of a witness, and z of numbers on the rows, are elements, as many as are due
-- interpolated_value, interpolated_at   the value at x of the blinded polynomial through the numbers u; at row i's point it is u(i)
--
-- Assumes nothing.
use Rattle.std.specs.Prelude.{◌≡◌, refl}
use Rattle.std.proofs.Common.{sym, subst, ◌∙◌, mod-eq_of_lt, arith}
use Rattle.std.proofs.Math.Path.{ap}
use mathlib.Core.List.{List, []}
use Prim.Native.Nat.{ℕ, suc, ◌+◌, ◌*◌, ◌^◌, ◌%◌, ◌≤◌, ◌<◌}
use Rattle.std.proofs.Math.ListN.{length}
use Rattle.algebra.specs.Polynomial.{eval, add_p, shift, times_vanishing, reduced, Elements}
use Rattle.algebra.specs.Congruence.{Cong, cong, ◌⨾◌, cong_add, cong_mul, cong_neg}
use Rattle.algebra.specs.Tables.{length-tab, all_get_d}
use Rattle.algebra.specs.PolynomialLaws.{eval_add, eval_cong, length-add, coef-add, coef-shift_low, reduced_of, reduced_same, reduced_elements}
use Rattle.algebra.specs.Division.{eval_vanishing, length_vanishing}
use Rattle.field.specs.Fields.{point}
use Rattle.field.specs.Domain.{Domain}
use Rattle.transform.specs.Transform.{interpolation}
use Rattle.transform.specs.Interpolation.{interpolation_at_lem, interpolation_most}
use Rattle.circuit.specs.Buffers.{wire_length, z_length}
use Rattle.protocol.specs.Protocol.{wire_blinder, z_blinder, blinded, wires_of}
use Rattle.protocol.specs.Domains.{point-power}

pub blinded_elements : {p : ℕ} (n : ℕ) (r f : List ℕ) → 0 < p → Elements p (n + length r) (blinded p n r f)
unfolding blinded
blinded_elements n r f h = reduced_elements (n + length r) _ h

module _ (q n : ℕ) (r f : List ℕ) (short : length f ≤ n) where
  pub blinded_value : (x : ℕ) → Cong (suc q) (eval (blinded (suc q) n r f) x) (eval f x + (x ^ n + q) * eval r x)
  unfolding blinded
  blinded_value x =
      let g : List ℕ = add_p f (times_vanishing (suc q) n r) in
      eval_cong (reduced (suc q) (n + length r) g) g x x
      (reduced_same (suc q) (n + length r) g (omega (arith, length-add f (times_vanishing (suc q) n r), length_vanishing (suc q) n r)))
      (cong refl)
      ⨾ cong (eval_add f (times_vanishing (suc q) n r) x ∙ ap (λ (a : ℕ). eval f x + a) (eval_vanishing q n r x))

  pub blinded-root : (x : ℕ) → Cong (suc q) (x ^ n) 1 → Cong (suc q) (eval (blinded (suc q) n r f) x) (eval f x)
  blinded-root x h =
      blinded_value x
      ⨾ cong_add (cong {b = eval f x} refl)
      (cong_mul (cong_add h (cong {b = q} refl)) (cong {b = eval r x} refl) ⨾ cong {b = eval r x + q * eval r x} (omega arith) ⨾ cong_neg (eval r x))
      ⨾ cong (omega arith)

pub unblinded : (p n : ℕ) (f : List ℕ) → Elements p n f → blinded p n [] f ≡ f
unfolding blinded
unblinded p n f e =
    ap (λ (m : ℕ). reduced p m (add_p f (times_vanishing p n []))) (omega arith)
    ∙ sym (reduced_of p n f (add_p f (times_vanishing p n [])) e.long (λ k h.
    sym (mod-eq_of_lt (all_get_d (λ (a : ℕ). a < p) f e.below k (omega (arith, e.long))))
    ∙ ap (λ (a : ℕ). a % p) (omega (arith, coef-add f (times_vanishing p n []) k, coef-add (shift n []) [] k, coef-shift_low n [] k h))))

-- OF A WITNESS

pub wire_blinder_long : (e c : ℕ) (b : List ℕ) → length (wire_blinder e b c) ≡ 2 * e
wire_blinder_long e c b = length-tab _ (2 * e)

pub z_blinder_long : (e : ℕ) (b : List ℕ) → length (z_blinder e b) ≡ 3 * e
z_blinder_long e b = length-tab _ (3 * e)

module _ {p n : ℕ} (D : Domain p n) (e : ℕ) (b : List ℕ) where
  pub wires_elements : (v : ℕ → ℕ) (c : ℕ) → Elements p (wire_length e n) (wires_of e p n v b c)
  wires_elements v c =
      subst (λ (m : ℕ). Elements p m (wires_of e p n v b c)) (ap (λ (m : ℕ). n + m) (wire_blinder_long e c b))
      (blinded_elements n (wire_blinder e b c) _ (omega (arith, D.prime.two)))

  pub z_elements : (u : ℕ → ℕ) → Elements p (z_length e n) (blinded p n (z_blinder e b) (interpolation p n u))
  z_elements u =
      subst (λ (m : ℕ). Elements p m (blinded p n (z_blinder e b) (interpolation p n u))) (ap (λ (m : ℕ). n + m) (z_blinder_long e b))
      (blinded_elements n (z_blinder e b) _ (omega (arith, D.prime.two)))

module _ (q n : ℕ) (r : List ℕ) (u : ℕ → ℕ) where
  pub interpolated_value : (x : ℕ) → Cong (suc q) (eval (blinded (suc q) n r (interpolation (suc q) n u)) x) (eval (interpolation (suc q) n u) x + (x ^ n + q) * eval r x)
  interpolated_value = blinded_value q n r (interpolation (suc q) n u) (interpolation_most (suc q) n u)

  pub interpolated_at : Domain (suc q) n → (i : ℕ) → i < n → Cong (suc q) (eval (blinded (suc q) n r (interpolation (suc q) n u)) (point (suc q) n i)) (u i)
  interpolated_at D i l =
      blinded-root q n r (interpolation (suc q) n u) (interpolation_most (suc q) n u) (point (suc q) n i) (point-power q n D i) ⨾ interpolation_at_lem q n D u i l
