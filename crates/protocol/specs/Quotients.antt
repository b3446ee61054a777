-- The quotient: a polynomial that is 0 at the domain points is its quotient times X^n - 1.
--
-- vanishing_same     t × (X^n - 1) sees t modulo p
-- division_reduced   the reduced quotient of m coefficients, for a polynomial of at most n + m
-- quotient_holds     the quotient t of F, for an F of at most n coefficients more than t has
-- quotient_sees      t sees F modulo p
--
-- Assumes nothing.
use Rattle.std.specs.Prelude.{◌≡◌, refl, List, ℕ, suc, ◌+◌, ◌≤◌, ◌<◌, pred, length}
use Rattle.std.proofs.Common.{sym, ap, ◌∙◌, arith}
use Rattle.algebra.specs.Lists.{tab}
use Rattle.algebra.specs.Polynomial.{eval, scale_p, shift, times_vanishing, quotient_vanishing, reduced, SameP}
use Rattle.algebra.specs.Congruence.{Cong, cong}
use Rattle.algebra.specs.Tables.{length-tab}
use Rattle.algebra.specs.PolynomialLaws.{reduced_same}
use Rattle.algebra.specs.Division.{length-quotient, quotient-reduced, division_exact}
use Rattle.algebra.specs.Same.{same_add, same_scale, same_shift}
use Rattle.field.specs.Fields.{point}
use Rattle.field.specs.Domain.{Domain}
use Rattle.transform.specs.Interpolation.{rows_positive}
use Rattle.circuit.specs.Buffers.{quotient_length, f_length}
use Rattle.protocol.specs.Protocol.{quotient}
use Rattle.protocol.specs.Domains.{points_distinct, zeros}

pub vanishing_same : (p n : ℕ) (t u : List ℕ) → SameP p t u → SameP p (times_vanishing p n t) (times_vanishing p n u)
vanishing_same p n t u h =
    same_add p (shift n t) (shift n u) (scale_p (pred p) t) (scale_p (pred p) u) (same_shift p n t u h)
    (same_scale p (pred p) (pred p) t u (cong refl) h)

module _ (q n : ℕ) (D : Domain (suc q) n) (f : List ℕ) (zero_at : (i : ℕ) → i < n → Cong (suc q) (eval f (point (suc q) n i)) 0) where
  abbrev p : ℕ
  p = suc q

  pub division_reduced : (m : ℕ) → length f ≤ n + m → SameP (suc q) f (times_vanishing (suc q) n (reduced (suc q) m (quotient_vanishing n m f)))
  division_reduced m fits k =
      let pos : 0 < n = omega (arith, rows_positive q n D) in
      let t : List ℕ = quotient_vanishing n m f in
      division_exact n m f pos fits q D.prime (tab (point p n) n) (omega (arith, length-tab (point p n) n)) (points_distinct q n D) (zeros q n D f zero_at) k
      ∙ sym (vanishing_same p n (reduced p m t) t (reduced_same p m t (omega (arith, length-quotient n m f pos fits))) k)

  pub quotient_holds : (e : ℕ) → length f ≤ f_length e n → SameP (suc q) f (times_vanishing (suc q) n (quotient e (suc q) n f))
  unfolding quotient
  quotient_holds e fits = division_reduced (quotient_length e n) fits

pub quotient_sees : (e p n : ℕ) (f F : List ℕ) → 0 < n → length F ≤ f_length e n → f ≡ reduced p (f_length e n) F → quotient e p n f ≡ quotient e p n F
unfolding quotient
quotient_sees e p n f F pos fits is =
    ap (λ (g : List ℕ). reduced p (quotient_length e n) (quotient_vanishing n (quotient_length e n) g)) is
    ∙ quotient-reduced p n (quotient_length e n) F pos fits
