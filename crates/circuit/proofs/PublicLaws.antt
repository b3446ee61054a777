-- The public inputs as row values.
--
-- row_elements          they are elements, the rows past their end too
-- rows-interpolation    the polynomial of the row values is that of the public inputs
--
-- Assumes nothing.
use mathlib.Core.Path.{◌≡◌, ap, ◌∙◌}
use mathlib.Core.List.{List}
use Prim.Native.Nat.{ℕ, ◌<◌}
use native.Mathlib.Decide.{dec_lt}
use native.Mathlib.Omega.{arith}
use lib.ListN.{length, get_or, get_or-eq_default}
use Rattle.algebra.specs.Lists.{tab, All}
use Rattle.algebra.specs.Polynomial.{coef, Elements}
use Rattle.algebra.specs.Tables.{length-tab, get_or-tab, all_tab, all_get_d}
use Rattle.transform.specs.Transform.{interpolation}
use Rattle.transform.specs.Interpolation.{interpolation_ext}
use Rattle.circuit.specs.Circuit.{lent_public}

module _ (p n : ℕ) (publics xs : List ℕ) (m : ℕ) (is : xs ≡ tab (lent_public publics) m) (long : m ≡ n) where
  pub row_elements : 0 < p → All (λ (x : ℕ). x < p) publics → Elements p n xs
  row_elements z below =
      rw is (record { long = length-tab (lent_public publics) m ∙ long; below = all_tab (λ (x : ℕ). x < p) (lent_public publics) m (λ k h. element k (dec_lt k (length publics))) })
    where
      element : (k : ℕ) → Dec (k < length publics) → get_or publics k 0 < p
      element k (yes h) = all_get_d (λ (x : ℕ). x < p) publics below k h
      element k (no h) = let e : get_or publics k 0 ≡ 0 = get_or-eq_default publics 0 (omega arith) in omega arith

  pub rows-interpolation : interpolation p n (coef xs) ≡ interpolation p n (lent_public publics)
  rows-interpolation =
      interpolation_ext p n (coef xs) (lent_public publics)
      (λ i h. ap (λ (l : List ℕ). get_or l i 0) is ∙ get_or-tab (lent_public publics) m i (omega arith))
