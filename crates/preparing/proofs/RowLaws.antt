-- The row values that preparing interpolates.
--
-- rows_elements    the row values are elements, as many as a prepared circuit has
-- rows-prepared    the polynomials of the runs are the prepared circuit
--
-- Assumes nothing.
use mathlib.Core.Path.{◌≡◌, ap, subst, ◌∙◌}
use mathlib.Core.List.{List, ◌++◌}
use Prim.Native.Nat.{ℕ, ◌+◌, ◌*◌, ◌<◌}
use native.Mathlib.Omega.{arith}
use lib.ListN.{length, get_or, get_or-append}
use lib.Seq.{get_or-append-add}
use Rattle.algebra.specs.Ends.{run_room}
use Rattle.algebra.specs.Lists.{tab}
use Rattle.algebra.specs.Polynomial.{Elements}
use Rattle.algebra.specs.PolynomialLaws.{tab_elements, append_elements}
use Rattle.algebra.specs.Tables.{get_or-tab}
use Rattle.field.specs.Fields.{Admissible, tag}
use Rattle.field.specs.Primes.{field_prime}
use Rattle.field.specs.Domain.{tag-lt}
use Rattle.transform.specs.Transform.{interpolation}
use Rattle.transform.specs.Interpolation.{interpolation_ext}
use Rattle.transform.specs.Parts.{laid, interpolated}
use Rattle.circuit.specs.Circuit.{lent_constraints, permutation, position}
use Rattle.circuit.specs.Buffers.{selector_count, prepared_count, wired_number, selectors_length, prepared_length}
use Rattle.protocol.specs.Protocol.{prepared, wired_tag}
use Rattle.preparing.specs.Promises.{rows_of}

pub rows_elements : (p n : ℕ) (selectors labels : List ℕ) → Admissible p n → Elements p (selectors_length n) selectors → Elements p (prepared_length n) (rows_of p n selectors labels)
rows_elements p n selectors labels A e =
    let sum : selectors_length n + 3 * n ≡ prepared_length n = omega arith in
    let pos : 0 < p = omega (arith, (field_prime p A.one_of_three).two) in
    subst (λ (m : ℕ). Elements p m (rows_of p n selectors labels)) sum
    (append_elements e
    (tab_elements _ (3 * n) (λ k h. tag-lt p n _ pos)))

module _ (p n : ℕ) (selectors labels : List ℕ) (l : length selectors ≡ selectors_length n) where
  abbrev tags : List ℕ
  tags = tab (λ k. tag p n (permutation (3 * n) (λ j. get_or labels j 0) k)) (3 * n)

  abbrev run : ℕ → List ℕ
  run s = interpolation p n (λ i. get_or (selectors ++ tags) (s * n + i) 0)

  -- a run of the selectors, and one of the tags
  front_run : (s : ℕ) → s < selector_count → run s ≡ interpolation p n (λ i. get_or selectors (s * n + i) 0)
  front_run s h =
      interpolation_ext p n _ _ (λ i k. get_or-append selectors tags 0 (s * n + i) (omega (arith, l, run_room s selector_count n h)))

  back_run : (c : ℕ) → c < 3 → run (wired_number + c) ≡ interpolation p n (λ i. wired_tag p n (lent_constraints n selectors labels) (position n c i))
  back_run c h =
      interpolation_ext p n _ _ (λ i k.
      let at : (wired_number + c) * n + i ≡ length selectors + (c * n + i) = omega (arith, l) in
      ap (λ (j : ℕ). get_or (selectors ++ tags) j 0) at
      ∙ get_or-append-add selectors tags (c * n + i) 0
      ∙ get_or-tab _ (3 * n) (c * n + i) (omega (arith, run_room c 3 n h)))

  pub rows-prepared : interpolated p n (rows_of p n selectors labels) prepared_count ≡ prepared p n (lent_constraints n selectors labels)
  unfolding laid prepared
  rows-prepared =
      rw (
        front_run 0 (omega arith),
        front_run 1 (omega arith),
        front_run 2 (omega arith),
        front_run 3 (omega arith),
        front_run 4 (omega arith),
        back_run 0 (omega arith),
        back_run 1 (omega arith),
        back_run 2 (omega arith),
      )
