-- The position of a column and a row: position = column × n + row.
--
-- position-column, position_row   the column and the row of a position
-- by_position                     what holds at each of m columns and n rows holds at each of the m × n positions
-- product_by_rows                 the product over the positions, row by row
--
-- Assumes nothing.
use Rattle.std.specs.Prelude.{◌≡◌, ℕ, zero, suc, ◌+◌, ◌*◌, ◌/◌, ◌%◌, ◌<◌}
use Rattle.std.proofs.Common.{sym, ap, ◌∙◌, subst, mod-lt, mod-eq_of_lt, div-add-mod', div-lt_iff_lt-mul, arith}
use Rattle.std.proofs.Math.Nat.{mul-add-div_right, mul-add-mod_self_right, div-eq_of_lt}
use Rattle.algebra.specs.Lists.{prod_n}
use Rattle.algebra.specs.Products.{prod_n_ext, prod_n-mul, prod_n_split}
use Rattle.circuit.specs.Circuit.{position}

pub position-column : (n c i : ℕ) → i < n → position n c i / n ≡ c
position-column n c i l = mul-add-div_right (omega arith) c i ∙ rw (div-eq_of_lt l) (omega arith)

pub position_row : (n c i : ℕ) → i < n → position n c i % n ≡ i
position_row n c i l = mul-add-mod_self_right c n i ∙ mod-eq_of_lt l

pub by_position : (m n : ℕ) (A : ℕ → Type 0) → ((c i : ℕ) → c < m → i < n → A (position n c i)) → (k : ℕ) → k < m * n → A k
by_position m n A h k l = subst A (div-add-mod' k n) (h (k / n) (k % n) ((div-lt_iff_lt-mul (some n l)).1 l) (mod-lt k (some n l)))
  where
    some : (n : ℕ) → k < m * n → 0 < n
    some zero l = absurd (omega arith)
    some (suc n) l = omega arith

pub product_by_rows : (n : ℕ) (f : ℕ → ℕ)
    → prod_n (3 * n) f ≡ prod_n n (λ i. f (position n 0 i) * f (position n 1 i) * f (position n 2 i))
product_by_rows n f =
    let three : 3 * n ≡ n + (n + n) = omega arith in
    ap (λ (m : ℕ). prod_n m f) three
    ∙ prod_n_split n (n + n) f
    ∙ ap (λ (z : ℕ). prod_n n f * z) (prod_n_split n n (λ k. f (n + k)))
    ∙ sym
    (prod_n_ext n _ (λ i. f i * (f (n + i) * f (n + (n + i)))) (λ i l. row i)
    ∙ prod_n-mul n f (λ i. f (n + i) * f (n + (n + i)))
    ∙ ap (λ (z : ℕ). prod_n n f * z) (prod_n-mul n (λ i. f (n + i)) (λ i. f (n + (n + i)))))
  where
    row : (i : ℕ) → f (position n 0 i) * f (position n 1 i) * f (position n 2 i) ≡ f i * (f (n + i) * f (n + (n + i)))
    row i =
        let a : position n 0 i ≡ i = omega arith in
        let b : position n 1 i ≡ n + i = omega arith in
        let c : position n 2 i ≡ n + (n + i) = omega arith in
        rw (a, b, c) (omega arith)
