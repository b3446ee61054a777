-- The theorems that specs/ThereAndBack lists, with their proofs.
-- Assumes nothing.
use Rattle.std.specs.Prelude.{◌≡◌, List, ℕ, ◌*◌, ◌<◌, length, get_or}
use Rattle.std.proofs.Common.{sym, ap, ◌∙◌, arith}
use Rattle.algebra.specs.Lists.{tab, All}
use Rattle.algebra.specs.Tables.{length-tab, get_or-tab, tab_ext, tab-get_or, all_tab, all_get_d}
use Rattle.circuit.specs.Circuit.{laid_by, by_rows, lent_witness}
use Rattle.circuit.specs.Buffers.{witness_length}
use Rattle.circuit.specs.Witness.{lent_laid, laid_lent, laid_ext, laid_elements, lent_below}
use Rattle.transfer.specs.Transfer.{to_rows}
use Rattle.transfer.specs.ThereAndBack.{ThereAndBack}

pub rows_read : (n : ℕ) (columns : List ℕ) (k : ℕ) → k < 3 * n → lent_witness n (to_rows n columns) k ≡ get_or columns k 0
rows_read n columns = lent_laid n (λ k. get_or columns k 0)

pub there_and_back : (n : ℕ) (xs : List ℕ) → length xs ≡ 3 * n → ThereAndBack n xs
there_and_back n xs long =
    record {
      rows_first = tab_ext _ (λ k. get_or xs k 0) (3 * n) (rows_read n xs) ∙ ap (tab (λ k. get_or xs k 0)) (sym long) ∙ tab-get_or xs;
      columns_first = laid_ext n _ (lent_witness n xs) (get_or-tab (lent_witness n xs) (3 * n)) ∙ laid_lent n xs long;
    }

pub rows_long : (n : ℕ) (columns : List ℕ) → length (to_rows n columns) ≡ witness_length n
unfolding laid_by by_rows
rows_long n columns = length-tab _ (3 * n)

module _ (p n : ℕ) (columns : List ℕ) (long : length columns ≡ witness_length n) where
  pub rows_below : All (λ (x : ℕ). x < p) columns → All (λ (x : ℕ). x < p) (to_rows n columns)
  rows_below a = (laid_elements n (λ k. get_or columns k 0) (λ k h. all_get_d (λ (x : ℕ). x < p) columns a k (omega arith))).below

  pub columns_below : All (λ (x : ℕ). x < p) (to_rows n columns) → All (λ (x : ℕ). x < p) columns
  columns_below a =
      rw (sym (there_and_back n columns long).rows_first)
      (all_tab (λ (x : ℕ). x < p) (lent_witness n (to_rows n columns)) (3 * n) (lent_below n (record { long = rows_long n columns; below = a })))
