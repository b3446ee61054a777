-- There and back, in either order, gives what went in; and the transferred witness has the wire values that it had.
--
-- ThereAndBack n xs    both ways there and back give xs again
-- there_and_back       THE THEOREM, for every list of 3n numbers
-- rows_read            the wire value of a position, in a witness that was transferred to rows
-- rows_long            a transferred witness has 3n numbers
-- rows_below, columns_below   it has elements exactly where the other has
--
-- The theorems stand in proofs/ThereAndBack.
-- Assumes nothing.
use Rattle.std.specs.Prelude.{◌≡◌, List, ℕ}
use Rattle.transfer.specs.Transfer.{to_rows, to_columns}

pub record ThereAndBack (n : ℕ) (xs : List ℕ) : Type 0 where
  pub rows_first : to_columns n (to_rows n xs) ≡ xs
  pub columns_first : to_rows n (to_columns n xs) ≡ xs
