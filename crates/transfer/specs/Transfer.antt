-- The transfer of a witness (document 01: the contents) from the layout in which it was lent before request 8 of document 02, column after column, to that in
-- which it is lent since, row by row; and back. In the former layout the wire value of position k stands at place k.
--
-- to_rows n columns     3n numbers that stand column after column, row by row
-- to_columns n rows     3n numbers that stand row by row, column after column
-- transfer_due n        the lengths due: of the buffer that is read, and of the one that is written
-- no_rows n             3: n is a number of rows that no prime has
-- transfer_reasons n from to         the reasons of `to_rows` and `to_columns`: 3 and 6
-- Transfers n transfer from to r to'   what they promise of the answer r, and of the written buffer afterwards
--
-- Assumes nothing.
use Rattle.std.specs.Prelude.{◌≡◌, cond, not, List, [], ◌∷◌, ℕ, ◌*◌, length, get_or}
use Rattle.algebra.specs.Lists.{tab}
use Rattle.field.specs.Reasons.{Answer, Reason, answer_of, is_accepted, bad_lengths}
use Rattle.circuit.specs.Circuit.{lent_witness, laid_witness}
use Rattle.circuit.specs.Buffers.{witness_length}
use Rattle.circuit.specs.Promises.{any_rows}

abbrev pub to_rows : ℕ → List ℕ → List ℕ
to_rows n columns = laid_witness n (λ k. get_or columns k 0)

abbrev pub to_columns : ℕ → List ℕ → List ℕ
to_columns n rows = tab (lent_witness n rows) (3 * n)

abbrev pub transfer_due : ℕ → List ℕ
transfer_due n = witness_length n ∷ witness_length n ∷ []

abbrev pub no_rows : ℕ → Reason
no_rows n = record { number = 3; detail = 0; applies = not (any_rows n) }

abbrev pub transfer_reasons : (n : ℕ) (from to : List ℕ) → List Reason
transfer_reasons n from to = no_rows n ∷ bad_lengths (length from ∷ length to ∷ []) (transfer_due n) ∷ []

-- refused: the written buffer as it came; accepted: what was read, in the other layout. The first buffer is only read.
pub record Transfers (n : ℕ) (transfer : List ℕ → List ℕ) (from to : List ℕ) (r : Answer) (to' : List ℕ) : Type 0 where
  pub answer : r ≡ answer_of (transfer_reasons n from to)
  pub written : to' ≡ cond (is_accepted r) (transfer from) to
