-- What the functions that count different numbers ask of their buffers.
--
-- buckets_of numbers     the bucket of each number: its remainder by how many there are
-- Linked numbers next    there are at most 3,072 numbers, and `next` has where the copy permutation of the buckets leads from each
--
-- Assumes nothing.
use Rattle.std.specs.Prelude.{◌≡◌, List, ℕ, ◌%◌, ◌≤◌, length, get_or}
use Rattle.algebra.specs.Lists.{tab}
use Rattle.circuit.specs.Circuit.{permutation}

unfoldable pub buckets_of : List ℕ → List ℕ
buckets_of numbers = tab (λ k. get_or numbers k 0 % length numbers) (length numbers)

pub record Linked (numbers next : List ℕ) : Type 0 where
  pub few : length numbers ≤ 3072
  pub links : next ≡ tab (permutation (length numbers) (λ k. get_or (buckets_of numbers) k 0)) (length numbers)
