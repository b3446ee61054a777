-- What the function that decides for a lent circuit and what fills it asks of the buffers.
--
-- Countable n selectors labels witness publics more last   the selectors have the length that is due, and places in the buffers are numbers of the machine
--
-- Assumes nothing.
use Rattle.std.specs.Prelude.{◌≡◌, List, ℕ, ◌+◌, ◌≤◌, length}
use Rattle.circuit.specs.Buffers.{selectors_length}

pub record Countable (n : ℕ) (selectors labels witness publics more last : List ℕ) : Type 0 where
  pub selectors_long : length selectors ≡ selectors_length n
  pub labels_few : length labels ≤ 65536
  pub numbers_few : length selectors + length witness + length publics + length more + length last ≤ 65536
