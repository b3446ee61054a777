-- What the inner functions ask of their buffers.
--
-- Checked      p and n are admissible, lengths and labels are right
--
-- Assumes nothing.
use Rattle.std.specs.Prelude.{◌≡◌, List, ℕ, length}
use Rattle.field.specs.Fields.{Admissible}
use Rattle.circuit.specs.Ahead.{Labels}
use Rattle.circuit.specs.Buffers.{selectors_length, labels_length, witness_length}

pub record Checked (p n : ℕ) (selectors labels witness challenges : List ℕ) : Type 0 where
  pub admissible : Admissible p n
  pub selectors_length_lem : length selectors ≡ selectors_length n
  pub labels_length_lem : length labels ≡ labels_length n
  pub labels_right : Labels labels
  pub witness_length_lem : length witness ≡ witness_length n
  pub challenges_length : length challenges ≡ 3
