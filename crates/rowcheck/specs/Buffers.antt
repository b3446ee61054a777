-- What the inner functions ask of their buffers, and a test of a verdict.
--
-- Checked p n selectors labels witness z challenges   what `check_rows` has checked: p and n are admissible, lengths and labels are right
-- Lent n selectors z           the lengths are right, for n rows
-- Tags p n labels own wired      the tags of the positions, and of those that the permutation of the labels leads to
--
-- Assumes nothing.
use Rattle.std.specs.Prelude.{◌≡◌, List, ℕ, ◌*◌, length, get_or}
use Rattle.algebra.specs.Lists.{tab}
use Rattle.field.specs.Fields.{Admissible, tag}
use Rattle.circuit.specs.Circuit.{permutation}
use Rattle.circuit.specs.Buffers.{selectors_length, labels_length, witness_length}
use Rattle.circuit.specs.Ahead.{Labels}

pub record Checked (p n : ℕ) (selectors labels witness z challenges : List ℕ) : Type 0 where
  pub admissible : Admissible p n
  pub selectors_length_lem : length selectors ≡ selectors_length n
  pub labels_length_lem : length labels ≡ labels_length n
  pub labels_right : Labels labels
  pub witness_length_lem : length witness ≡ witness_length n
  pub z_length_lem : length z ≡ n
  pub challenges_length : length challenges ≡ 2

pub record Lent (n : ℕ) (selectors z : List ℕ) : Type 0 where
  pub selectors_length_lem : length selectors ≡ selectors_length n
  pub z_length_lem : length z ≡ n

pub record Tags (p n : ℕ) (labels own wired : List ℕ) : Type 0 where
  pub own_tags : own ≡ tab (tag p n) (3 * n)
  pub wired_tags : wired ≡ tab (λ k. tag p n (permutation (3 * n) (λ j. get_or labels j 0) k)) (3 * n)
