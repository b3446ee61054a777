-- The first i wire values of the column are laid.
use Rattle.std.proofs.Common.{◌≡◌, ◌<◌, get_or, ℕ}
use Rattle.circuit.specs.Circuit.{position, lent_witness}
use Rattle.circuit.proofs.witness.column_values.Given as goal

abbrev pub invariant-loop-i : goal.invariant-loop-i
invariant-loop-i l = (k : ℕ) → k < l.i → get_or l.out k 0 ≡ lent_witness l.n l.witness (position l.n l.column k)
