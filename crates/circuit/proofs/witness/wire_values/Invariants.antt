-- The first k wire values are laid.
use Rattle.std.proofs.Common.{◌≡◌, ◌<◌, get_or, ℕ}
use Rattle.circuit.specs.Circuit.{lent_witness}
use Rattle.circuit.proofs.witness.wire_values.Given as goal

abbrev pub invariant-loop-k : goal.invariant-loop-k
invariant-loop-k l = (j : ℕ) → j < l.k → get_or l.out j 0 ≡ lent_witness l.n l.witness j
