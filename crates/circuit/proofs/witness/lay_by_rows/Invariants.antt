-- The first j numbers are laid.
use Rattle.std.proofs.Common.{◌≡◌, ◌<◌, get_or, ℕ}
use Rattle.circuit.specs.Circuit.{witness_position}
use Rattle.circuit.proofs.witness.lay_by_rows.Given as goal

abbrev pub invariant-loop-j : goal.invariant-loop-j
invariant-loop-j l = (k : ℕ) → k < l.j → get_or l.out k 0 ≡ get_or l.values (witness_position l.n k) 0
