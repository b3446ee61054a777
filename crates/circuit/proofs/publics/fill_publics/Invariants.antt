-- The first i row values are laid.
use Rattle.std.proofs.Common.{◌≡◌, ◌<◌, get_or, ℕ}
use Rattle.circuit.specs.Circuit.{lent_public}
use Rattle.circuit.proofs.publics.fill_publics.Given as goal

abbrev pub invariant-loop-i : goal.invariant-loop-i
invariant-loop-i l = (k : ℕ) → k < l.i → get_or l.out k 0 ≡ lent_public l.publics k
