-- `circuits::every_size`: the size doubles.
use Rattle.std.proofs.Common.{◌-◌, ◌≤◌}
use Rattle.circuits.proofs.every_size.Given as goal

abbrev pub invariant-loop-n : goal.invariant-loop-n
invariant-loop-n l = (2 ≤ l.n) × (l.n ≤ 2048)

abbrev pub decreases-loop-n : goal.decreases-loop-n
decreases-loop-n l = 2048 - l.n
