-- The numbers passed are counted.
use Rattle.std.proofs.Common.{◌≡◌, drop}
use Rattle.algebra.specs.Lists.{different}
use Rattle.losses.proofs.different.count_last.Given as goal

abbrev pub invariant-loop-k : goal.invariant-loop-k
invariant-loop-k l = l.count ≡ different (drop l.k l.numbers)
