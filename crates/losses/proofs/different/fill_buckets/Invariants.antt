-- The buckets of the first k numbers are written.
use Rattle.std.proofs.Common.{◌≡◌, ◌%◌, ◌<◌, get_or, length, ℕ}
use Rattle.losses.proofs.different.fill_buckets.Given as goal

abbrev pub invariant-loop-k : goal.invariant-loop-k
invariant-loop-k l = (j : ℕ) → j < l.k → get_or l.buckets j 0 ≡ get_or l.numbers j 0 % length l.numbers
