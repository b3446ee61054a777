-- `cases::run_all`: every step takes a line at least.
use Rattle.std.proofs.Common.{length}
use Rattle.cases.proofs.run_all.Given as goal

abbrev pub decreases-loop-s : goal.decreases-loop-s
decreases-loop-s l = length l.s
