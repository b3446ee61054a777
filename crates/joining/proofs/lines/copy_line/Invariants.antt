-- The first j numbers are copied.
use Rattle.std.proofs.Common.{◌≡◌, ℕ, ◌<◌, get_or}
use Rattle.joining.specs.Lines.{number_in}
use Rattle.joining.proofs.lines.copy_line.Given as goal

abbrev pub invariant-loop-j : goal.invariant-loop-j
invariant-loop-j l = (k : ℕ) → k < l.j → get_or l.line k 0 ≡ number_in l.raise l.table l.i k
