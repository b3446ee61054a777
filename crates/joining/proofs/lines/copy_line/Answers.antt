-- All numbers are copied.
use Rattle.std.proofs.Common.{arith}
use Rattle.algebra.specs.Tables.{filled}
use Rattle.joining.proofs.lines.copy_line.Goals as goal

pub returns : goal.returns
returns c = filled _ (omega arith) (omega arith) c.loop-j.invariant
