-- Each word is written once, in order.
use Rattle.std.proofs.Common.{arith}
use Rattle.algebra.specs.Tables.{filled}
use Rattle.circuit.specs.Circuit.{laid_by, by_rows}
use Rattle.circuit.proofs.witness.lay_by_rows.Goals as goal

pub returns : goal.returns
unfolding by_rows laid_by
returns c = filled _ (omega arith) (omega arith) c.loop-j.invariant
