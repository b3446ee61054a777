-- Each word is written once, in order.
use Rattle.std.proofs.Common.{◌∙◌, arith}
use Rattle.algebra.specs.Tables.{filled, tab-get_or}
use Rattle.transform.proofs.slices.copy.Goals as goal

pub returns : goal.returns
returns c = filled _ (omega arith) (omega arith) c.loop-i.invariant ∙ tab-get_or c.args.from.now
