-- All words are laid: those of the block, and zeros behind them.
use Rattle.std.proofs.Common.{◌∙◌, arith}
use Rattle.algebra.specs.Tables.{filled}
use Rattle.sheet.proofs.BlockLaws.{stopped}
use Rattle.sheet.proofs.laying.lay.Goals as goal

pub returns : goal.returns
returns c = filled _ (omega arith) (omega arith) c.loop-k.invariant ∙ stopped _ _ _ c.requires.count_in_bounds
