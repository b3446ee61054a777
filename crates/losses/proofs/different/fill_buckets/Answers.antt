-- Each word is written once, in order.
use Rattle.std.proofs.Common.{arith}
use Rattle.algebra.specs.Tables.{filled}
use Rattle.losses.specs.Buckets.{buckets_of}
use Rattle.losses.proofs.different.fill_buckets.Goals as goal

pub returns : goal.returns
unfolding buckets_of
returns c = filled _ (omega arith) (omega arith) c.loop-k.invariant
