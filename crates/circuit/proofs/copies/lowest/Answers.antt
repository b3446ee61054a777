-- The label that a turn reads has a slot, which gets the lower position.
use Rattle.std.proofs.Common.{arith, ◌≡◌}
use Rattle.circuit.proofs.Passes.{has_slot, lowest_more, lowest_all}
use Rattle.circuit.proofs.copies.lowest.Goals as goal

pub loop-k-preserved : goal.loop-k-preserved
loop-k-preserved c = lowest_more _ _ _ _ (omega arith) (omega arith) (has_slot c.requires.0 _ _ (omega arith) (omega arith)) c.loop-k.invariant

pub returns : goal.returns
returns c = let done : c.loop-k.k ≡ 0 = omega arith in lowest_all _ _ (rw done at c.loop-k.invariant)
