-- Each label's slot holds its lowest position from k on.
use Rattle.circuit.proofs.Passes.{Lowest}
use Rattle.circuit.proofs.copies.lowest.Given as goal

abbrev pub invariant-loop-k : goal.invariant-loop-k
invariant-loop-k l = Lowest l.labels l.k l.slots
