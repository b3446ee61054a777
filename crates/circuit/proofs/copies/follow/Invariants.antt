-- The slots hold the next position from k on, and the result is right from k on.
use Rattle.std.proofs.Common.{length, get_or}
use Rattle.algebra.specs.Tables.{FromOn}
use Rattle.circuit.specs.Circuit.{permutation}
use Rattle.circuit.specs.Ahead.{Ahead}
use Rattle.circuit.proofs.copies.follow.Given as goal

abbrev pub invariant-loop-k : goal.invariant-loop-k
invariant-loop-k l = record {
  ahead : Ahead l.labels l.k l.slots;
  right : FromOn (permutation (length l.labels) (λ j. get_or l.labels j 0)) l.k l.out;
}
