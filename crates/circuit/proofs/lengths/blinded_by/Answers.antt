-- One length is compared.
use Rattle.std.proofs.Common.{rules}
use Rattle.circuit.specs.Buffers.{blinded_by}
use Rattle.circuit.proofs.lengths.blinded_by.Goals as goal

pub returns : goal.returns
unfolding blinded_by
returns c = search rules
