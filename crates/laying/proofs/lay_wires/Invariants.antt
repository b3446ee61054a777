-- So many wires are laid end to end.
use Rattle.std.proofs.Common.{◌≡◌, ◌*◌, take}
use Rattle.transform.specs.Parts.{laid}
use Rattle.circuit.specs.Circuit.{lent_witness}
use Rattle.protocol.specs.Protocol.{wires_of}
use Rattle.laying.proofs.lay_wires.Given as goal

abbrev pub invariant-loop-column : goal.invariant-loop-column
invariant-loop-column l = take (l.column * l.k) l.out ≡ laid (wires_of l.e l.domain.p l.domain.n (lent_witness l.domain.n l.witness) l.blinders) l.column
