-- The place is that of the position.
use Rattle.circuit.specs.Circuit.{lent_by, by_rows}
use Rattle.circuit.specs.Witness.{place_of}
use Rattle.circuit.proofs.witness.wire_value.Goals as goal

pub returns : goal.returns
unfolding lent_by by_rows
returns c = rw (place_of c.args.n c.args.column c.args.row c.requires.2)
