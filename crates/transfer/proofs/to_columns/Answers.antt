-- `transfer::to_columns` meets its contract: where no reason applies, the numbers are laid in the other layout. Assumes nothing.
use Rattle.std.proofs.Common.{refl}
use Rattle.field.specs.ReasonLaws.{ok_number}
use Rattle.transfer.proofs.Known.{known}
use Rattle.transfer.proofs.to_columns.Goals as goal

pub wire_values-requires : goal.wire_values-requires
wire_values-requires c =
    let a = c.args in
    let k = known a.n a.rows.now a.columns.now _ c.decide.ensures (ok_number c.in_ok-decide.was refl) in
    (k.few, k.from_long, k.to_long)
