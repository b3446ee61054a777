-- A turn lays the wire of its column behind those that are laid.
use Rattle.std.proofs.Common.{◌≡◌, ◌+◌, ◌*◌, ◌≤◌, length, ◌∙◌, arith}
use borrow.Rule.Slice.PartMut.{mid_len}
use Rattle.algebra.specs.Ends.{run_room}
use Rattle.laying.proofs.WireLaws.{none_laid, one_laid}
use Rattle.laying.proofs.lay_wires.Goals as goal

pub loop-column-init : goal.loop-column-init
loop-column-init c =
    let none : 0 * c.wire_length-k.result ≡ 0 = omega arith in
    rw none (none_laid _ c.args.out.now)

pub loop-column-preserved : goal.loop-column-preserved
loop-column-preserved c =
    let column = c.loop-column.column in
    let k = c.wire_length-k.result in
    let fits : (column + 1) * k ≤ length c.loop-column.out =
    omega (arith, run_room column 3 k c.loop-column-test.true, c.loop-column.auto.out, c.requires.out_len.0, c.wire_length-k.ensures)
    in
    let order : column * k ≤ (column + 1) * k = omega arith in
    one_laid _ column _ _ c.loop-column.out c.lay_wire.new.out c.loop-column.invariant order fits c.lay_wire.ensures
    (c.lay_wire.auto.out ∙ mid_len _ _ _ (omega arith))
