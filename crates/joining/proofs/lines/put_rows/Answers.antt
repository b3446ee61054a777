-- Line after line, each of which has at most 11 bytes for a number.
use Rattle.std.proofs.Common.{◌*◌, arith}
use Rattle.algebra.specs.Ends.{run_room}
use Rattle.text.specs.Text.{line_of}
use Rattle.text.specs.Puts.{field_bytes}
use Rattle.sheet.specs.LaidLines.{laid_long}
use Rattle.joining.specs.Lines.{row_in}
use Rattle.joining.proofs.LineLaws.{lines_none, lines_turn, row_long}
use Rattle.joining.proofs.lines.put_rows.Goals as goal

pub loop-i-init : goal.loop-i-init
loop-i-init c = lines_none _ _ _

pub put_row-next-requires : goal.put_row-next-requires
put_row-next-requires c =
    let a = c.args in
    let room = run_room c.loop-i.i (2 * a.n) (field_bytes * a.k) (omega arith) in
    let long =
    laid_long (λ i. line_of (row_in a.n a.l a.m a.start a.k a.first.now a.second.now i)) (field_bytes * a.k) c.loop-i.i
    (λ i h. row_long a.n a.l a.m a.start a.k a.first.now a.second.now i c.requires.0.some)
    in
    (c.requires.0, omega arith, omega (arith, c.loop-i.invariant.place))

pub loop-i-preserved : goal.loop-i-preserved
loop-i-preserved c =
    let a = c.args in
    lines_turn (λ i. line_of (row_in a.n a.l a.m a.start a.k a.first.now a.second.now i)) _ c.loop-i.invariant c.put_row-next.ensures
