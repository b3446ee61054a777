-- Line after line, each of which has at most 11 bytes.
use Rattle.std.proofs.Common.{arith}
use Rattle.text.specs.Text.{line_of}
use Rattle.text.specs.Puts.{field_bytes}
use Rattle.sheet.specs.LaidLines.{laid_long}
use Rattle.joining.specs.Lines.{public_in}
use Rattle.joining.proofs.LineLaws.{lines_none, lines_turn, before_labels, public_long}
use Rattle.joining.proofs.lines.put_publics.Goals as goal

pub loop-i-init : goal.loop-i-init
loop-i-init c = lines_none _ _ _

pub put_words-next-requires : goal.put_words-next-requires
put_words-next-requires c =
    let long = laid_long (λ i. line_of (public_in c.args.n c.args.table.now i)) field_bytes c.loop-i.i (λ i h. public_long c.args.n c.args.table.now i) in
    (before_labels c.args.table.now c.requires.2 (omega arith) (omega arith), omega arith, omega (arith, c.loop-i.invariant.place))

pub loop-i-preserved : goal.loop-i-preserved
loop-i-preserved c = lines_turn (λ i. line_of (public_in c.args.n c.args.table.now i)) _ c.loop-i.invariant c.put_words-next.ensures
