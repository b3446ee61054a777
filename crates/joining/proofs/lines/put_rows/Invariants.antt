-- The first i lines are put.
use Rattle.transform.specs.Parts.{laid}
use Rattle.text.specs.Text.{line_of}
use Rattle.text.specs.Puts.{Puts}
use Rattle.joining.specs.Lines.{row_in}
use Rattle.joining.proofs.lines.put_rows.Given as goal

abbrev pub invariant-loop-i : goal.invariant-loop-i
invariant-loop-i l = Puts l.fn.at (laid (λ i. line_of (row_in l.n l.l l.m l.start l.k l.first l.second i)) l.i) l.fn.out l.next l.out
