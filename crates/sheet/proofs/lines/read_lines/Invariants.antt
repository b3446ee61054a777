-- The lines before i are in the table, line i starts at `at`, and the search for a line out of form goes on from i.
use Rattle.std.proofs.Common.{◌≡◌, ◌≤◌, length}
use Rattle.sheet.specs.Sheet.{line_at, bad_from}
use Rattle.sheet.specs.Table.{Held}
use Rattle.sheet.proofs.lines.read_lines.Given as goal

abbrev pub invariant-loop-i : goal.invariant-loop-i
invariant-loop-i l = record {
  starts : l.at ≡ line_at l.s l.n l.l l.i;
  within : l.at ≤ length l.s;
  searched : bad_from l.s l.n l.l l.first l.due ≡ bad_from l.s l.n l.l l.i l.due;
  held : Held l.s l.n l.l l.i l.table;
}
