-- Line after line, up to the first that is out of form.
use Rattle.std.proofs.Common.{◌≡◌, ◌-◌, length, not, sym, ap, ap₂, ◌∙◌, arith}
use borrow.Rule.Slice.PartMut.{mid_of}
use Rattle.algebra.specs.Search.{first_stop, first_skip, first_end}
use Rattle.text.specs.Text.{is_line_at}
use Rattle.sheet.specs.Sheet.{fields_due, line_at}
use Rattle.sheet.proofs.LineLaws.{held_more, next_start, part_long}
use Rattle.sheet.proofs.lines.read_lines.Goals as goal
use Rattle.sheet.proofs.lines.read_lines.Goals.{After-line}

-- as many words are lent as the line has numbers, and what is read there is line i
long : (c : After-line) → length (mid_of c.table_place-from.result (c.table_place-to.result - c.table_place-from.result) c.loop-i.table) ≡ fields_due c.args.n c.args.l c.loop-i.i
long c = part_long c.table_place-from.result c.table_place-to.result c.fields_due-k.result c.loop-i.table (omega arith) (omega arith) ∙ c.fields_due-k.ensures.0

same : (c : After-line) → is_line_at c.args.s.now c.loop-i.at (length (mid_of c.table_place-from.result (c.table_place-to.result - c.table_place-from.result) c.loop-i.table))
    ≡ is_line_at c.args.s.now (line_at c.args.s.now c.args.n c.args.l c.loop-i.i) (fields_due c.args.n c.args.l c.loop-i.i)
same c = ap₂ (is_line_at c.args.s.now) c.loop-i.invariant.starts (long c)

pub returns-in_default : goal.returns-in_default
returns-in_default c =
    let e = sym (same (goal.at.returns-in_default c).After-line) ∙ c.in_default.ensures in
    (sym (c.loop-i.invariant.searched ∙ first_stop _ _ _ c.loop-i-test.true (ap not e)), c.loop-i-test.true)

pub loop-i-preserved : goal.loop-i-preserved
loop-i-preserved c =
    let k = long (goal.at.loop-i-preserved c).After-line in
    let e = sym (same (goal.at.loop-i-preserved c).After-line) ∙ c.in-Some.ensures.0 in
    record {
      starts = next_start _ _ _ _ _ _ _ c.in-Some.ensures.1 c.loop-i.invariant.starts k;
      within = c.in-Some.ensures.2;
      searched = c.loop-i.invariant.searched ∙ first_skip _ _ _ c.loop-i-test.true (ap not e);
      held =
          held_more _ _ _ _ _ _ _ _ c.loop-i.table c.line.new.out c.fields_due-k.ensures.0 c.loop-i.invariant.starts c.table_place-from.ensures c.table_place-to.ensures (omega arith)
          c.in-Some.ensures.3 c.loop-i.invariant.held;
    }

pub returns : goal.returns
returns c =
    let all : c.loop-i.i ≡ c.args.due = omega arith in (
      c.loop-i.invariant.searched ∙ first_end _ _ _ c.loop-i-test.false ∙ all,
      c.loop-i.invariant.starts ∙ ap (line_at c.args.s.now c.args.n c.args.l) all,
      c.loop-i.invariant.within,
      rw all at c.loop-i.invariant.held,
    )
