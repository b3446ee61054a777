-- The lines up to the challenges, then the rest.
use Rattle.std.proofs.Common.{ap, ◌∙◌, arith}
use Rattle.field.specs.Reasons.{told}
use Rattle.sheet.proofs.Decided.{lines_bad, front_bad}
use Rattle.sheet.proofs.lines.decide_lines.Goals as goal

pub returns-in-Err-clause-answer_value : goal.returns-in-Err-clause-answer_value
returns-in-Err-clause-answer_value c =
    ap told c.out_of_form.ensures
    ∙ lines_bad c.args.s.now c.args.n c.args.l _ (front_bad c.args.s.now c.args.n c.args.l _ c.in-Err.ensures.0 c.in-Err.ensures.1) (omega (arith, c.in-Err.ensures.1))
