-- By the line that reading stopped at.
use Rattle.std.proofs.Common.{◌≡◌, refl, sym, ap, ◌∙◌, arith}
use Rattle.field.specs.Reasons.{told}
use Rattle.sheet.specs.Sheet.{sheet_blinded}
use Rattle.sheet.specs.Due.{blinded_lines}
use Rattle.sheet.proofs.Decided.{lines_bad, lines_extra, lines_right, rest_bad, blinded_at}
use Rattle.sheet.proofs.lines.decide_rest.Goals as goal
use Rattle.sheet.proofs.lines.decide_rest.Goals.{After-read_lines, In-Ok}

-- how many lines of blinders are there
lines : (c : After-read_lines) → c.blinder_lines.result ≡ sheet_blinded c.args.s.now c.args.n c.args.l
lines c =
    blinded_lines c.args.s.now c.args.n c.args.l _ _ (blinded_at c.args.s.now c.args.n c.args.l _ _ c.requires.0.starts refl) c.blinder_lines.ensures

pub returns-in-Err-clause-answer_value : goal.returns-in-Err-clause-answer_value
returns-in-Err-clause-answer_value c =
    let e = lines (goal.at.returns-in-Err-clause-answer_value c).After-read_lines in
    ap told c.out_of_form.ensures
    ∙ lines_bad c.args.s.now c.args.n c.args.l _ (rest_bad c.args.s.now c.args.n c.args.l _ c.requires.1 _ e c.in-Err.ensures.0) (omega (arith, e, c.in-Err.ensures.1))

pub returns-in-Ok-clause-answer_value : goal.returns-in-Ok-clause-answer_value
returns-in-Ok-clause-answer_value c =
    let e = lines (goal.at.returns-in-Ok-clause-answer_value c).After-read_lines in
    ap told c.out_of_form-in-Ok.ensures
    ∙ lines_extra c.args.s.now c.args.n c.args.l _ (rest_bad c.args.s.now c.args.n c.args.l _ c.requires.1 _ e (sym c.in-Ok.ensures.0)) (omega (arith, e))
    (rw (← e) (omega (arith, c.in-Ok.ensures.1)))

pub returns-in-Ok-2-clause-answer_value : goal.returns-in-Ok-2-clause-answer_value
returns-in-Ok-2-clause-answer_value c =
    let e = lines (goal.at.returns-in-Ok-2-clause-answer_value c).After-read_lines in
    lines_right c.args.s.now c.args.n c.args.l _ (rest_bad c.args.s.now c.args.n c.args.l _ c.requires.1 _ e (sym c.in-Ok.ensures.0)) (omega (arith, e))
    (rw (← e) (omega (arith, c.in-Ok.ensures.1)))

pub returns-in-Ok-2-clause-tabled : goal.returns-in-Ok-2-clause-tabled
returns-in-Ok-2-clause-tabled c =
    record {
      blinded_is = blinded_at c.args.s.now c.args.n c.args.l _ _ c.requires.0.starts refl;
      held = rw (← lines (goal.at.returns-in-Ok-2-clause-tabled c).After-read_lines) c.in-Ok.ensures.3;
    }
