-- Field after field.
use Rattle.std.proofs.Common.{◌≡◌, true, suc, length, refl, sym, ap, ◌∙◌, arith, add-one}
use Rattle.std.proofs.lemmas.Grind.{common_steps}
use borrow.Author.Count.{below_more}
use Rattle.algebra.specs.Tables.{filled}
use Rattle.text.specs.Text.{digits_end, field_at, closing, is_field_at}
use Rattle.text.proofs.Lines.{field_is, line_not, line_is}
use Rattle.text.proofs.line.Goals as goal

pub loop-j-init : goal.loop-j-init
unfolding field_at
loop-j-init c = record { place = refl; within = omega arith; fields = λ k h. absurd (omega arith); words = λ k h. absurd (omega arith) }

pub returns-in_err-value : goal.returns-in_err-value
returns-in_err-value c =
    let e = field_is c.args.s.now c.args.at _ c.loop-j.j c.loop-j.invariant.place (c.close_of.ensures.0 ∙ ap (λ n. closing n c.loop-j.j) c.loop-j.auto.out) in
    rw c.from_residual.ensures (line_not _ _ _ c.loop-j.j (omega arith) (sym e ∙ c.in_err-value.ensures))

pub loop-j-preserved : goal.loop-j-preserved
unfolding field_at
loop-j-preserved c =
    let e = field_is c.args.s.now c.args.at _ c.loop-j.j c.loop-j.invariant.place (c.close_of.ensures.0 ∙ ap (λ n. closing n c.loop-j.j) c.loop-j.auto.out) in
    record {
      place = rw (add-one c.in_ok-value.end, add-one c.loop-j.j) (ap suc (c.in_ok-value.ensures.2 ∙ ap (digits_end c.args.s.now) c.loop-j.invariant.place));
      within = omega (arith, c.in_ok-value.ensures);
      fields = below_more (λ k. is_field_at c.args.s.now c.args.at (length c.args.out.now) k ≡ true) c.loop-j.j c.loop-j.invariant.fields (sym e ∙ c.in_ok-value.ensures.0);
      words = grind (arith, common_steps);
    }

pub returns : goal.returns
returns c =
    let all : c.loop-j.j ≡ length c.args.out.now = omega arith in (
      line_is _ _ _ (λ k h. c.loop-j.invariant.fields k (omega arith)),
      c.loop-j.invariant.place ∙ ap (field_at c.args.s.now c.args.at) all,
      c.loop-j.invariant.within,
      filled _ (omega arith) (omega arith) c.loop-j.invariant.words,
    )
