-- The reasons of the first sheet, of the second, of the pair.
use Rattle.std.proofs.Common.{◌≡◌, refl, sym, ap, ap₂, ◌∙◌, arith}
use Rattle.std.proofs.lemmas.Result.{err_from_is_err_and}
use Rattle.field.specs.Reasons.{told, answer_of}
use Rattle.field.specs.ReasonLaws.{told_refused}
use Rattle.sheet.specs.declared.Sheet.{Sheet}
use Rattle.sheet.specs.Sheet.{sheet_of}
use Rattle.joining.specs.Joining.{pair_reasons, join_reasons}
use Rattle.joining.specs.Deciding.{first_refused, rows_few, second_refused, pair_decided}
use Rattle.joining.proofs.reasons.decide.Goals as goal
use Rattle.joining.proofs.reasons.decide.Goals.{In_ok-a, After-decide_pair}

-- the two sheets that were found
one : (c : In_ok-a) → c.in_ok-a.a ≡ sheet_of c.args.one.now
one c = cc c.in_ok-a.ensures.value

two : (c : After-decide_pair) → c.in_ok-b.b ≡ sheet_of c.args.two.now
two c = cc c.in_ok-b.ensures.value

-- the reasons of the pair are the last
all : (c : After-decide_pair) → told c.decide_pair.result ≡ answer_of (join_reasons c.args.one.now c.args.two.now c.args.room)
all c =
    let e : c.in_ok-a.a ≡ sheet_of c.args.one.now = cc c.in_ok-a.ensures.value in
    pair_decided c.args.one.now c.args.two.now c.args.room _ c.in_ok-a.ensures.answer refl _ _ c.in_ok-b.ensures.answer refl
    (c.decide_pair.ensures ∙ ap₂ (λ (f g : Sheet). answer_of (pair_reasons f.p f.n g.p g.n)) e (two c))

pub returns-in_err-a : goal.returns-in_err-a
returns-in_err-a c =
    let p = err_from_is_err_and c.from_residual.result c.from_residual.ensures.1 in
    let e = told_refused c.in_err-a.field-0.0 in
    rw (p.1, p.2) (record { answer = first_refused c.args.one.now c.args.two.now c.args.room _ c.in_err-a.ensures.answer e; known = e })

pub returns-in_err-b : goal.returns-in_err-b
returns-in_err-b c =
    let p = err_from_is_err_and c.from_residual-in_err-b.result c.from_residual-in_err-b.ensures.1 in
    let e = told_refused c.in_err-b.field-0.0 in
    rw (p.1, p.2) (record { answer = second_refused c.args.one.now c.args.two.now c.args.room _ c.in_ok-a.ensures.answer refl _ c.in_err-b.ensures.answer e; known = e })

pub decide_pair-requires : goal.decide_pair-requires
decide_pair-requires c =
    omega (arith, ap (λ (f : Sheet). f.n) (one (goal.at.decide_pair-requires c).In_ok-a), rows_few c.args.one.now c.args.two.now c.args.room _ c.in_ok-a.ensures.answer refl)

pub returns-in_err-decide_pair : goal.returns-in_err-decide_pair
returns-in_err-decide_pair c =
    let p = err_from_is_err_and c.from_residual-in_err-decide_pair.result c.from_residual-in_err-decide_pair.ensures.1 in
    let is = sym (ap told c.in_err-decide_pair.was) ∙ all (goal.at.returns-in_err-decide_pair c).After-decide_pair in
    rw (p.1, p.2) (record { answer = is; known = told_refused c.in_err-decide_pair.field-0.0 })

pub returns : goal.returns
returns c =
    let e = one (goal.at.returns c).In_ok-a in
    record {
      answer = sym (ap told c.in_ok-decide_pair.was) ∙ all (goal.at.returns c).After-decide_pair;
      known = record {
        p_is = ap (λ (f : Sheet). f.p) e;
        n_is = ap (λ (f : Sheet). f.n) e;
        l_is = ap (λ (f : Sheet). f.l) e;
        m_is = ap (λ (f : Sheet). f.l) (two (goal.at.returns c).After-decide_pair);
        one_held = c.in_ok-a.ensures.held refl;
        two_held = c.in_ok-b.ensures.held refl;
      };
    }
