-- Where the prime may be proved with, the reasons are those of reading.
use borrow.Author.Rules.{rules}
use Rattle.std.proofs.Common.{◌≡◌, sym, ap, ◌∙◌, [], ◌∷◌}
use Rattle.field.specs.Reasons.{Answer, told, bad_lengths}
use Rattle.sheet.specs.Deciding.{new_current, new_same}
use Rattle.joining.proofs.reasons.decide_new.Goals as goal

pub returns : goal.returns
returns c =
    let s = c.args.s.now in
    let d = c.decide.ensures in
    let none : told c.decide_prime.result ≡ record { number = 0; detail = 0 } = search rules in
    record {
      answer = d.answer ∙ sym (new_same s (bad_lengths c.args.long.now c.args.due.now ∷ []) (new_current s _ c.decide_prime.ensures (ap (λ (a : Answer). a.number) none)));
      value = d.value;
      held = d.held;
    }
