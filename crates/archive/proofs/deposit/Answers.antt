-- The text, and zeros behind it.
use Rattle.std.proofs.Common.{sym, ap, ◌∙◌, refl, arith}
use Rattle.field.specs.Reasons.{told}
use Rattle.field.specs.ReasonLaws.{ok_number}
use Rattle.text.specs.Puts.{puts_cleared}
use Rattle.archive.specs.Sheets.{text_long, made_deposit}
use Rattle.archive.proofs.deposit.Goals as goal

pub print_sheet-end-requires : goal.print_sheet-end-requires
print_sheet-end-requires c = text_long c.args.sheet.now c.args.text.now _ c.decide_lengths.ensures (ok_number c.in_ok-decide_lengths.was refl)

pub returns : goal.returns
returns c =
    made_deposit c.args.sheet.now c.args.text.now _ c.print_sheet-end.result c.print_sheet-end.new.text _ (sym (ap told c.in_ok-decide_lengths.was) ∙ c.decide_lengths.ensures) refl c.print_sheet-end.auto.text (omega (arith, c.print_sheet-end.ensures.place))
    (puts_cleared _ _ c.print_sheet-end.result c.print_sheet-end.new.text c.fill.new.self c.print_sheet-end.ensures (c.fill.ensures.after (λ y e. e)))
