-- The first line is looked at as far as its prime, then the sheet is printed.
use Rattle.std.proofs.Common.{sym, ap, subst, ◌∙◌, List, ℕ}
use Rattle.field.specs.Reasons.{told}
use Rattle.field.specs.ReasonLaws.{told_refused}
use Rattle.text.specs.Puts.{Puts}
use Rattle.sheet.specs.Deciding.{new_current}
use Rattle.archive.specs.Sheets.{prime_text}
use Rattle.archive.proofs.print_sheet.Goals as goal

pub print_current-requires : goal.print_current-requires
print_current-requires c =
    (c.requires, new_current c.args.sheet.now _ c.decide_prime.ensures (ap (λ r. (told r).number) c.in-Ok.is))

pub returns-in-Err : goal.returns-in-Err
returns-in-Err c =
    let a = c.args in
    subst (λ (b : List ℕ). Puts 0 b a.text.now c.put_refusal.result c.put_refusal.new.out)
    (prime_text a.sheet.now _ (sym (ap told c.in-Err.is) ∙ c.decide_prime.ensures) (told_refused c.in-Err.refusal))
    c.put_refusal.ensures
