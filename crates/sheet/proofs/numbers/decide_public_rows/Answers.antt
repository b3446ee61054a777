-- The row that was found tells.
use Rattle.std.proofs.Common.{ap, ◌∙◌, [], ◌∷◌, ℕ}
use Rattle.field.specs.Reasons.{answer_of, reason_at}
use Rattle.circuit.specs.Selectors.{unbound_in}
use Rattle.sheet.specs.Table.{line_words}
use Rattle.sheet.specs.TableLaws.{unbound-table}
use Rattle.sheet.proofs.numbers.decide_public_rows.Goals as goal

pub returns : goal.returns
returns c = λ labels.
    let t = c.args.table.now in
    let l = c.args.l in
    c.decide_at.ensures
    ∙ ap (λ (at : ℕ). answer_of (reason_at 14 at l ∷ []))
    (c.unbound_row-row.ensures ∙ ap (λ (start : ℕ). unbound_in t start line_words 1 l) c.table_place-start.ensures ∙ unbound-table c.args.n t l labels c.requires.publics)
