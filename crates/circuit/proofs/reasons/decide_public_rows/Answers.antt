-- The row that was found tells.
use Rattle.std.proofs.Common.{ap, ◌∙◌, [], ◌∷◌, ℕ}
use Rattle.field.specs.Reasons.{answer_of, reason_at}
use Rattle.circuit.specs.Selectors.{unbound_lent}
use Rattle.circuit.proofs.reasons.decide_public_rows.Goals as goal

pub returns : goal.returns
returns c = λ labels.
    c.decide_at.ensures ∙ ap (λ (at : ℕ). answer_of (reason_at 14 at c.args.l ∷ [])) (c.unbound_row-row.ensures ∙ unbound_lent _ _ _ labels)
