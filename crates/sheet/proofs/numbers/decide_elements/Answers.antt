-- There are as many elements as the blocks have numbers.
use Rattle.std.proofs.Common.{ap₂, ◌∙◌, [], ◌∷◌, ℕ, arith}
use Rattle.field.specs.Reasons.{answer_of, reason_at}
use Rattle.sheet.specs.TableLaws.{elements_long}
use Rattle.sheet.proofs.numbers.decide_elements.Goals as goal

pub returns : goal.returns
returns c =
    let a = c.args in
    c.decide_at.ensures
    ∙ ap₂ (λ (at count : ℕ). answer_of (reason_at 7 at count ∷ [])) c.elements-at.ensures
    (omega (arith, c.selectors_length.ensures, c.witness_length.ensures, elements_long a.e a.n a.l a.table.now))
