-- The block of the labels has as many numbers as there are labels.
use Rattle.std.proofs.Common.{sym, ap, ap₂, ◌∙◌, [], ◌∷◌, ℕ, ◌*◌}
use Rattle.algebra.specs.Lists.{tab}
use Rattle.algebra.specs.Tables.{length-tab}
use Rattle.field.specs.Reasons.{answer_of, reason_at, first_above}
use Rattle.circuit.specs.Buffers.{labels_length}
use Rattle.sheet.specs.declared.blocks.Block.{Block}
use Rattle.sheet.specs.Table.{in_table, labels_in}
use Rattle.sheet.proofs.numbers.decide_labels.Goals as goal

pub returns : goal.returns
returns c =
    let n = c.args.n in
    let t = c.args.table.now in
    c.decide_at.ensures
    ∙ ap₂ (λ (at count : ℕ). answer_of (reason_at 8 at count ∷ []))
    (c.above-place.ensures ∙ ap (λ (B : Block). first_above (3 * n) (tab (in_table t B) B.count)) c.labels.ensures)
    (c.labels_length.ensures ∙ sym (length-tab (labels_in t n) (labels_length n)))
