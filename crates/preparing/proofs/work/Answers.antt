-- The runs of row values become the polynomials.
use Rattle.std.proofs.Common.{◌∙◌, length-take-le, arith}
use Rattle.preparing.proofs.RowLaws.{rows_elements, rows-prepared}
use Rattle.preparing.proofs.work.Goals as goal

pub interpolate_parts-requires : goal.interpolate_parts-requires
interpolate_parts-requires c =
    rw c.fill_rows.ensures
    (record {
      elements = rows_elements _ _ c.args.selectors.now c.args.labels.now c.args.domain.now.admissible c.requires.elements;
      spare = length-take-le _ _ (omega (arith, c.requires.scratch_length_lem));
    })

pub returns-clause-out_after : goal.returns-clause-out_after
returns-clause-out_after c =
    c.interpolate_parts.ensures ∙ rw c.fill_rows.ensures (rows-prepared _ _ c.args.selectors.now c.args.labels.now c.requires.elements.long)
