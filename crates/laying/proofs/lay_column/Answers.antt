-- The wire values of the column are elements, and are interpolated in place.
use Rattle.std.proofs.Common.{List, ℕ, get_or, ap, ◌∙◌}
use Rattle.algebra.specs.Tables.{get_or-tab}
use Rattle.field.specs.Primes.{rows-power}
use Rattle.transform.specs.Interpolation.{interpolation_ext}
use Rattle.circuit.specs.Circuit.{position, lent_witness}
use Rattle.laying.proofs.WireLaws.{column_elements}
use Rattle.laying.proofs.lay_column.Goals as goal

pub column_values-requires : goal.column_values-requires
column_values-requires c = ((rows-power _ _ c.args.domain.now.admissible.rows).small, c.requires.points.1, c.requires.points.0.long, c.requires.out_len.0)

pub interpolate_in_place-requires : goal.interpolate_in_place-requires
interpolate_in_place-requires c =
    record {
      elements = column_elements c.args.domain.now.n c.args.column c.args.witness.now _ c.requires.points.1 c.requires.points.0 c.column_values.ensures;
      spare = c.requires.out_len.1;
    }

pub returns : goal.returns
returns c =
    let a = c.args in
    let d = a.domain.now in
    c.interpolate_in_place.ensures
    ∙ interpolation_ext d.p d.n _ _ (λ i h.
    ap (λ (l : List ℕ). get_or l i 0) c.column_values.ensures ∙ get_or-tab (λ r. lent_witness d.n a.witness.now (position d.n a.column r)) d.n i h)
