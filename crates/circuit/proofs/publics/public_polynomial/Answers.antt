-- The row values are interpolated in place.
use Rattle.std.proofs.Common.{arith, ◌∙◌, ◌<◌}
use Rattle.field.specs.Primes.{field_prime}
use Rattle.circuit.proofs.PublicLaws.{row_elements, rows-interpolation}
use Rattle.circuit.proofs.publics.public_polynomial.Goals as goal

pub interpolate_in_place-requires : goal.interpolate_in_place-requires
interpolate_in_place-requires c =
    let positive : 0 < c.args.domain.now.p = omega (arith, (field_prime _ c.args.domain.now.admissible.one_of_three).two) in
    record {
      elements = row_elements _ _ c.args.publics.now _ _ c.fill_publics.ensures c.requires.xs_len.0 positive c.requires.elements;
      spare = c.requires.xs_len.1;
    }

pub returns : goal.returns
returns c = c.interpolate_in_place.ensures ∙ rows-interpolation _ _ c.args.publics.now _ _ c.fill_publics.ensures c.requires.xs_len.0
