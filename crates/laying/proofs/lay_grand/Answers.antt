-- z on the rows is elements, and is interpolated in place.
use Rattle.std.proofs.Common.{[], sym, subst}
use Rattle.algebra.specs.Polynomial.{Elements}
use Rattle.field.proofs.Domain.{domain}
use Rattle.transform.specs.Interpolation.{interpolation_elements}
use Rattle.circuit.specs.Circuit.{lent_constraints, lent_witness}
use Rattle.laying.proofs.ZLaws.{z_elements}
use Rattle.laying.proofs.lay_grand.Goals as goal

pub interpolate_in_place-requires : goal.interpolate_in_place-requires
interpolate_in_place-requires c =
    let a = c.args in
    let d = a.domain.now in
    let ready = c.requires.ready in
    let C = lent_constraints d.n [] a.labels.now in
    let v = lent_witness d.n a.witness.now in
    record {
      elements = z_elements (domain _ _ d.admissible) C v a.beta a.gamma (ready.1 []) _ (c.z_rows.ensures []);
      spare = c.requires.out_len.1;
    }

pub returns-clause-elements : goal.returns-clause-elements
returns-clause-elements c =
    subst (Elements c.args.domain.now.p c.args.domain.now.n) (sym c.interpolate_in_place.ensures) (interpolation_elements (domain _ _ c.args.domain.now.admissible) _)
