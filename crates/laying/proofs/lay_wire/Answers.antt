-- The polynomial of the column is elements, and stands in front.
use Rattle.std.proofs.Common.{ℕ, ◌+◌, ◌*◌, ◌∙◌, ap, length-take-le, ◌≤◌, ◌<◌, length, sym, subst, arith}
use Rattle.algebra.specs.Ends.{front_array}
use Rattle.algebra.specs.Lists.{All}
use Rattle.field.proofs.Domain.{domain}
use Rattle.transform.specs.Interpolation.{interpolation_elements}
use Rattle.laying.proofs.lay_wire.Goals as goal

pub blind-requires : goal.blind-requires
blind-requires c =
    let D = domain _ _ c.args.domain.now.admissible in
    let fits : c.args.domain.now.n ≤ length c.args.out.now = omega (arith, c.requires.out_len.0) in
    let words : 2 * c.args.e ≤ length c.wire_blinder-r.result = omega (arith, c.wire_blinder-r.ensures.0, c.requires.points.2.small) in
    let front = front_array c.args.domain.now.n c.args.out.now c.lay_column.new.out fits c.lay_column.auto.out _ _ (sym c.requires.out_len.0) c.lay_column.ensures in (
      omega (arith, D.prime.two),
      sym front.0 ∙ ap (λ (k : ℕ). c.args.domain.now.n + k) (sym (length-take-le _ _ words)),
      subst (All (λ (x : ℕ). x < c.args.domain.now.p)) (sym front.1) (interpolation_elements D _).below,
    )
