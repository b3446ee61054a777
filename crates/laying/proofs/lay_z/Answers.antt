-- The polynomial through z on the rows is elements, and stands in front.
use Rattle.std.proofs.Common.{ℕ, ◌+◌, ◌*◌, ◌∙◌, ap, length-take-le, ◌≤◌, ◌<◌, length, refl, sym, subst, arith}
use Rattle.algebra.specs.Ends.{front_array}
use Rattle.algebra.specs.Lists.{All}
use Rattle.field.proofs.Domain.{domain}
use Rattle.laying.proofs.lay_z.Goals as goal

pub blind-requires : goal.blind-requires
blind-requires c =
    let fits : c.args.domain.now.n ≤ length c.args.out.now = omega (arith, c.requires.out_len.0) in
    let words : 3 * c.args.e ≤ length c.z_blinder-r.result = omega (arith, c.z_blinder-r.ensures.0, c.requires.ready.2.small) in
    let front =
    front_array c.args.domain.now.n c.args.out.now c.lay_grand.new.out fits c.lay_grand.auto.out _ _ (sym c.requires.out_len.0) (refl {a = c.lay_grand.new.out})
    in (
      omega (arith, (domain _ _ c.args.domain.now.admissible).prime.two),
      sym front.0 ∙ ap (λ (k : ℕ). c.args.domain.now.n + k) (sym (length-take-le _ _ words)),
      subst (All (λ (x : ℕ). x < c.args.domain.now.p)) (sym front.1) c.lay_grand.ensures.elements.below,
    )
