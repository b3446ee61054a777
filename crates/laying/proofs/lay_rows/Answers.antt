-- The wires in front, z behind them.
use Rattle.std.proofs.Common.{List, ℕ, ◌≤◌, length, refl, sym, ap, ◌∙◌, arith}
use Rattle.std.proofs.Math.Option.{Option, some}
use Rattle.algebra.specs.Ends.{both_parts}
use Rattle.circuit.specs.Circuit.{lent_constraints, lent_witness}
use Rattle.laying.proofs.ZLaws.{wires_laid}
use Rattle.laying.proofs.lay_rows.Goals as goal

pub returns : goal.returns
returns c selectors =
    let a = c.args in
    let d = a.domain.now in
    let fits : c.z_start-k.result ≤ length a.out.now = omega (arith, c.z_start-k.ensures, c.requires.out_len.0) in
    wires_laid a.e d.p d.n (lent_witness d.n a.witness.now) (lent_constraints d.n selectors a.labels.now) a.blinders.now a.beta a.gamma _ (c.lay_z.ensures selectors)
    ∙ ap {B = Option (List ℕ)} some
    (sym (both_parts c.z_start-k.result a.out.now c.lay_wires.new.out fits c.lay_wires.auto.out c.lay_z.new.out _ _ c.lay_wires.ensures refl))
