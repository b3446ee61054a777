-- The word of a row is its point.
use Rattle.std.proofs.Common.{◌∙◌, ap, List, ℕ, sym, arith, get_or}
use lib.Seq.{get_or-take}
use Rattle.algebra.specs.Tables.{get_or-tab}
use Rattle.field.specs.Fields.{point}
use Rattle.field.proofs.rows.Fits.{fits}
use Rattle.field.proofs.rows.Domain.point.Goals as goal

pub bounds-self-row : goal.bounds-self-row
bounds-self-row c = omega (arith, fits c.args.self.now.admissible)

pub returns : goal.returns
returns c =
    let d = c.args.self.now in
    sym (get_or-take d.n d.table c.args.row 0 c.requires)
    ∙ ap (λ (l : List ℕ). get_or l c.args.row 0) d.laid
    ∙ get_or-tab (point d.p d.n) d.n c.args.row c.requires
