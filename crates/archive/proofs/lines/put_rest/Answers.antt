-- `archive::lines::put_rest` meets its contract: one line and then the other. Assumes nothing.
use mathlib.Core.List.{[], ◌∷◌}
use native.Mathlib.Omega.{arith}
use Rattle.text.specs.Puts.{puts_both, length_line}
use Rattle.archive.proofs.lines.put_rest.Goals as goal

pub put_line-requires : goal.put_line-requires
put_line-requires c =
    omega (arith, c.requires, c.put_line-next.ensures.place, c.put_line-next.auto, length_line (122 ∷ []) c.args.z.now)

pub returns : goal.returns
returns c = puts_both c.put_line-next.ensures c.put_line.ensures
