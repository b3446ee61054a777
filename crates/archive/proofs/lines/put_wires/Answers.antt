-- `archive::lines::put_wires` meets its contract: line after line. Assumes nothing.
use mathlib.Core.List.{[], ◌∷◌}
use native.Mathlib.Omega.{arith}
use Rattle.text.specs.Puts.{puts_both, length_line}
use Rattle.archive.proofs.lines.put_wires.Goals as goal

pub put_line-third-requires : goal.put_line-third-requires
put_line-third-requires c =
    omega (arith, c.requires, c.put_line-second.ensures.place, c.put_line-second.auto, length_line (97 ∷ []) c.args.a.now)

pub put_line-requires : goal.put_line-requires
put_line-requires c =
    omega (
      arith,
      c.requires,
      c.put_line-second.ensures.place,
      c.put_line-second.auto,
      length_line (97 ∷ []) c.args.a.now,
      c.put_line-third.ensures.place,
      c.put_line-third.auto,
      length_line (98 ∷ []) c.args.b.now,
    )

pub returns : goal.returns
returns c =
    puts_both c.put_line-second.ensures (puts_both c.put_line-third.ensures c.put_line.ensures)
