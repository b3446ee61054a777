-- `archive::lines::put_transcript` meets its contract: the lines of the wires, then those of z and t. Assumes nothing.
use mathlib.Core.Path.{subst, ap}
use mathlib.Core.List.{List}
use Prim.Native.Nat.{ℕ}
use native.Mathlib.Omega.{arith}
use lib.ListN.{length, length-drop}
use Rattle.circuit.specs.Buffers.{t_start}
use Rattle.text.specs.Puts.{Puts, puts_both}
use Rattle.archive.specs.Lines.{length_wires}
use Rattle.archive.proofs.lines.put_transcript.Goals as goal

pub put_rest-requires : goal.put_rest-requires
put_rest-requires c =
    omega (
      arith,
      c.put_wires-next.ensures.place,
      c.put_wires-next.auto,
      length_wires c.wire_part.result.now c.wire_part-2.result.now c.wire_part-3.result.now,
      c.wire_part.ensures.result_len,
      c.wire_part-2.ensures.result_len,
      c.wire_part-3.ensures.result_len,
      c.z_part.ensures.result_len,
      ap length c.t_part.ensures.result_value,
      length-drop (t_start c.args.e c.args.m) c.args.transcript.now,
      c.requires.blinded,
      c.requires.few,
      c.requires.long,
      c.requires.room,
    )

pub returns : goal.returns
returns c =
    let a = c.args in
    subst (λ (b : List ℕ). Puts 0 b a.out.now c.put_rest.result c.put_rest.new.out)
    (cc (c.wire_part.ensures.hands.numbers, c.wire_part-2.ensures.hands.numbers, c.wire_part-3.ensures.hands.numbers, c.z_part.ensures.hands.numbers, c.t_part.ensures.result_value))
    (puts_both c.put_wires-next.ensures c.put_rest.ensures)
