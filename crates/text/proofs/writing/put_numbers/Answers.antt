-- The first number, the fields of the others, and byte 10.
use Rattle.std.proofs.Common.{◌≡◌, ◌-◌, arith, length, get_or, take, drop, ap, ◌∙◌, sym, length-take, length-drop}
use Rattle.std.proofs.Math.Seq.{take-length}
use Rattle.text.specs.Decimal.{decimal_few}
use Rattle.text.specs.Puts.{puts_both, length_fields, numbers_parts}
use Rattle.text.proofs.writing.put_numbers.Goals as goal

pub put_fields-third-requires : goal.put_fields-third-requires
put_fields-third-requires c =
    simp (length-take, length-drop) (omega (arith, c.put_digits-second.ensures.place, decimal_few 10 (get_or c.args.vs.now 0 0)))

pub put_byte-requires : goal.put_byte-requires
put_byte-requires c =
    let few = simp (length-take, length-drop) at (length_fields (take (length c.args.vs.now - 1) (drop 1 c.args.vs.now))) in
    omega (arith, c.put_digits-second.ensures.place, c.put_fields-third.ensures.place, decimal_few 10 (get_or c.args.vs.now 0 0))

pub returns : goal.returns
returns c =
    let others : take (length c.args.vs.now - 1) (drop 1 c.args.vs.now) ≡ drop 1 c.args.vs.now =
    ap (λ n. take n (drop 1 c.args.vs.now)) (sym (length-drop 1 c.args.vs.now)) ∙ take-length (drop 1 c.args.vs.now)
    in
    rw (numbers_parts c.args.vs.now (omega arith), ← others) (puts_both c.put_digits-second.ensures (puts_both c.put_fields-third.ensures c.put_byte.ensures))
