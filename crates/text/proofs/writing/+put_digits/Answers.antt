-- By `most`, the digits before the last one, and then that one.
use Rattle.std.proofs.Common.{arith, ◌-◌, ◌/◌}
use Rattle.text.specs.Decimal.{decimal_few}
use Rattle.text.specs.Puts.{puts_none, puts_both, digits_none, digits_last, digits_more}
use Rattle.text.proofs.writing.+put_digits.Goals as goal

pub returns-then-most-eq0 : goal.returns-then-most-eq0
returns-then-most-eq0 t c = rw (digits_none c.args.most c.args.v c.if-most-eq0.true) (puts_none _ _)

pub returns-then-v-lt10 : goal.returns-then-v-lt10
returns-then-v-lt10 t c = rw (digits_last c.args.most c.args.v c.if-most-eq0.false c.if-v-lt10.true) c.put_byte.ensures

pub put_byte-requires-2 : goal.put_byte-requires-2
put_byte-requires-2 t c =
    omega (arith, c.requires, c.put_digits-next.ensures.place, decimal_few (c.args.most - 1) (c.args.v / 10), c.put_digits-next.auto)

pub returns : goal.returns
returns t c =
    rw (digits_more c.args.most c.args.v c.if-most-eq0.false c.if-v-lt10.false)
    (puts_both c.put_digits-next.ensures c.put_byte-2.ensures)
