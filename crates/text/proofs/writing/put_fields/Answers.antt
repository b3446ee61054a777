-- Field after field, each of which has at most 11 bytes.
use Rattle.std.proofs.Common.{arith, take, length-take}
use Rattle.text.specs.Puts.{fields_none, fields_turn, length_fields}
use Rattle.text.proofs.writing.put_fields.Goals as goal

pub loop-v-init : goal.loop-v-init
loop-v-init c = fields_none _ _

pub put_field-next-requires : goal.put_field-next-requires
put_field-next-requires c =
    omega (arith, c.loop-v.invariant.place, length_fields (take c.loop-v.v-index c.args.vs.now), length-take c.loop-v.v-index c.args.vs.now)

pub loop-v-preserved : goal.loop-v-preserved
loop-v-preserved c = fields_turn c.args.vs.now _ (omega arith) c.loop-v.invariant c.put_field-next.ensures
