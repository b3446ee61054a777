-- Past the reasons of the lengths and of the list, the buffers are short enough to be counted.
use Rattle.std.proofs.Common.{refl}
use Rattle.field.specs.ReasonLaws.{ok_number}
use Rattle.opening.proofs.Deciding.{few}
use Rattle.opening.proofs.decide.decide_check.Goals as goal

pub decide_elements-requires : goal.decide_elements-requires
decide_elements-requires c =
    few c.args.p c.args.n c.args.prepared.now c.args.transcript.now c.args.list.now c.args.evaluations.now c.args.opening.now c.args.challenges.now c.args.scratch.now c.decide_lent.ensures (ok_number c.in_ok-decide_lent.was refl)
