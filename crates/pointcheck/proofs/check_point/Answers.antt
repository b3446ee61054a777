-- Where no reason applies, the numbers are checked, and the work is done.
use Rattle.field.specs.ReasonLaws.{ok_number}
use Rattle.pointcheck.proofs.Deciding.{checked}
use Rattle.pointcheck.proofs.check_point.Goals as goal

pub work-requires : goal.work-requires
work-requires c =
    let a = c.args in
    checked a.p a.n a.l a.publics.now a.prepared.now a.transcript.now a.challenges.now a.scratch.now (ok_number c.in_ok-decide.was c.decide.ensures)
