-- Where no reason applies, the numbers are checked, and the work is done.
use Rattle.field.specs.ReasonLaws.{ok_number}
use Rattle.preparing.proofs.Deciding.{checked}
use Rattle.preparing.proofs.prepare.Goals as goal

pub new-requires : goal.new-requires
new-requires c =
    let a = c.args in
    (checked a.p a.n a.l a.selectors.now a.labels.now a.written.now a.scratch.now (ok_number c.in_ok-decide.was c.decide.ensures)).admissible

pub work-requires : goal.work-requires
work-requires c = rw (c.new.ensures.0, c.new.ensures.1) (checked _ _ _ _ _ _ _ (ok_number c.in_ok-decide.was c.decide.ensures))
