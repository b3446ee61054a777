-- `prover::run` meets its contract: where no reason applies, the numbers are checked, and the work is done. Assumes nothing.
use Rattle.field.specs.ReasonLaws.{ok_number}
use Rattle.witnesses.specs.Accepted.{accepted_of}
use Rattle.prover.specs.Buffers.{checked_of}
use Rattle.prover.proofs.run.Goals as goal

pub work-requires : goal.work-requires
work-requires c =
    let a = c.args in
    checked_of c.requires.0
    (accepted_of a.e a.p a.n a.l a.selectors.now a.labels.now a.witness.now a.publics.now a.transcript.now a.challenges.now a.blinders.now a.scratch.now
    c.requires.0
    c.requires.1
    (ok_number c.in_ok-decide.was c.decide.ensures))
