-- Where no reason of the buffers applies, they are checked.
use Rattle.field.specs.ReasonLaws.{ok_number}
use Rattle.witnesses.proofs.Decided.{checked}
use Rattle.witnesses.proofs.decide.Goals as goal

pub of_witness-requires : goal.of_witness-requires
of_witness-requires c =
    let a = c.args in
    checked a.e a.p a.n a.l a.selectors.now a.labels.now a.witness.now a.publics.now a.transcript.now a.challenges.now a.blinders.now a.scratch.now
    (ok_number c.in_ok-of_buffers.was c.of_buffers.ensures)
