-- a, b, c and z, and t behind them, are the transcript.
use Rattle.field.proofs.Domain.{domain}
use Rattle.prover.proofs.Fits.{transcript_of_lem}
use Rattle.prover.proofs.work.Goals as goal

pub returns-clause-blinders_value : goal.returns-clause-blinders_value
returns-clause-blinders_value c =
    let a = c.args in
    rw (← c.new-domain.ensures.0, ← c.new-domain.ensures.1)
    (transcript_of_lem (domain _ _ c.new-domain.result.admissible) a.e a.selectors.now a.labels.now a.witness.now a.publics.now a.challenges.now a.blinders.now
    c.lay_front.new.transcript _ c.lay_t.new.transcript
    (c.lay_front.ensures a.selectors.now)
    c.lay_t.ensures)
