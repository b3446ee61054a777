-- The comparison gives the verdict.
use Rattle.std.proofs.Common.{◌∙◌, sym}
use Rattle.pointcheck.proofs.Judging.{accepts, rejects}
use Rattle.pointcheck.proofs.work.Goals as goal

pub equal_at-requires : goal.equal_at-requires
equal_at-requires c =
    record { readable = rw c.blinded_by-e.ensures.0 c.requires.readable; challenges_len = (c.requires.challenges_length, c.requires.point_element) }

pub returns-then-equal_at-clause-value : goal.returns-then-equal_at-clause-value
returns-then-equal_at-clause-value c =
    accepts c.blinded_by-e.result c.args.p c.args.n c.args.publics.now c.args.prepared.now c.args.transcript.now c.args.challenges.now
    c.blinded_by-e.ensures.0 (sym (c.equal_at.ensures _ c.public_at-x.ensures) ∙ c.if-equal_at.true)

pub returns-clause-value : goal.returns-clause-value
returns-clause-value c =
    rejects c.blinded_by-e.result c.args.p c.args.n c.args.publics.now c.args.prepared.now c.args.transcript.now c.args.challenges.now
    c.blinded_by-e.ensures.0 (sym (c.equal_at.ensures _ c.public_at-x.ensures) ∙ c.if-equal_at.false)
