-- The comparison gives the verdict.
use Rattle.std.proofs.Common.{◌∙◌, sym, true, false}
use Rattle.opening.proofs.Judging.{judged}
use Rattle.opening.proofs.judge.Goals as goal

pub returns-then-same-clause-value : goal.returns-then-same-clause-value
returns-then-same-clause-value c =
    let a = c.args in
    judged a.p a.n a.prepared.now a.transcript.now a.list.now a.evaluations.now a.opening.now a.challenges.now true (sym c.if-same.true ∙ c.agrees-same.ensures)

pub returns-clause-value : goal.returns-clause-value
returns-clause-value c =
    let a = c.args in
    judged a.p a.n a.prepared.now a.transcript.now a.list.now a.evaluations.now a.opening.now a.challenges.now false (sym c.if-same.false ∙ c.agrees-same.ensures)
