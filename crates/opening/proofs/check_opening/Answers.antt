-- `opening::check_opening` meets its contract: where no reason applies, the buffers are lent rightly, and the work is done. Assumes nothing.
use mathlib.Core.Bool.{true}
use Rattle.field.specs.ReasonLaws.{ok_number}
use Rattle.opening.specs.RightlyLent.{opening_known}
use Rattle.opening.proofs.check_opening.Goals as goal

pub judge-requires : goal.judge-requires
judge-requires c =
    let a = c.args in
    let L = opening_known a.p a.n a.prepared.now a.transcript.now a.list.now a.evaluations.now a.opening.now a.challenges.now a.scratch.now true (ok_number c.in_ok-decide_check.was c.decide_check.ensures) in
    record { checked = L.0.checked; scratch_len = L.0.scratch_length_lem }
