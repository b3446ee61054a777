-- `opening::open` meets its contract: where no reason applies, the buffers are lent rightly, and the work is done. Assumes nothing.
use mathlib.Core.Bool.{false}
use Rattle.field.specs.ReasonLaws.{ok_number}
use Rattle.opening.specs.RightlyLent.{opening_known}
use Rattle.opening.proofs.open.Goals as goal

pub work-requires : goal.work-requires
work-requires c =
    let a = c.args in
    let L = opening_known a.p a.n a.prepared.now a.transcript.now a.list.now a.evaluations.now a.opening.now a.challenges.now a.scratch.now false (ok_number c.in_ok-decide_open.was c.decide_open.ensures) in
    record { checked = L.0.checked; scratch_len = L.0.scratch_length_lem }
