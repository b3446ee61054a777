-- `archive::work::check` meets its contract: the scratch has the length that is due. Assumes nothing.
use mathlib.Core.Path.{sym, ◌∙◌}
use Prim.Native.Nat.{◌≤◌}
use native.Mathlib.Omega.{arith}
use lib.ListN.{length}
use lib.Seq.{length-take-le}
use Rattle.std.specs.Prelude.{◌≡◌, refl, Some}
use Rattle.field.specs.Reasons.{outcome}
use Rattle.field.specs.ReasonLaws.{ok_value}
use Rattle.pointcheck.specs.Promises.{judged_at}
use Rattle.archive.specs.Work.{judged_of}
use Rattle.archive.proofs.work.check.Goals as goal
use Rattle.archive.proofs.work.check.Goals.{After-scratch_room-scratch, After-check_point}

-- the scratch has room
fits : (c : After-scratch_room-scratch) → c.work_length-end.result ≤ length c.scratch_room-scratch.result
fits c =
    omega (arith, c.scratch_room-scratch.ensures, c.work_length-end.ensures, c.requires.few)

pub slice_bounds-check_point-end : goal.slice_bounds-check_point-end
slice_bounds-check_point-end c =
    sym (length-take-le _ _ (fits (goal.at.slice_bounds-check_point-end c).After-scratch_room-scratch))

judged : (c : After-check_point) → (outcome c.check_point.result).value ≡ Some (judged_at c.args.p c.args.n c.args.publics.now c.args.prepared.now c.args.transcript.now c.args.challenges.now)
judged c = judged_of _ _ _ c.requires (length-take-le _ _ (omega (arith, c.scratch_room-scratch.ensures, c.work_length-end.ensures, c.requires.few)) ∙ c.work_length-end.ensures) c.check_point.ensures

pub unwrap-requires : goal.unwrap-requires
unwrap-requires c = rw (ok_value c.check_point.result (judged (goal.at.unwrap-requires c).After-check_point)) refl

pub returns : goal.returns
returns c = cc (c.unwrap.ensures, ok_value c.check_point.result (judged (goal.at.returns c).After-check_point))
