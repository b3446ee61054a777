-- `archive::work::prepare` meets its contract: the scratch has the length that is due. Assumes nothing.
use mathlib.Core.Path.{sym, ap, ◌∙◌}
use Prim.Native.Nat.{◌≤◌}
use native.Mathlib.Omega.{arith}
use lib.ListN.{length}
use lib.Seq.{length-take-le}
use Rattle.field.specs.ReasonLaws.{ok_told}
use Rattle.circuit.specs.RightlyLent.{prepare_taken}
use Rattle.archive.specs.Work.{prepared_of}
use Rattle.archive.proofs.work.prepare.Goals as goal
use Rattle.archive.proofs.work.prepare.Goals.{After-scratch_room-scratch}

-- the scratch has room
fits : (c : After-scratch_room-scratch) → c.scratch_length-end.result ≤ length c.scratch_room-scratch.result
fits c =
    omega (arith, c.scratch_room-scratch.ensures, c.scratch_length-end.ensures, c.requires.0)

pub slice_bounds-prepare-end : goal.slice_bounds-prepare-end
slice_bounds-prepare-end c =
    sym (length-take-le _ _ (fits (goal.at.slice_bounds-prepare-end c).After-scratch_room-scratch))

pub unwrap-requires : goal.unwrap-requires
unwrap-requires c =
    let long = length-take-le _ _ (omega (arith, c.scratch_room-scratch.ensures, c.scratch_length-end.ensures, c.requires.0)) ∙ c.scratch_length-end.ensures in
    ok_told c.prepare.result (ap (λ a. a.number) (c.prepare.ensures.answer ∙ prepare_taken c.requires.1 _ _ c.requires.2 c.requires.3 long))

pub returns : goal.returns
returns c =
    prepared_of c.args.selectors.now c.args.labels.now _ _ _ _ _ c.requires.1 c.requires.2 c.requires.3 (length-take-le _ _ (fits (goal.at.returns c).After-scratch_room-scratch) ∙ c.scratch_length-end.ensures)
    c.prepare.ensures
