-- `archive::work::lay` meets its contract: the scratch has the length that is due. Assumes nothing.
use mathlib.Core.Path.{sym, ◌∙◌}
use Prim.Native.Nat.{◌≤◌}
use native.Mathlib.Omega.{arith}
use lib.ListN.{length}
use lib.Seq.{length-take-le}
use Rattle.archive.specs.Work.{lays_of}
use Rattle.archive.proofs.work.lay.Goals as goal
use Rattle.archive.proofs.work.lay.Goals.{After-scratch_room-scratch}

-- the scratch has room
fits : (c : After-scratch_room-scratch) → c.work_length-end.result ≤ length c.scratch_room-scratch.result
fits c =
    omega (arith, c.scratch_room-scratch.ensures, c.work_length-end.ensures, c.requires.n_bound.0, c.requires.e_bound.0)

pub slice_bounds-run-end : goal.slice_bounds-run-end
slice_bounds-run-end c = sym (length-take-le 3 c.args.challenges.now c.requires.n_bound.1)

pub slice_bounds-run-end-2 : goal.slice_bounds-run-end-2
slice_bounds-run-end-2 c =
    sym (length-take-le _ _ (fits (goal.at.slice_bounds-run-end-2 c).After-scratch_room-scratch))

pub returns : goal.returns
returns c =
    let a = c.args in
    lays_of a.e a.p a.n a.l a.selectors.now a.labels.now a.witness.now a.publics.now a.challenges.now a.blinders.now _ _ _ _ _
    c.requires.n_bound.2
    (length-take-le _ _ (fits (goal.at.returns c).After-scratch_room-scratch) ∙ c.work_length-end.ensures)
    c.run.ensures
