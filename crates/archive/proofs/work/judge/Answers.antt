-- `archive::work::judge` meets its contract: the circuit is prepared in an array, and judged with it. Assumes nothing.
use mathlib.Core.Path.{◌≡◌, sym, subst, ap, ◌∙◌}
use mathlib.Core.List.{List, ◌++◌}
use Prim.Native.Nat.{ℕ, ◌≤◌}
use native.Mathlib.Omega.{arith}
use lib.ListN.{length, take, drop}
use lib.Seq.{length-take-le}
use Rattle.algebra.specs.Ends.{front_fits, front_is}
use Rattle.circuit.specs.Circuit.{lent_constraints}
use Rattle.protocol.specs.Protocol.{prepared}
use Rattle.pointcheck.specs.Promises.{judged_at}
use Rattle.archive.specs.Work.{Judgeable, judgeable_of}
use Rattle.archive.proofs.work.judge.Goals as goal
use Rattle.archive.proofs.work.judge.Goals.{After-prepare, After-prepared_room-prepared}

-- the array has room, and still has when it is written
fits : (c : After-prepared_room-prepared) → c.prepared_length-end.result ≤ length c.prepared_room-prepared.result
fits c =
    omega (arith, c.prepared_room-prepared.ensures, c.prepared_length-end.ensures, c.requires.few)

still-fits : (c : After-prepare) → c.prepared_length-end.result ≤ length ((c.prepare.new.prepared ++ drop c.prepared_length-end.result c.prepared_room-prepared.result))
still-fits c =
    front_fits c.prepared_length-end.result c.prepared_room-prepared.result c.prepare.new.prepared ((let it : c.prepared_length-end.result ≤ length c.prepared_room-prepared.result = omega (arith, c.prepared_room-prepared.ensures, c.prepared_length-end.ensures, c.requires.few) in it)) c.prepare.auto.prepared

-- what is written is the prepared circuit
written : (c : After-prepare) → take c.prepared_length-end.result ((c.prepare.new.prepared ++ drop c.prepared_length-end.result c.prepared_room-prepared.result)) ≡ prepared c.args.p c.args.n (lent_constraints c.args.n c.args.selectors.now c.args.labels.now)
written c =
    front_is c.prepared_length-end.result c.prepared_room-prepared.result c.prepare.new.prepared ((let it : c.prepared_length-end.result ≤ length c.prepared_room-prepared.result = omega (arith, c.prepared_room-prepared.ensures, c.prepared_length-end.ensures, c.requires.few) in it)) c.prepare.auto.prepared ∙ c.prepare.ensures

pub slice_bounds-prepare-end : goal.slice_bounds-prepare-end
slice_bounds-prepare-end c =
    sym (length-take-le _ _ (fits (goal.at.slice_bounds-prepare-end c).After-prepared_room-prepared))

pub prepare-requires : goal.prepare-requires
prepare-requires c =
    (c.requires.few, c.requires.admissible, c.requires.circuit-right, length-take-le _ _ (fits (goal.at.prepare-requires c).After-prepared_room-prepared) ∙ c.prepared_length-end.ensures)

pub slice_bounds-prepared-end-2 : goal.slice_bounds-prepared-end-2
slice_bounds-prepared-end-2 c = still-fits (goal.at.slice_bounds-prepared-end-2 c).After-prepare

pub slice_bounds-check-end : goal.slice_bounds-check-end
slice_bounds-check-end c = sym (length-take-le _ _ (still-fits (goal.at.slice_bounds-check-end c).After-prepare))

pub check-requires : goal.check-requires
check-requires c =
    let a = c.args in
    subst (λ (w : List ℕ). Judgeable a.e a.p a.n a.l a.publics.now w a.transcript.now a.challenges.now) (sym (written (goal.at.check-requires c).After-prepare)) (judgeable_of c.requires)

pub returns : goal.returns
returns c =
    let a = c.args in
    c.check.ensures ∙ ap (λ (w : List ℕ). judged_at a.p a.n a.publics.now w a.transcript.now a.challenges.now) (written (goal.at.returns c).After-prepare)
