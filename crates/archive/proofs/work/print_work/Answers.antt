-- `archive::work::print_work` meets its contract: what the prover laid is printed and judged, or its refusal is printed. Assumes nothing.
use mathlib.Core.Path.{◌≡◌, sym, ap, subst, ◌∙◌}
use mathlib.Core.List.{List, ◌++◌}
use mathlib.Core.Option.{Option, some}
use Prim.Native.Nat.{ℕ, ◌≤◌}
use native.Mathlib.Omega.{arith}
use lib.ListN.{length, take, drop}
use lib.Seq.{length-take-le}
use Rattle.algebra.specs.Ends.{front_fits, front_is}
use Rattle.field.specs.Reasons.{number_of, told}
use Rattle.field.specs.ReasonLaws.{told_refused}
use Rattle.prover.specs.Promises.{proved_from}
use Rattle.archive.specs.Printed.{work_answer}
use Rattle.text.specs.Puts.{Puts}
use Rattle.archive.specs.Work.{laid_of, checkable_of, proved_text_lem, refused_text_lem}
use Rattle.archive.proofs.work.print_work.Goals as goal
use Rattle.archive.proofs.work.print_work.Goals.{After-lay-laid, After-transcript_room-transcript}

-- the array has room, and still has when it is written
fits : (c : After-transcript_room-transcript) → c.transcript_length-end.result ≤ length c.transcript_room-transcript.result
fits c =
    omega (arith, c.transcript_room-transcript.ensures, c.transcript_length-end.ensures, c.requires.few, c.requires.blinded)

still-fits : (c : After-lay-laid) → c.transcript_length-end.result ≤ length ((c.lay-laid.new.transcript ++ drop c.transcript_length-end.result c.transcript_room-transcript.result))
still-fits c =
    front_fits c.transcript_length-end.result c.transcript_room-transcript.result c.lay-laid.new.transcript (omega (arith, c.transcript_room-transcript.ensures, c.transcript_length-end.ensures, c.requires.few, c.requires.blinded)) c.lay-laid.auto.transcript

-- the part that is lent on is what the prover laid
is_laid : (c : After-lay-laid) → (told c.lay-laid.result).number ≡ 0
    → proved_from c.args.e c.args.p c.args.n c.args.selectors.now c.args.labels.now c.args.witness.now c.args.publics.now (take 3 c.args.challenges.now) c.args.blinders.now ≡ some (take c.transcript_length-end.result (c.lay-laid.new.transcript ++ drop c.transcript_length-end.result c.transcript_room-transcript.result))
is_laid c e =
    let a = c.args in
    laid_of a.e a.p a.n a.l a.selectors.now a.labels.now a.witness.now a.publics.now a.challenges.now a.blinders.now _ _ _ c.lay-laid.ensures e
    ∙ ap {B = Option (List ℕ)} some
    (sym (front_is c.transcript_length-end.result c.transcript_room-transcript.result c.lay-laid.new.transcript (omega (arith, c.transcript_room-transcript.ensures, c.transcript_length-end.ensures, c.requires.few, c.requires.blinded)) c.lay-laid.auto.transcript))

taken : (c : After-lay-laid) → (told c.lay-laid.result).number ≡ 0
    → (work_answer c.args.e c.args.p c.args.n c.args.l c.args.selectors.now c.args.labels.now c.args.witness.now c.args.publics.now c.args.challenges.now c.args.blinders.now).number ≡ 0
taken c e = ap (λ r. r.number) (sym c.lay-laid.ensures.answer) ∙ e

pub slice_bounds-lay-end : goal.slice_bounds-lay-end
slice_bounds-lay-end c =
    sym (length-take-le _ _ (fits (goal.at.slice_bounds-lay-end c).After-transcript_room-transcript))

pub lay-laid-requires : goal.lay-laid-requires
lay-laid-requires c =
    record {
      e_bound = (c.requires.blinded, c.requires.unblinded);
      n_bound = (c.requires.few, omega (arith, c.requires.challenges_right.long), length-take-le _ _ (fits (goal.at.lay-laid-requires c).After-transcript_room-transcript) ∙ c.transcript_length-end.ensures);
    }

pub slice_bounds-print_checked-end : goal.slice_bounds-print_checked-end
slice_bounds-print_checked-end c =
    sym (length-take-le _ _ (still-fits (goal.at.slice_bounds-print_checked-end c).After-lay-laid))

pub print_checked-requires : goal.print_checked-requires
print_checked-requires c =
    let d = (goal.at.print_checked-requires c).After-lay-laid in
    let a = c.args in
    let e = ap (λ r. (told r).number) c.in-Ok.is in
    (checkable_of a.e a.p a.n a.l a.selectors.now a.labels.now a.witness.now a.publics.now a.challenges.now a.blinders.now (taken d e) ((take c.transcript_length-end.result ((c.lay-laid.new.transcript ++ drop c.transcript_length-end.result c.transcript_room-transcript.result)))) (is_laid d e) a.text.now c.requires, c.requires.room)

pub returns-in-Ok : goal.returns-in-Ok
returns-in-Ok c =
    let d = (goal.at.returns-in-Ok c).After-lay-laid in
    let a = c.args in
    let e = ap (λ r. (told r).number) c.in-Ok.is in
    subst (λ (b : List ℕ). Puts 0 b a.text.now c.print_checked.result c.print_checked.new.text)
    (proved_text_lem a.e a.p a.n a.l a.selectors.now a.labels.now a.witness.now a.publics.now a.challenges.now a.blinders.now (taken d e) ((take c.transcript_length-end.result ((c.lay-laid.new.transcript ++ drop c.transcript_length-end.result c.transcript_room-transcript.result)))) (is_laid d e) c.requires.blinded
    (length-take-le _ _ (still-fits d) ∙ c.transcript_length-end.ensures))
    c.print_checked.ensures

pub returns-in-Err : goal.returns-in-Err
returns-in-Err c =
    let a = c.args in
    let e : told c.lay-laid.result ≡ record { number = number_of c.in-Err.refusal.cause; detail = c.in-Err.refusal.detail } = ap told c.in-Err.is in
    subst (λ (b : List ℕ). Puts 0 b a.text.now c.put_refusal.result c.put_refusal.new.out)
    (refused_text_lem a.e a.p a.n a.l a.selectors.now a.labels.now a.witness.now a.publics.now a.challenges.now a.blinders.now _ (sym e ∙ c.lay-laid.ensures.answer) (told_refused c.in-Err.refusal))
    c.put_refusal.ensures
