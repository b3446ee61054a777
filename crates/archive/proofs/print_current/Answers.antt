-- `archive::print_current` meets its contract: what is read is printed, or the refusal is. Assumes nothing.
use mathlib.Core.Path.{◌≡◌, sym, ap, subst, ◌∙◌}
use mathlib.Core.List.{List}
use Prim.Native.Nat.{ℕ, ◌*◌, ◌≤◌}
use native.Mathlib.Omega.{arith}
use lib.ListN.{take, drop}
use Rattle.circuit.specs.Buffers.{blinder_count, selectors_length, labels_length, witness_length}
use Rattle.sheet.specs.Sheet.{challenge_count}
use Rattle.text.specs.Text.{refused_text}
use Rattle.archive.specs.Printed.{work_text}
use Rattle.text.specs.Puts.{Puts}
use Rattle.field.specs.Reasons.{Answer, outcome}
use Rattle.field.specs.ReasonLaws.{told_refused}
use Rattle.field.specs.declared.refusal.Refusal.{Refusal}
use Rattle.sheet.specs.declared.Sheet.{Sheet}
use Rattle.std.specs.Prelude.{Result, Ok, Some}
use Rattle.archive.specs.Work.{Workable}
use Rattle.archive.specs.Sheets.{Arrays, rows_few, publics_few, sheet_workable, sheet_text_lem, unread_text}
use Rattle.archive.proofs.print_current.Goals as goal
use Rattle.archive.proofs.print_current.Goals.{After-read-read}

-- the arrays have the lengths that are due
arrays : (c : After-read-read) → Arrays c.room-selectors.result c.room-labels.result c.room-witness.result c.room-publics.result c.room-drawn.result
arrays c =
    record {
      selectors_long = c.room-selectors.ensures;
      labels_long = c.room-labels.ensures;
      witness_long = c.room-witness.ensures;
      publics_long = c.room-publics.ensures;
      drawn_long = c.room-drawn.ensures;
    }

-- n and l are small, so that the arrays have room
few : (c : After-read-read) (found : Sheet) → (outcome c.read-read.result).value ≡ Some found → (found.n ≤ 256) × (found.l ≤ 256)
few c found e = (
  rows_few c.args.sheet.now c.room-selectors.result c.room-labels.result c.room-witness.result c.room-publics.result c.room-drawn.result (outcome c.read-read.result) c.read-read.new.selectors c.read-read.new.labels c.read-read.new.witness c.read-read.new.publics c.read-read.new.challenges c.read-read.ensures (arrays c) c.requires.1 found e,
  publics_few c.args.sheet.now c.room-selectors.result c.room-labels.result c.room-witness.result c.room-publics.result c.room-drawn.result (outcome c.read-read.result) c.read-read.new.selectors c.read-read.new.labels c.read-read.new.witness c.read-read.new.publics c.read-read.new.challenges c.read-read.ensures (arrays c) c.requires.1 found e,
)

-- what the result gives
is_found : {r : Result Sheet Refusal} {found : Sheet} → r ≡ Ok found → (outcome r).value ≡ Some found
is_found e = ap (λ r. (outcome r).value) e

pub print_read-requires : goal.print_read-requires
print_read-requires c =
    let d = (goal.at.print_read-requires c).After-read-read in
    let e = is_found c.in-Ok.is in
    let small = few d c.in-Ok.found e in
    let A = arrays d in
    let k = c.read-read.auto in record {
      workable = (
        subst
            (λ (m : ℕ). Workable m c.in-Ok.found.p c.in-Ok.found.n (take challenge_count c.read-read.new.challenges) (take (blinder_count * m) (drop challenge_count c.read-read.new.challenges)) c.args.text.now)
            (sym c.blinder_lines.ensures)
            (sheet_workable c.args.sheet.now c.room-selectors.result c.room-labels.result c.room-witness.result c.room-publics.result c.room-drawn.result (outcome c.read-read.result) c.read-read.new.selectors c.read-read.new.labels c.read-read.new.witness c.read-read.new.publics c.read-read.new.challenges c.read-read.ensures A c.requires.1 c.in-Ok.found e c.args.text.now c.requires.0),
        k.challenges ∙ sym A.drawn_long,
      );
      n_in_bounds = (
        omega (arith, small.0, A.selectors_long, k.selectors),
        omega (arith, small.0, A.labels_long, k.labels),
        omega (arith, small.0, A.witness_long, k.witness),
        omega (arith, small.1, A.publics_long, k.publics),
      );
    }

pub returns-in-Ok : goal.returns-in-Ok
returns-in-Ok c =
    let d = (goal.at.returns-in-Ok c).After-read-read in
    let r = c.in-Ok.found in
    subst (λ (b : List ℕ). Puts 0 b c.args.text.now c.print_read.result c.print_read.new.text)
    (ap
    (λ (m : ℕ). work_text m r.p r.n r.l (take (selectors_length r.n) c.read-read.new.selectors) (take (labels_length r.n) c.read-read.new.labels) (take (witness_length r.n) c.read-read.new.witness) (take r.l c.read-read.new.publics) (take challenge_count c.read-read.new.challenges) (take (blinder_count * m) (drop challenge_count c.read-read.new.challenges)))
    c.blinder_lines.ensures
    ∙ sheet_text_lem c.args.sheet.now c.room-selectors.result c.room-labels.result c.room-witness.result c.room-publics.result c.room-drawn.result (outcome c.read-read.result) c.read-read.new.selectors c.read-read.new.labels c.read-read.new.witness c.read-read.new.publics c.read-read.new.challenges c.read-read.ensures (arrays d) c.requires.1 c.in-Ok.found (is_found c.in-Ok.is))
    c.print_read.ensures

pub returns-in-Err : goal.returns-in-Err
returns-in-Err c =
    let d = (goal.at.returns-in-Err c).After-read-read in
    let e = ap (λ r. (outcome r).answer) c.in-Err.is in
    subst (λ (b : List ℕ). Puts 0 b c.args.text.now c.put_refusal.result c.put_refusal.new.out)
    (ap (λ (a : Answer). refused_text a.number a.detail) (sym e)
    ∙ unread_text c.args.sheet.now c.room-selectors.result c.room-labels.result c.room-witness.result c.room-publics.result c.room-drawn.result (outcome c.read-read.result) c.read-read.new.selectors c.read-read.new.labels c.read-read.new.witness c.read-read.new.publics c.read-read.new.challenges c.read-read.ensures (arrays d) c.requires.1 (λ z. told_refused c.in-Err.refusal (sym (ap (λ (a : Answer). a.number) e) ∙ z)))
    c.put_refusal.ensures
