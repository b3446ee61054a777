-- Where no reason applies, the table is full, and the buffers have room for what is laid out.
use Rattle.std.proofs.Common.{◌≡◌, ◌≤◌, ℕ, Ok, List, [], ◌∷◌, subst, arith, length}
use Rattle.field.specs.Reasons.{outcome, bad_lengths}
use Rattle.sheet.specs.Sheet.{read_reasons, sheet_reasons}
use Rattle.sheet.specs.Table.{table_length}
use Rattle.sheet.specs.Deciding.{Decides}
use Rattle.sheet.specs.Due.{picked}
use Rattle.sheet.proofs.Reading.{ready, buffers, read_accepted}
use Rattle.sheet.proofs.read.Goals as goal
use Rattle.sheet.proofs.read.Goals.{In_ok-found}

-- the lengths due are those of the definition, and the table still has room
decided : (c : In_ok-found) → Decides c.args.sheet.now (sheet_reasons c.args.sheet.now (length c.args.selectors.now) (length c.args.labels.now) (length c.args.witness.now) (length c.args.publics.now) (length c.args.challenges.now)) (outcome (Ok c.in_ok-found.found)) c.decide.new.table
decided c =
    let a = c.args in
    let long = length a.sheet.now ∷ length a.selectors.now ∷ length a.labels.now ∷ length a.witness.now ∷ length a.publics.now ∷ length a.challenges.now ∷ [] in
    subst (λ (due : List ℕ). Decides a.sheet.now (read_reasons a.sheet.now (bad_lengths long due ∷ [])) (outcome (Ok c.in_ok-found.found)) c.decide.new.table)
    c.lengths_due-due.ensures c.in_ok-found.ensures

room : (c : In_ok-found) → length c.decide.new.table ≡ table_length
room c = omega (arith, c.decide.auto.table, c.room-table.ensures)

pub lay_out-requires : goal.lay_out-requires
lay_out-requires c =
    let ok = (goal.at.lay_out-requires c).In_ok-found in (
      ready _ _ _ _ _ _ _ _ (decided ok) (room ok),
      rw c.blinder_lines.ensures (picked (λ (e : ℕ). e ≤ 1) c.in_ok-found.found.blinded (omega arith) (omega arith)),
      buffers _ _ _ _ _ _ _ _ (decided ok),
    )

pub returns : goal.returns
returns c =
    let ok = (goal.at.returns c).In_ok-found in
    read_accepted _ _ _ _ _ _ _ _ (decided ok) (room ok) _ c.blinder_lines.ensures _ _ _ _ _ c.lay_out.ensures
