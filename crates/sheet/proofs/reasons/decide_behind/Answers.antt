-- The reasons of the numbers are read off the table, in which the lines stand.
use borrow.Author.Rules.{rules}
use Rattle.std.proofs.Common.{ap, ◌∙◌, ◌≡◌, ℕ}
use Rattle.field.specs.Reasons.{told, answer_of}
use Rattle.sheet.specs.Sheet.{sheet_numbers}
use Rattle.sheet.specs.Deciding.{table_numbers}
use Rattle.sheet.specs.Due.{blinded_lines}
use Rattle.sheet.proofs.Decided.{table_reasons}
use Rattle.sheet.proofs.reasons.decide_behind.Goals as goal
use Rattle.sheet.proofs.reasons.decide_behind.Goals.{After-decide_numbers}

numbers : (c : After-decide_numbers) → told c.decide_numbers.result ≡ answer_of (sheet_numbers c.args.s.now c.args.first.p c.args.first.n c.args.first.l)
numbers c =
    let s = c.args.s.now in
    let first = c.args.first in
    let full = c.requires.0.full in
    let tabled = c.in_ok-blinded.ensures.tabled in
    c.decide_numbers.ensures
    ∙ ap (λ (e : ℕ). answer_of (table_numbers e first.p first.n first.l c.decide_lines.new.table))
    (blinded_lines s first.n first.l _ _ tabled.blinded_is c.blinder_lines.ensures)
    ∙ table_reasons s first.p first.n first.l _ (record { some = full.some; few = full.few; publics = full.publics; long = c.decide_lines.auto.table ∙ full.long }) tabled.held

pub returns-in_err-decide_numbers-clause-answer_value : goal.returns-in_err-decide_numbers-clause-answer_value
returns-in_err-decide_numbers-clause-answer_value c = let e = numbers (goal.at.returns-in_err-decide_numbers-clause-answer_value c).After-decide_numbers in search rules

pub returns-clause-answer_value : goal.returns-clause-answer_value
returns-clause-answer_value c = let e = numbers (goal.at.returns-clause-answer_value c).After-decide_numbers in search rules
