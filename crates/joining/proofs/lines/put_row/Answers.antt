-- `joining::lines::put_row` meets its contract: the line of the row that stands there. Assumes nothing.
use Rattle.std.proofs.Common.{◌≡◌, ◌<◌, sym, subst, ◌∙◌, ℕ, inl, inr, List, arith}
use Rattle.text.specs.Text.{line_of}
use Rattle.text.specs.Puts.{Puts}
use Rattle.joining.specs.Joining.{source_row}
use Rattle.joining.proofs.LineLaws.{source_first, source_second, first_below, second_below, row_first, row_second}
use Rattle.joining.proofs.lines.put_row.Goals as goal
use Rattle.joining.proofs.lines.put_row.Goals.{In-First, In-Second}

-- the row comes from the first sheet, or from the second, and is below n
first_row : (c : In-First) → source_row c.args.n c.args.l c.args.m c.args.i ≡ inl c.in-First.row
first_row c = source_first _ _ (sym c.in-First.is ∙ c.source_of.ensures)

first_low : (c : In-First) → c.in-First.row < c.args.n
first_low c =
    first_below c.args.n c.args.l c.args.m c.args.i _ c.requires.0.one_few c.requires.0.two_few c.requires.1 (first_row c)

second_row : (c : In-Second) → source_row c.args.n c.args.l c.args.m c.args.i ≡ inr c.in-Second.row
second_row c = source_second _ _ (sym c.in-Second.is ∙ c.source_of.ensures)

second_low : (c : In-Second) → c.in-Second.row < c.args.n
second_low c =
    second_below c.args.n c.args.l c.args.m c.args.i _ c.requires.0.one_few c.requires.0.two_few c.requires.1 (second_row c)

pub overflow_add-start : goal.overflow_add-start
overflow_add-start c = omega (arith, (c.requires.0.one_lines _ (first_low c)).line)

pub put_words-requires : goal.put_words-requires
put_words-requires c =
    (c.requires.0.one_lines _ (first_low (goal.at.put_words-requires c).In-First), c.requires.0.some, c.requires.2)

pub overflow_add-start-in-Second : goal.overflow_add-start-in-Second
overflow_add-start-in-Second c = omega (arith, (c.requires.0.two_lines _ (second_low c)).line)

pub put_words-requires-in-Second : goal.put_words-requires-in-Second
put_words-requires-in-Second c =
    (c.requires.0.two_lines _ (second_low (goal.at.put_words-requires-in-Second c).In-Second), c.requires.0.some, c.requires.2)

pub returns-in-First : goal.returns-in-First
returns-in-First c =
    let a = c.args in
    subst (λ (line : List ℕ). Puts a.at (line_of line) a.out.now c.put_words.result c.put_words.new.out)
    (row_first a.n a.l a.m a.start a.k a.first.now a.second.now a.i _ (first_row (goal.at.returns-in-First c).In-First))
    c.put_words.ensures

pub returns-in-Second : goal.returns-in-Second
returns-in-Second c =
    let a = c.args in
    subst (λ (line : List ℕ). Puts a.at (line_of line) a.out.now c.put_words-in-Second.result c.put_words-in-Second.new.out)
    (row_second a.n a.l a.m a.start a.k a.first.now a.second.now a.i _ (second_row (goal.at.returns-in-Second c).In-Second))
    c.put_words-in-Second.ensures
