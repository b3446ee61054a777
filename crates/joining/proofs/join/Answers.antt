-- The joined sheet is put from the tables, and the rest cleared.
use Rattle.std.proofs.Common.{◌≡◌, refl, sym, ap, subst, List, ℕ, arith, length}
use Rattle.field.specs.Reasons.{Answer, answer_of}
use Rattle.text.specs.Puts.{Puts, puts_cleared}
use Rattle.sheet.specs.Table.{table_length}
use Rattle.joining.specs.Joining.{on_sheet, join_reasons}
use Rattle.joining.specs.Deciding.{Joinable, joinable_of, room_is, made_join}
use Rattle.joining.specs.Tabled.{found_tables, found_text}
use Rattle.joining.proofs.join.Goals as goal
use Rattle.joining.proofs.join.Goals.{In_ok-pair}

one_long : (c : In_ok-pair) → length c.decide.new.first ≡ table_length
one_long c = omega (arith, c.decide.auto.first, c.room-first.ensures)

two_long : (c : In_ok-pair) → length c.decide.new.second ≡ table_length
two_long c = omega (arith, c.decide.auto.second, c.room-second.ensures)

-- no reason applies, so the sheets can be joined
none : (c : In_ok-pair) → (answer_of (join_reasons c.args.one.now c.args.two.now (length c.args.joined.now))).number ≡ 0
none c = ap (λ (a : Answer). a.number) (sym c.in_ok-pair.ensures.answer)

can : (c : In_ok-pair) → Joinable (on_sheet c.args.one.now) (on_sheet c.args.two.now)
can c = joinable_of c.args.one.now c.args.two.now (length c.args.joined.now) (none c)

pub put_sheet-end-requires : goal.put_sheet-end-requires
put_sheet-end-requires c =
    let ok = (goal.at.put_sheet-end-requires c).In_ok-pair in (
      found_tables c.args.one.now c.args.two.now (can ok) _ _ _ c.in_ok-pair.ensures.known (one_long ok) (two_long ok),
      room_is c.args.one.now c.args.two.now (length c.args.joined.now) (none ok),
    )

pub returns : goal.returns
returns c =
    let a = c.args in
    let ok = (goal.at.returns c).In_ok-pair in
    let end = c.put_sheet-end.result in
    let puts =
    subst (λ (text : List ℕ). Puts 0 text a.joined.now end c.put_sheet-end.new.out)
    (found_text a.one.now a.two.now (can ok) _ _ _ c.in_ok-pair.ensures.known (one_long ok) (two_long ok)) c.put_sheet-end.ensures
    in
    made_join a.one.now a.two.now a.joined.now _ c.in_ok-pair.ensures.answer refl end c.put_sheet-end.new.out _ c.put_sheet-end.auto.out (omega (arith, puts.place))
    (puts_cleared _ _ end c.put_sheet-end.new.out c.fill.new.self puts (c.fill.ensures.after (λ y h. h)))
