-- The challenges in front, the blinders behind them.
use Rattle.std.proofs.Common.{◌≡◌, ◌≤◌, ◌∙◌, append-nil, arith, length, take}
use Rattle.std.proofs.lemmas.List.{length-take-le}
use Rattle.algebra.specs.Ends.{rest_length, both_parts}
use Rattle.algebra.specs.Lists.{tab}
use Rattle.circuit.specs.Buffers.{blinder_count}
use Rattle.sheet.specs.Sheet.{challenge_count}
use Rattle.sheet.specs.Table.{challenges_in}
use Rattle.sheet.proofs.BlockLaws.{laid_block}
use Rattle.sheet.proofs.laying.lay_drawn.Goals as goal

pub returns : goal.returns
returns c =
    let t = c.args.table.now in
    let fits : challenge_count ≤ length c.args.out.now = omega arith in
    let front : length (take challenge_count c.args.out.now) ≡ challenge_count = length-take-le challenge_count c.args.out.now fits in
    let room = rest_length challenge_count c.args.out.now c.lay.new.out fits c.lay.auto.out in
    both_parts challenge_count c.args.out.now c.lay.new.out fits c.lay.auto.out c.lay-2.new.out (tab (challenges_in t c.args.n c.args.l) challenge_count) _
    (laid_block t c.challenges.ensures front c.lay.ensures ∙ append-nil _)
    (laid_block t {k = blinder_count} c.blinders.ensures (room ∙ omega arith) c.lay-2.ensures)
