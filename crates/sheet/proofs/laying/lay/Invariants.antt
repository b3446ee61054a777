-- The first k words are laid.
use Rattle.std.proofs.Common.{◌≡◌, ℕ, ◌<◌, cond, ltb, get_or}
use Rattle.sheet.specs.Table.{in_table}
use Rattle.sheet.proofs.laying.lay.Given as goal

abbrev pub invariant-loop-k : goal.invariant-loop-k
invariant-loop-k l = (j : ℕ) → j < l.k → get_or l.out j 0 ≡ cond (ltb j l.block.count) (in_table l.table l.block j) 0
