-- The numbers before k are below p.
use Rattle.std.proofs.Common.{◌≡◌, ℕ, ◌<◌, leb, false}
use Rattle.sheet.specs.Table.{in_table}
use Rattle.sheet.proofs.laying.above.Given as goal

abbrev pub invariant-loop-k : goal.invariant-loop-k
invariant-loop-k l = (j : ℕ) → j < l.k → leb l.p (in_table l.table l.block j) ≡ false
