-- fits    the array has room for the points of every number of rows
use Rattle.std.proofs.Common.{ℕ, ◌≤◌}
use Rattle.field.specs.Fields.{Admissible}
use Rattle.field.specs.Primes.{rows-power}

pub fits : {p n : ℕ} → Admissible p n → n ≤ 1024
fits A = (rows-power _ _ A.rows).small
