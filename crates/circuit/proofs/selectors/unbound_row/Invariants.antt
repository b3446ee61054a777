-- Each row below i is a public row.
use Rattle.std.proofs.Common.{◌≡◌, ◌<◌, ◌+◌, ◌*◌, ℕ, true}
use Rattle.circuit.specs.Selectors.{is_public_at}
use Rattle.circuit.proofs.selectors.unbound_row.Given as goal

abbrev pub invariant-loop-i : goal.invariant-loop-i
invariant-loop-i l = (k : ℕ) → k < l.i → is_public_at l.words l.apart (l.start + k * l.step) ≡ true
