-- The first i words are written.
use Rattle.std.proofs.Common.{◌≡◌, ◌*◌, ◌-◌, ◌%◌, ◌<◌, get_or, length, ℕ}
use Rattle.transform.proofs.slices.backwards.Given as goal

abbrev pub invariant-loop-i : goal.invariant-loop-i
invariant-loop-i l = (k : ℕ) → k < l.i → get_or l.out k 0 ≡ l.c * get_or l.vals ((length l.vals - k) % length l.vals) 0 % l.p
