-- j fields are read, all of them in form.
use Rattle.std.proofs.Common.{◌≡◌, true, ◌<◌, ◌≤◌, ℕ, length, get_or}
use Rattle.text.specs.Text.{number_at, field_at, is_field_at}
use Rattle.text.proofs.line.Given as goal

abbrev pub invariant-loop-j : goal.invariant-loop-j
invariant-loop-j l = record {
  place : l.next ≡ field_at l.s l.fn.at l.j;
  within : l.next ≤ length l.s;
  fields : (k : ℕ) → k < l.j → is_field_at l.s l.fn.at (length l.fn.out) k ≡ true;
  words : (k : ℕ) → k < l.j → get_or l.out k 0 ≡ number_at l.s (field_at l.s l.fn.at k);
}
