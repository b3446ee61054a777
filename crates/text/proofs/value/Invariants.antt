-- v is what the first i digits write, or 2^32 where that is more.
use Rattle.std.proofs.Common.{◌≡◌, min}
use Rattle.text.specs.Text.{value_of}
use Rattle.text.proofs.value.Given as goal

abbrev pub invariant-loop-i : goal.invariant-loop-i
invariant-loop-i l = l.v ≡ min (value_of l.s l.at l.i) 4294967296
