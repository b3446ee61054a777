-- The first fields are put.
use Rattle.std.proofs.Common.{take}
use Rattle.text.specs.Text.{fields_text}
use Rattle.text.specs.Puts.{Puts}
use Rattle.text.proofs.writing.put_fields.Given as goal

abbrev pub invariant-loop-v : goal.invariant-loop-v
invariant-loop-v l = Puts l.fn.at (fields_text (take l.v-index l.vs)) l.fn.out l.next l.out
