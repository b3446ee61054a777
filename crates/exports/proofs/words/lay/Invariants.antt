-- The first k words stand over the start of the buffer.
use Rattle.std.proofs.Common.{◌≡◌, take}
use Rattle.exports.specs.Answers.{over}
use Rattle.exports.proofs.words.lay.Given as goal

abbrev pub invariant-loop-k : goal.invariant-loop-k
invariant-loop-k l = l.buffer ≡ over (take l.k l.words) l.fn.buffer
