-- The length of a joined sheet fits into a word.
use Rattle.std.proofs.Common.{arith}
use Rattle.joining.specs.Theorem.{join_fits}
use Rattle.exports.proofs.guppyspoon_join.Goals as goal

pub in_word-requires : goal.in_word-requires
in_word-requires c = omega (arith, join_fits _ _ _ _ _ c.join-r.ensures)
