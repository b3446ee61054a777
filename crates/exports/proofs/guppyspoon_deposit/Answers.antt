-- The length of a text fits into a word.
use Rattle.std.proofs.Common.{arith}
use Rattle.archive.specs.Fits.{deposit_fits}
use Rattle.exports.proofs.guppyspoon_deposit.Goals as goal

pub in_word-requires : goal.in_word-requires
in_word-requires c = omega (arith, deposit_fits _ _ _ _ c.deposit-r.ensures)
