-- One digit more.
use Rattle.std.proofs.Common.{add-one, arith, refl}
use Rattle.text.specs.Text.{value_of}
use Rattle.text.proofs.value.Goals as goal

pub loop-i-init : goal.loop-i-init
unfolding value_of
loop-i-init c = refl

pub loop-i-preserved : goal.loop-i-preserved
unfolding value_of
loop-i-preserved c = rw add-one (omega arith)
