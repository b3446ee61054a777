-- The place is that of the first such number, or the block's count.
use Rattle.std.proofs.Common.{arith}
use Rattle.std.proofs.lemmas.Bool.Decides.{nat_tests}
use Rattle.sheet.proofs.BlockLaws.{first_high}
use Rattle.sheet.proofs.laying.above.Goals as goal

pub returns-then-p-word : goal.returns-then-p-word
returns-then-p-word c = first_high _ _ _ _ (omega arith) c.loop-k.invariant (λ h. grind (arith, nat_tests))

pub loop-k-preserved : goal.loop-k-preserved
loop-k-preserved c = λ j h. grind (arith, nat_tests)

pub returns : goal.returns
returns c = first_high _ _ _ _ (omega arith) (λ j h. c.loop-k.invariant j (omega arith)) (λ h. absurd (omega arith))
