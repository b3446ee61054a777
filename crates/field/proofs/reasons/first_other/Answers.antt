-- The place is the first at which they differ, or their length.
use Rattle.std.proofs.Common.{arith, eq-eqb, ne_eqb}
use Rattle.algebra.specs.Search.{found}
use Rattle.field.specs.Reasons.{first_other}
use Rattle.field.proofs.reasons.first_other.Goals as goal

pub returns-then-long-i : goal.returns-then-long-i
unfolding first_other
returns-then-long-i c = found _ _ _ (omega arith) (λ k h. rw (eq-eqb _ _ (c.loop-i.invariant k h))) (λ h. rw (ne_eqb _ _ c.if-long-i.true))

pub returns : goal.returns
unfolding first_other
returns c = found _ _ _ (omega arith) (λ k h. rw (eq-eqb _ _ (c.loop-i.invariant k (omega arith)))) (λ h. absurd (omega arith))
