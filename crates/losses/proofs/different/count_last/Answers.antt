-- One number more, in front of those passed.
use Rattle.std.proofs.Common.{◌≡◌, sym, ◌∙◌, arith}
use Rattle.losses.proofs.Links.{counted_none, counted_most, counted_again, counted_last}
use Rattle.losses.proofs.different.count_last.Goals as goal

pub loop-k-init : goal.loop-k-init
loop-k-init c = counted_none c.args.numbers.now

pub overflow_add-count : goal.overflow_add-count
overflow_add-count c = omega (arith, counted_most c.args.numbers.now c.loop-k.k c.loop-k.count c.loop-k.invariant, c.requires.few)

pub loop-k-preserved-then-not-again : goal.loop-k-preserved-then-not-again
loop-k-preserved-then-not-again c =
    counted_last _ c.loop-k.k c.loop-k.count c.loop-k.invariant (omega arith) (omega arith) (sym c.again.ensures ∙ c.if-not-again.true)

pub loop-k-preserved : goal.loop-k-preserved
loop-k-preserved c =
    counted_again _ c.loop-k.k c.loop-k.count c.loop-k.invariant (omega arith) (omega arith) (sym c.again.ensures ∙ c.if-not-again.false)

pub returns : goal.returns
returns c = let none : c.loop-k.k ≡ 0 = omega arith in rw none at c.loop-k.invariant
