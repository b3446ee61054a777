-- A position leads to what its label's slot held.
use Rattle.std.proofs.Common.{arith, ◌≡◌, ◌∙◌}
use Rattle.algebra.specs.Tables.{from_more, from_all}
use Rattle.circuit.proofs.Passes.{has_slot, next_permutation, ahead_more}
use Rattle.circuit.proofs.copies.follow.Goals as goal

pub loop-k-preserved : goal.loop-k-preserved
loop-k-preserved c =
    let inv = c.loop-k.invariant in
    let held = c.replace.ensures in
    record {
      ahead = rw held.after (ahead_more _ _ _ _ (omega arith) (omega arith) (has_slot c.requires.labels.0 _ _ (omega arith) (omega arith)) inv.ahead);
      right = from_more _ _ _ _ _ (omega arith) (omega arith) (held.value ∙ inv.ahead.next _ (omega arith) ∙ next_permutation _ _ _ _ (omega arith)) inv.right;
    }

pub returns : goal.returns
returns c =
    let done : c.loop-k.k ≡ 0 = omega arith in
    from_all _ _ (rw done at c.loop-k.invariant.right) ∙ rw (c.loop-k.auto.out, c.requires.labels.2)
