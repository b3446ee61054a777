-- Each link leads to a number: a higher one of the bucket, or back, where the walk ends.
use Rattle.std.proofs.Common.{refl, sym, arith}
use Rattle.losses.proofs.Links.{links_long, link_lt, walk_on, walk_met, walk_end}
use Rattle.losses.proofs.different.again.Goals as goal

pub bounds-next-k : goal.bounds-next-k
bounds-next-k c = omega (arith, links_long _ _ c.requires.0)

pub bounds-numbers-i : goal.bounds-numbers-i
bounds-numbers-i c =
    let known = c.loop-j.invariant in
    link_lt _ _ c.requires.0 c.loop-j.j c.loop-j.i known.1 known.0.within

pub returns-then-numbers-i : goal.returns-then-numbers-i
returns-then-numbers-i c =
    let known = c.loop-j.invariant in
    let within = link_lt _ _ c.requires.0 c.loop-j.j c.loop-j.i known.1 known.0.within in
    sym (walk_met c.args.numbers.now c.args.k c.loop-j.i (omega (arith, known.0.low)) within c.if-numbers-i.true)

pub bounds-next-j : goal.bounds-next-j
bounds-next-j c =
    let known = c.loop-j.invariant in
    omega (arith, links_long _ _ c.requires.0, link_lt _ _ c.requires.0 c.loop-j.j c.loop-j.i known.1 known.0.within)

pub loop-j-preserved : goal.loop-j-preserved
loop-j-preserved c =
    let known = c.loop-j.invariant in
    (walk_on _ _ c.requires.0 c.loop-j.j c.loop-j.i known.1 c.args.k c.requires.1 known.0 c.loop-j-test.true c.if-numbers-i.false, refl)

pub returns : goal.returns
returns c =
    let known = c.loop-j.invariant in
    sym (walk_end _ _ c.requires.0 c.loop-j.j c.loop-j.i known.1 c.args.k c.requires.1 known.0 (omega arith))
