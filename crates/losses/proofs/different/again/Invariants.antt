-- The walk that began at k has come to j, and its link leads to i. What is left of the numbers falls.
use Rattle.std.proofs.Common.{◌≡◌, ◌-◌, get_or, length}
use Rattle.losses.proofs.Links.{Walked}
use Rattle.losses.proofs.different.again.Given as goal

abbrev pub invariant-loop-j : goal.invariant-loop-j
invariant-loop-j l = Walked l.numbers l.k l.j × (l.i ≡ get_or l.next l.j 0)

abbrev pub decreases-loop-j : goal.decreases-loop-j
decreases-loop-j l = length l.numbers - l.j
