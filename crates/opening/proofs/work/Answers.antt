-- The evaluations, and the opening polynomial from them.
use Rattle.std.proofs.Common.{◌∙◌, ap, get_or, drop, List, ℕ}
use Rattle.algebra.specs.Polynomial.{quotient_linear, reduced}
use Rattle.circuit.specs.Buffers.{opening_length, blinded_by}
use Rattle.opening.specs.Opening.{mixture_of, opening_of}
use Rattle.opening.proofs.work.Goals as goal

pub returns-clause-opening_after : goal.returns-clause-opening_after
unfolding opening_of
returns-clause-opening_after c =
    let a = c.args in
    let point = get_or a.challenges.now 0 0 in
    let m = get_or a.challenges.now 1 0 in
    c.write_opening.ensures
    ∙ ap (λ (s : List ℕ). reduced a.p (opening_length (blinded_by a.n a.transcript.now) a.n) (quotient_linear point (drop 1 (mixture_of (blinded_by a.n a.transcript.now) a.p a.n a.prepared.now a.transcript.now a.list.now s m)))) c.evaluate.ensures
