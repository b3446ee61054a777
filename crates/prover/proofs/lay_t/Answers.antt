-- F is in the scratch, and its quotient goes behind a, b, c and z.
use Rattle.std.proofs.Common.{◌≡◌, ◌+◌, ◌-◌, ◌≤◌, List, ◌++◌, ℕ, length, get_or, take, drop, sym, ap, ap₂, ◌∙◌, arith, length-take-le}
use Rattle.algebra.specs.Ends.{rest_put}
use Rattle.algebra.specs.Polynomial.{quotient_vanishing, reduced}
use Rattle.field.specs.Primes.{rows-power, field_prime}
use Rattle.circuit.specs.Circuit.{lent_constraints, lent_public}
use Rattle.circuit.specs.Buffers.{f_length, quotient_length, t_start}
use Rattle.protocol.specs.Protocol.{quotient, prepared}
use Rattle.protocol.specs.Quotients.{quotient_sees}
use Rattle.quotients.specs.Lengths.{length-point_f}
use Rattle.prover.specs.Buffers.{lent_f}
use Rattle.prover.proofs.Fits.{filling_fits, rest_long}
use Rattle.prover.proofs.lay_t.Goals as goal

pub divide-requires : goal.divide-requires
divide-requires c =
    let R = c.requires.0 in
    let A = c.args.domain.now.admissible in
    let T = c.args.transcript.now in
    let fits : c.f_length-end.result ≤ length c.fill_f.new.scratch = omega (arith, c.fill_f.auto.scratch, c.f_length-end.ensures, filling_fits R) in
    let rest = ap (λ (i : ℕ). length (take (length T - i) (drop i T))) c.t_start-at.ensures ∙ rest_long A _ T c.requires.1 in (
      omega (arith, (field_prime _ A.one_of_three).two),
      omega (arith, (rows-power _ _ A.rows).least),
      length-take-le _ _ fits ∙ c.f_length-end.ensures ∙ ap (λ (m : ℕ). c.args.domain.now.n + m) (sym rest),
    )

pub returns : goal.returns
unfolding quotient
returns c =
    let a = c.args in
    let d = a.domain.now in
    let T = a.transcript.now in
    let g = a.challenges.now in
    let f = take c.f_length-end.result c.fill_f.new.scratch in
    let least = (rows-power _ _ d.admissible.rows).least in
    let front : take c.t_start-at.result T ≡ take (t_start a.e d.n) T = ap (λ (i : ℕ). take i T) c.t_start-at.ensures in
    let rest : length (take (length T - c.t_start-at.result) (drop c.t_start-at.result T)) ≡ quotient_length a.e d.n =
    ap (λ (i : ℕ). length (take (length T - i) (drop i T))) c.t_start-at.ensures ∙ rest_long d.admissible _ T c.requires.1
    in
    rest_put c.t_start-at.result T c.divide.new.t
    ∙ ap₂ (λ (i l : List ℕ). i ++ l) front
    (c.divide.ensures
    ∙ ap (λ (m : ℕ). reduced d.p m (quotient_vanishing d.n m f)) rest
    ∙ quotient_sees a.e d.p d.n f _ (omega (arith, least))
    (length-point_f a.e d.p d.n (prepared d.p d.n (lent_constraints d.n a.selectors.now a.labels.now)) (lent_public a.publics.now) (take (t_start a.e d.n) T)
    (get_or g 0 0)
    (get_or g 1 0)
    (get_or g 2 0)
    least)
    (ap (λ (i : ℕ). take i c.fill_f.new.scratch) c.f_length-end.ensures
    ∙ c.fill_f.ensures
    ∙ ap (λ (l : List ℕ). reduced d.p (f_length a.e d.n) (lent_f a.e d.p d.n a.selectors.now a.labels.now a.publics.now l g)) front))
