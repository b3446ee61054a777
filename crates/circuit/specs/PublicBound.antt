-- The public inputs bind: what the public rows of a circuit say of a witness.
--
-- public_selectors_lem   the selectors of a public row: qL is 1, the others are 0
-- public_bound           a witness that satisfies a circuit has a(i) = x(i) in every row i below l, where both are elements
--
-- Assumes nothing.
use Rattle.std.specs.Prelude.{◌≡◌, true, ◌&&◌, ℕ, zero, suc, ◌<◌, eqb}
use Rattle.std.proofs.Math.Bool.{and-eq-true_iff}
use Rattle.std.proofs.Common.{arith, eqb-true}
use Rattle.algebra.specs.Congruence.{cong, ◌⨾◌, cong_0, cong_lt, cong_same}
use Rattle.circuit.specs.Circuit.{Constraints, Circuit, position, is_public, gate, Satisfies}

pub public_selectors_lem : (q_l q_r q_o q_m q_c : ℕ) → is_public q_l q_r q_o q_m q_c ≡ true → (q_l ≡ 1) × (q_r ≡ 0) × (q_o ≡ 0) × (q_m ≡ 0) × (q_c ≡ 0)
public_selectors_lem q_l q_r q_o q_m q_c e =
    let l = (and-eq-true_iff (eqb q_l 1) (eqb q_r 0 && (eqb q_o 0 && (eqb q_m 0 && eqb q_c 0)))).0 e in
    let r = (and-eq-true_iff (eqb q_r 0) (eqb q_o 0 && (eqb q_m 0 && eqb q_c 0))).0 l.1 in
    let o = (and-eq-true_iff (eqb q_o 0) (eqb q_m 0 && eqb q_c 0)).0 r.1 in
    let m = (and-eq-true_iff (eqb q_m 0) (eqb q_c 0)).0 o.1 in
    (eqb-true q_l 1 l.0, eqb-true q_r 0 r.0, eqb-true q_o 0 o.0, eqb-true q_m 0 m.0, eqb-true q_c 0 m.1)

pub public_bound : (p n l : ℕ) (C : Constraints) → Circuit p n l C → (x v : ℕ → ℕ) → Satisfies p n C x v
    → (i : ℕ) → i < l → x i < p → v (position n 0 i) < p → v (position n 0 i) ≡ x i
unfolding gate
public_bound zero n l C K x v S i h hx hv = absurd (omega arith)
public_bound (suc q) n l C K x v S i h hx hv =
    let s = public_selectors_lem (C.q_l i) (C.q_r i) (C.q_o i) (C.q_m i) (C.q_c i) (K.public_rows i h) in
    cong_lt hv hx (cong_same (cong (rw (s.0, s.1, s.2, s.3, s.4) (omega arith)) ⨾ cong_0 (S.gates i (omega (arith, K.publics_few)))))
