-- The numbers of coefficients of F and of its parts.
--
-- Short d f                          f has at most d coefficients
-- short_add, short_scale, short_mul, short_dilate   of a sum, a multiple, a product, a dilation
-- short_in                           a larger bound
-- short_gate, short_step, short_start   of the three parts of F
-- short_F                            F has at most 3a + b + 1 coefficients, for wires of a + 1 and z of b + 1
-- length-F                           F of constraints has at most 3a + b + 1 coefficients, for wires of a + 1 and z of b + 1
-- length-F-rows                      at most as many as t has and n more, for wires and z of the lengths that they have in a transcript
--
-- The prepared polynomials, L and the polynomial of the public inputs have at most n = r + 1 coefficients, and the wires may have more.
-- Assumes nothing.
use Rattle.std.specs.Prelude.{◌≡◌, List, [], ◌∷◌, ℕ, zero, suc, ◌+◌, ◌*◌, ◌-◌, ◌≤◌, ◌<◌, length, replicate}
use Rattle.std.proofs.Math.Option.{Option, none, some}
use native.Mathlib.Omega.{arith}
use Rattle.std.proofs.lemmas.List.{length-replicate}
use Rattle.algebra.specs.Modular.{inverse}
use Rattle.algebra.specs.Polynomial.{add_p, scale_p, mul_p, dilate}
use Rattle.algebra.specs.PolynomialLaws.{length-add, length_scale, length-mul, length-dilate}
use Rattle.field.specs.Fields.{root, multiplier}
use Rattle.transform.specs.Transform.{interpolation}
use Rattle.transform.specs.Interpolation.{interpolation_most}
use Rattle.circuit.specs.Circuit.{Constraints}
use Rattle.circuit.specs.Buffers.{prepared_count, wired_number, wire_length, z_length, f_length}
use Rattle.protocol.specs.Protocol.{f_of, ◌⊕◌, poly_n, poly_d, poly_l, gate_part, step_part, start_part, poly_f, prepared_poly}

pub record Short (d : ℕ) (f : List ℕ) : Type 0 where
  pub short : length f ≤ d

pub short_in : {d : ℕ} {f : List ℕ} (e : ℕ) → Short d f → d ≤ e → Short e f
short_in e a h = record { short = omega (arith, a.short) }

pub short_add : {d : ℕ} {f g : List ℕ} → Short d f → Short d g → Short d (add_p f g)
short_add {d} {f} {g} a b = record { short = omega (arith, length-add f g, a.short, b.short) }

pub short_scale : {d : ℕ} {f : List ℕ} (c : ℕ) → Short d f → Short d (scale_p c f)
short_scale {d} {f} c a = record { short = omega (arith, length_scale c f, a.short) }

pub short_mul : {a b : ℕ} {f g : List ℕ} → Short (suc a) f → Short (suc b) g → Short (suc (a + b)) (mul_p f g)
short_mul {a} {b} {f} {g} h k = record { short = omega (arith, length-mul f g, h.short, k.short) }

pub short_dilate : {d : ℕ} {f : List ℕ} (w : ℕ) → Short d f → Short d (dilate w f)
short_dilate {d} {f} w a = record { short = omega (arith, length-dilate w f, a.short) }

-- L, o being the inverse of n
short_L : (r : ℕ) (o : Option ℕ) → Short (suc r) (elim o [ none ↦ [] | some c ↦ replicate (suc r) c ])
short_L r none = record { short = omega arith }
short_L r (some c) = record { short = omega (arith, length-replicate (suc r) c) }

module _ (p r a b : ℕ) (some : 1 ≤ a) (more : r ≤ a) (pre wire : ℕ → List ℕ) (hp : (s : ℕ) → s < prepared_count → Short (suc r) (pre s))
    (hw : (c : ℕ) → c < 3 → Short (suc a) (wire c)) where
  pub short_gate : (x : List ℕ) → Short (suc r) x → Short (suc (3 * a)) (gate_part p pre wire x)
  unfolding gate_part
  short_gate x hx =
      short_add
      (short_add
      (short_add (short_add (short_add (one 0 0 (omega arith) (omega arith)) (one 1 1 (omega arith) (omega arith))) (one 2 2 (omega arith) (omega arith)))
      (short_in _ (short_mul (short_mul (hp 3 (omega arith)) (hw 0 (omega arith))) (hw 1 (omega arith))) (omega arith)))
      (short_in _ (hp 4 (omega arith)) (omega arith)))
      (short_scale _ (short_in _ hx (omega arith)))
    where
      one : (s c : ℕ) → s < prepared_count → c < 3 → Short (suc (3 * a)) (mul_p (pre s) (wire c))
      one s c h l = short_in _ (short_mul (hp s h) (hw c l)) (omega arith)

  module _ (z : List ℕ) (hz : Short (suc b) z) where
    pub short_step : (beta gamma : ℕ) → Short (suc (3 * a + b)) (step_part p (suc r) pre wire z beta gamma)
    unfolding step_part poly_n poly_d
    short_step beta gamma =
        short_add
        (short_in _ (short_mul hz (short_mul (short_mul (n 0 (omega arith)) (n 1 (omega arith))) (n 2 (omega arith)))) (omega arith))
        (short_scale _
        (short_in _ (short_mul (short_dilate (root p (suc r)) hz) (short_mul (short_mul (d 0 (omega arith)) (d 1 (omega arith))) (d 2 (omega arith)))) (omega arith)))
      where
        n : (c : ℕ) → c < 3 → Short (suc a) (wire c ⊕ (gamma ∷ beta * multiplier p c ∷ []))
        n c l = short_add (hw c l) record { short = omega arith }

        d : (c : ℕ) → c < 3 → Short (suc a) (wire c ⊕ scale_p beta (pre (wired_number + c)) ⊕ (gamma ∷ []))
        d c l = short_add (short_add (hw c l) (short_scale beta (short_in _ (hp (wired_number + c) (omega arith)) (omega arith)))) record { short = omega arith }

    pub short_start : Short (suc (3 * a + b)) (start_part p (suc r) z)
    unfolding start_part poly_l
    short_start =
        short_in _
        (short_mul {a = b} {b = r} (short_add hz record { short = omega arith }) (short_L r (inverse p (suc r))))
        (omega arith)

    pub short_F : (x : List ℕ) → Short (suc r) x → (beta gamma alpha : ℕ) → Short (suc (3 * a + b)) (poly_f p (suc r) pre wire x z beta gamma alpha)
    unfolding poly_f
    short_F x hx beta gamma alpha =
        short_add
        (short_add (short_in _ (short_gate x hx) (omega arith)) (short_scale alpha (short_step beta gamma)))
        (short_scale (alpha * alpha) short_start)

-- F OF CONSTRAINTS

interpolation_short : (p n : ℕ) (v : ℕ → ℕ) → Short n (interpolation p n v)
interpolation_short p n v = record { short = interpolation_most p n v }

pub length-F : (p n a b : ℕ) (C : Constraints) (x : ℕ → ℕ) (wire : ℕ → List ℕ) (z : List ℕ) → 2 ≤ n → n ≤ suc a
    → ((c : ℕ) → c < 3 → length (wire c) ≤ suc a) → length z ≤ suc b
    → (beta gamma alpha : ℕ) → length (f_of p n C x wire z beta gamma alpha) ≤ suc (3 * a + b)
length-F p zero a b C x wire z two more lw lz beta gamma alpha = absurd (omega arith)
length-F p (suc r) a b C x wire z two more lw lz beta gamma alpha =
    (short_F p r a b (omega arith) (omega arith) (prepared_poly p (suc r) C) wire (λ s l. interpolation_short p (suc r) _) (λ c l. record { short = lw c l })
    z (record { short = lz }) (interpolation p (suc r) x) (interpolation_short p (suc r) x) beta gamma alpha).short

pub length-F-rows : (e p n : ℕ) (C : Constraints) (x : ℕ → ℕ) (wire : ℕ → List ℕ) (z : List ℕ) → 2 ≤ n
    → ((c : ℕ) → c < 3 → length (wire c) ≡ wire_length e n) → length z ≡ z_length e n
    → (beta gamma alpha : ℕ) → length (f_of p n C x wire z beta gamma alpha) ≤ f_length e n
length-F-rows e p n C x wire z two lw lz beta gamma alpha =
    omega (
      arith,
      length-F p n (wire_length e n - 1) (z_length e n - 1) C x wire z two (omega arith) (λ c h. omega (arith, lw c h)) (omega arith) beta gamma alpha,
    )
