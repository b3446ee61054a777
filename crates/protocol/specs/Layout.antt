-- The layout of the prepared circuit and of the transcript: their parts, and that they are elements.
--
-- prepared_part_lem       part s of the prepared circuit is polynomial s, for each of its polynomials
-- prepared_elements       the prepared circuit has the length that is due, and is elements
-- wire_part_lem, z_part_lem, t_part_lem   the parts of a transcript
-- proved_elements         so it is with the transcript that the prover lays
-- lent_F                  F of the prepared circuit and of a transcript is F of their polynomials
--
-- Assumes nothing.
use Rattle.std.specs.Prelude.{◌≡◌, refl, ℕ, zero, suc, ◌+◌, ◌*◌, ◌≤◌, ◌<◌, length, take, drop}
use Rattle.std.proofs.Math.Path.{sym}
use Rattle.std.proofs.Common.{ap, ◌∙◌, subst, zero-mul, arith, take_at, drop_at, drop-drop}
use mathlib.Core.List.{List, [], ◌++◌, append_assoc, append-nil}
use Rattle.std.proofs.Math.Option.{Option, none, some, map, some-injective, none-ne-some}
use Rattle.algebra.specs.Polynomial.{coef, Elements}
use Rattle.algebra.specs.PolynomialLaws.{append_elements, reduced_elements}
use Rattle.field.specs.Domain.{Domain}
use Rattle.transform.specs.Transform.{interpolation}
use Rattle.transform.specs.Interpolation.{interpolation_elements}
use Rattle.transform.specs.Parts.{laid}
use Rattle.circuit.specs.Circuit.{Constraints}
use Rattle.circuit.specs.Buffers.{prepared_count, prepared_length, wire_length, z_length, quotient_length, transcript_length, z_start, prepared_part, wire_part, z_part, t_part}
use Rattle.protocol.specs.Blinding.{wires_elements, z_elements}
use Rattle.protocol.specs.Protocol.{z_through, f_of, poly_n, poly_d, gate_part, step_part, poly_f, quotient, prepared_poly, prepared, z_rows, wires_of, t_of, transcript, proved, point_f}

-- LISTS END TO END

-- f 0, f 1, .., f (c - 1), and then r
abbrev laid_before : (ℕ → List ℕ) → ℕ → List ℕ → List ℕ
laid_before f zero r = r
laid_before f (suc c) r = f 0 ++ laid_before (λ s. f (suc s)) c r

drop_one : (n : ℕ) (a r : List ℕ) (s : ℕ) → length a ≡ n → drop (suc s * n) (a ++ r) ≡ drop (s * n) r
drop_one n a r s h =
    let e : suc s * n ≡ n + s * n = omega arith in
    ap (λ (m : ℕ). drop m (a ++ r)) e ∙ sym (drop-drop (s * n) n (a ++ r)) ∙ ap (drop (s * n)) (drop_at a r n h)

before_rest : (n : ℕ) (f : ℕ → List ℕ) (c : ℕ) (r : List ℕ) → ((s : ℕ) → s < c → length (f s) ≡ n) → drop (c * n) (laid_before f c r) ≡ r
before_rest n f zero r h = ap (λ (m : ℕ). drop m r) (zero-mul n)
before_rest n f (suc c) r h =
    drop_one n (f 0) (laid_before (λ s. f (suc s)) c r) c (h 0 (omega arith))
    ∙ before_rest n (λ s. f (suc s)) c r (λ s l. h (suc s) (omega arith))

before_part : (n : ℕ) (f : ℕ → List ℕ) (c : ℕ) (r : List ℕ) → ((s : ℕ) → s < c → length (f s) ≡ n) → (s : ℕ) → s < c
    → take n (drop (s * n) (laid_before f c r)) ≡ f s
before_part n f zero r h s l = absurd (omega arith)
before_part n f (suc c) r h zero l = rw (zero-mul n) (take_at (f 0) (laid_before (λ s. f (suc s)) c r) n (h 0 (omega arith)))
before_part n f (suc c) r h (suc s) l =
    ap (take n) (drop_one n (f 0) (laid_before (λ s. f (suc s)) c r) s (h 0 (omega arith)))
    ∙ before_part n (λ s. f (suc s)) c r (λ s l. h (suc s) (omega arith)) s (omega arith)

before_elements : {p n m : ℕ} (f : ℕ → List ℕ) (c : ℕ) {r : List ℕ} → ((s : ℕ) → Elements p n (f s)) → Elements p m r → Elements p (c * n + m) (laid_before f c r)
before_elements {p} {n} {m} f zero {r} h e = subst (λ (k : ℕ). Elements p k r) (omega arith) e
before_elements {p} {n} {m} f (suc c) {r} h e =
    subst (λ (k : ℕ). Elements p k (f 0 ++ laid_before (λ s. f (suc s)) c r)) (omega arith)
    (append_elements (h 0) (before_elements (λ s. f (suc s)) c (λ s. h (suc s)) e))

laid_before_lem : (f : ℕ → List ℕ) (c : ℕ) (r : List ℕ) → laid f c ++ r ≡ laid_before f c r
unfolding laid
laid_before_lem f zero r = refl
laid_before_lem f (suc c) r = append_assoc (laid f c) (f c) r ∙ laid_before_lem f c (f c ++ r) ∙ one_more f c
  where
    one_more : (g : ℕ → List ℕ) (k : ℕ) → laid_before g k (g k ++ r) ≡ laid_before g (suc k) r
    one_more g zero = refl
    one_more g (suc k) = ap (λ l. g 0 ++ l) (one_more (λ s. g (suc s)) k)

-- THE PREPARED CIRCUIT

module _ {p n : ℕ} (D : Domain p n) (C : Constraints) where
  prepared_before : prepared p n C ≡ laid_before (prepared_poly p n C) prepared_count []
  unfolding prepared
  prepared_before = sym (append-nil (laid (prepared_poly p n C) prepared_count)) ∙ laid_before_lem (prepared_poly p n C) prepared_count []

  pub prepared_part_lem : (s : ℕ) → s < prepared_count → prepared_part n s (prepared p n C) ≡ prepared_poly p n C s
  prepared_part_lem s l =
      ap (prepared_part n s) prepared_before
      ∙ before_part n (prepared_poly p n C) prepared_count [] (λ s l. (interpolation_elements D _).long) s l

  pub prepared_elements : Elements p (prepared_length n) (prepared p n C)
  prepared_elements =
      subst (Elements p (prepared_length n)) (sym prepared_before)
      (subst (λ (k : ℕ). Elements p k (laid_before (prepared_poly p n C) prepared_count [])) (omega arith)
      (before_elements (prepared_poly p n C) prepared_count (λ s. interpolation_elements D _) record { long = refl; below = tt }))

-- THE TRANSCRIPT

module _ (e n : ℕ) (wire : ℕ → List ℕ) (z t : List ℕ) (lw : (c : ℕ) → c < 3 → length (wire c) ≡ wire_length e n) where
  pub wire_part_lem : (c : ℕ) → c < 3 → wire_part e n c (transcript wire z t) ≡ wire c
  wire_part_lem c l = before_part (wire_length e n) wire 3 (z ++ t) lw c l

  pub z_part_lem : length z ≡ z_length e n → z_part e n (transcript wire z t) ≡ z
  z_part_lem h = ap (take (z_length e n)) (before_rest (wire_length e n) wire 3 (z ++ t) lw) ∙ take_at z t (z_length e n) h

  pub t_part_lem : length z ≡ z_length e n → t_part e n (transcript wire z t) ≡ t
  t_part_lem h =
      sym (drop-drop (z_length e n) (z_start e n) (transcript wire z t))
      ∙ ap (drop (z_length e n)) (before_rest (wire_length e n) wire 3 (z ++ t) lw) ∙ drop_at z t (z_length e n) h

pub proved_elements : {p n : ℕ} → Domain p n → (e : ℕ) (C : Constraints) (x v : ℕ → ℕ) (b : List ℕ) (beta gamma alpha : ℕ) (T : List ℕ) → 1 ≤ n
    → proved e p n C x v b beta gamma alpha ≡ some T → Elements p (transcript_length e n) T
unfolding quotient
proved_elements {p} {n} D e C x v b beta gamma alpha T h = go (z_rows p n C v beta gamma)
  where
    with : List ℕ → List ℕ
    with z = transcript (wires_of e p n v b) z (t_of e p n C x v b z beta gamma alpha)

    whole : (z : List ℕ) → Elements p (z_length e n) z → Elements p (transcript_length e n) (with z)
    whole z u =
        let count : z_start e n + (z_length e n + quotient_length e n) ≡ transcript_length e n = omega arith in
        subst (λ (m : ℕ). Elements p m (with z)) count
        (before_elements (wires_of e p n v b) 3 (wires_elements D e b v)
        (append_elements u (reduced_elements (quotient_length e n) _ (omega (arith, D.prime.two)))))

    go : (o : Option (List ℕ)) → map with (map (z_through e p n b) o) ≡ some T
        → Elements p (transcript_length e n) T
    go none is = absurd (none-ne-some T is)
    go (some rows) is = subst (Elements p (transcript_length e n)) (some-injective _ T is) (whole _ (z_elements D e b (coef rows)))

-- F AS IT IS LENT

-- F sees the prepared polynomials and the three wires
F_ext : (p n : ℕ) (pre pre' wire wire' : ℕ → List ℕ) (x z : List ℕ) (beta gamma alpha : ℕ)
    → ((s : ℕ) → s < prepared_count → pre s ≡ pre' s) → ((c : ℕ) → c < 3 → wire c ≡ wire' c)
    → poly_f p n pre wire x z beta gamma alpha ≡ poly_f p n pre' wire' x z beta gamma alpha
unfolding poly_f gate_part step_part poly_n poly_d
F_ext p n pre pre' wire wire' x z beta gamma alpha h k =
    rw (h 0 (omega arith), h 1 (omega arith), h 2 (omega arith), h 3 (omega arith), h 4 (omega arith), h 5 (omega arith), h 6 (omega arith), h 7 (omega arith), k 0 (omega arith), k 1 (omega arith), k 2 (omega arith))

pub lent_F : {p n : ℕ} → Domain p n → (e : ℕ) (C : Constraints) (x : ℕ → ℕ) (wire : ℕ → List ℕ) (z t : List ℕ) → ((c : ℕ) → c < 3 → length (wire c) ≡ wire_length e n) → length z ≡ z_length e n
    → (beta gamma alpha : ℕ)
    → point_f e p n (prepared p n C) x (transcript wire z t) beta gamma alpha
    ≡ f_of p n C x wire z beta gamma alpha
lent_F {p} {n} D e C x wire z t lw lz beta gamma alpha =
    F_ext p n _ (prepared_poly p n C) _ wire (interpolation p n x) _ beta gamma alpha (prepared_part_lem D C) (wire_part_lem e n wire z t lw)
    ∙ ap (λ (y : List ℕ). f_of p n C x wire y beta gamma alpha) (z_part_lem e n wire z t lw lz)
