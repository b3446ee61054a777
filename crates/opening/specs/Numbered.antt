-- The polynomials that a list names: they are what the request by number hands back, and none has more coefficients than t.
--
-- any_rows_lem       an admissible number of rows is one that some prime has
-- handed             the part that `polynomial` hands back of buffers of the right lengths is the polynomial of the definitions
-- short_polynomial   a polynomial by number has at most as many coefficients as t
--
-- Assumes nothing.
use Rattle.std.specs.Prelude.{◌≡◌, refl, Bool, true, false, cond, ◌||◌, List, [], ℕ, ◌-◌, ◌≤◌, eqb, ltb, length, take, drop}
use Rattle.std.proofs.Common.{◌∙◌, arith, length-drop, take_all}
use Rattle.std.proofs.Math.Bool.{or-true}
use Rattle.std.specs.Borrow.{Bor}
use Rattle.field.specs.Fields.{is_rows, Admissible}
use Rattle.field.specs.Primes.{by_field, rows-power}
use Rattle.circuit.specs.Buffers.{wire_number, z_number, t_number, quotient_length, t_start, prepared_part, wire_part, z_part, t_part}
use Rattle.circuit.specs.Parts.{short_prepared, short_wire, short_z}
use Rattle.circuit.specs.Promises.{any_rows, Part, no_part, prepared_place, wire_place, z_place, t_place, polynomial_part, Hands}
use Rattle.protocol.specs.Numbered.{numbered}
use Rattle.pointcheck.specs.Buffers.{Readable}
use Rattle.opening.specs.Opening.{polynomial_of}

pub any_rows_lem : {p n : ℕ} → Admissible p n → any_rows n ≡ true
unfolding any_rows
any_rows_lem {p} {n} A =
    by_field (λ (p : ℕ). is_rows p n ≡ true → (is_rows 17 n || is_rows 97 n || is_rows 2013265921 n) ≡ true)
    (λ h. rw h)
    (λ h. rw (h, or-true (is_rows 17 n)))
    (λ h. rw h (or-true (is_rows 17 n || is_rows 97 n)))
    p
    A.one_of_three
    A.rows

-- the numbers of a part
abbrev numbers_of : Part → List ℕ
numbers_of P = take P.count (drop P.start P.buffer.now)

pub handed : {p : ℕ} (e n : ℕ) (pre lent r : Bor (List ℕ)) → Readable e p n pre.now lent.now → (k : ℕ) → Hands (polynomial_part n k pre lent) r
    → r.now ≡ polynomial_of e n pre.now lent.now k
unfolding polynomial_of
handed e n pre lent r R k H =
    (numbered e n R.blinded pre lent r k (any_rows_lem R.admissible) R.prepared_length_lem R.transcript_length_lem H).numbers
    ∙ go (ltb k wire_number) (ltb k z_number) (eqb k z_number) (eqb k t_number)
  where
    go : (a b c d : Bool)
        → numbers_of (cond a (prepared_place n k pre) (cond b (wire_place e n (k - wire_number) lent) (cond c (z_place e n lent) (cond d (t_place e n lent) (no_part lent)))))
        ≡ cond a (prepared_part n k pre.now) (cond b (wire_part e n (k - wire_number) lent.now) (cond c (z_part e n lent.now) (cond d (t_part e n lent.now) [])))
    go true b c d = refl
    go false true c d = refl
    go false false true d = refl
    go false false false true =
        take_all (quotient_length e n) (drop (t_start e n) lent.now) (omega (arith, length-drop (t_start e n) lent.now, R.transcript_length_lem))
    go false false false false = refl

pub short_polynomial : {e p n : ℕ} {prepared transcript : List ℕ} → Readable e p n prepared transcript → (k : ℕ)
    → length (polynomial_of e n prepared transcript k) ≤ quotient_length e n
unfolding polynomial_of
short_polynomial {e} {p} {n} {prepared} {transcript} R k = go (ltb k wire_number) (ltb k z_number) (eqb k z_number) (eqb k t_number)
  where
    two : 2 ≤ n
    two = (rows-power p n R.admissible.rows).least

    go : (a b c d : Bool)
        → length (cond a (prepared_part n k prepared) (cond b (wire_part e n (k - wire_number) transcript) (cond c (z_part e n transcript) (cond d (t_part e n transcript) [])))) ≤ quotient_length e n
    go true b c d = omega (arith, two, short_prepared n prepared k)
    go false true c d = omega (arith, two, short_wire e n transcript (k - wire_number))
    go false false true d = omega (arith, two, short_z e n transcript)
    go false false false true = omega (arith, length-drop (t_start e n) transcript, R.transcript_length_lem)
    go false false false false = omega arith
