-- The theorems that specs/Worked lists, with their proofs.
-- Assumes nothing.
use Rattle.std.specs.Prelude.{◌≡◌, refl, ◌≢◌, Bool, true, false, not, ℕ, ◌*◌, ◌%◌, eqb}
use Rattle.std.proofs.Common.{◌∙◌, arith, eqb-true}
use Rattle.std.specs.Int.Count.{ones}
use Rattle.algebra.specs.Lists.{tab, gathered, All, occurs, different}
use Rattle.algebra.specs.Modular.{pow_f, first, inverse}
use Rattle.algebra.specs.Polynomial.{quotient_vanishing, reduced}
use Rattle.field.specs.Fields.{is_field, is_current, is_rows, greatest_rows, generator, root, point, multiplier, tag}
use Rattle.transform.specs.Transform.{interpolation}
use Rattle.transform.specs.Parts.{laid}
use Rattle.circuit.specs.Circuit.{lent_by, by_rows, permutation, gate}
use Rattle.protocol.specs.Protocol.{running_z, row_n, row_d, poly_n, poly_d, poly_l, gate_part, step_part, start_part, poly_f, quotient, prepared, blinded, RowVerdict, pass, fails, start_identity, step_identity, rows_from, row_verdict, point_verdict, broken_gate, broken_copy, zero_factor, tagged, lost_gammas, lost_pairs}
use Rattle.protocol.specs.Worked.{circuit, publics, row_is5-7-12, ◌&◌, table, Worked}

right : All (λ r. r.is ≡ r.should) table
unfolding is_field is_current is_rows greatest_rows ones tab gathered occurs different pow_f first inverse quotient_vanishing reduced blinded generator root point multiplier tag interpolation lent_by by_rows permutation gate row_n row_d running_z poly_n poly_d poly_l gate_part step_part start_part poly_f quotient laid prepared rows_from point_verdict broken_gate broken_copy zero_factor tagged lost_gammas lost_pairs
right = refl & refl & refl & refl & refl & refl & refl & refl & refl & refl & refl & refl & refl & refl & refl & refl & refl & refl & refl & refl & refl & refl & refl & refl & refl & refl & refl & refl & refl & refl & refl & refl & refl & refl & refl & refl & refl & refl & refl & tt

-- N is 6, 15 and D is 15, 0: the two steps ask for z(1) × 15 to be 6, and to be 0
abbrev by_tests : Bool → Bool → Bool → RowVerdict
by_tests start step0 step1 =
    elim (not start) [
      | true ↦ fails start_identity 0
      | false ↦ elim step0 [ false ↦ fails step_identity 0 | true ↦ elim step1 [ false ↦ fails step_identity 1 | true ↦ pass ] ]
    ]

no_z : (z : ℕ → ℕ) → row_verdict 17 2 circuit publics row_is5-7-12 z 1 1 ≢ pass
unfolding tab pow_f first inverse generator root point multiplier tag lent_by by_rows permutation gate row_n row_d rows_from
no_z z e = go (eqb (z 0) 1) (eqb (z 0 * 6 % 17) (z 1 * 15 % 17)) (eqb (z 1 * 15 % 17) (z 0 * 0 % 17)) refl refl refl e
  where
    go : (start step0 step1 : Bool) → eqb (z 0) 1 ≡ start → eqb (z 0 * 6 % 17) (z 1 * 15 % 17) ≡ step0 → eqb (z 1 * 15 % 17) (z 0 * 0 % 17) ≡ step1
        → by_tests start step0 step1 ≢ pass
    go true true true u v w s =
        let e : z 0 * 6 % 17 ≡ z 0 * 0 % 17 = eqb-true (z 0 * 6 % 17) (z 1 * 15 % 17) v ∙ eqb-true (z 1 * 15 % 17) (z 0 * 0 % 17) w in
        let six : ◌≡◌ {A = ℕ} 6 0 = rw (eqb-true (z 0) 1 u) at e in
        omega arith
    go true true false u v w s = let n : ◌≡◌ {A = ℕ} 0 1 = cc in omega arith
    go true false c u v w s = let n : ◌≡◌ {A = ℕ} 0 1 = cc in omega arith
    go false b c u v w s = let n : ◌≡◌ {A = ℕ} 0 1 = cc in omega arith

pub worked : Worked
worked = record { cases = right; no_z = no_z }
