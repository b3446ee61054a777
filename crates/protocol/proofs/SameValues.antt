-- The definitions see the wire values of the 3n positions only: where two witnesses agree there, all that is made of them is the same.
--
-- lost_ext         how many gammas a beta loses
-- reasons_ext      9, 10 and 11
-- proved_ext       the transcript that the prover lays
-- verdict_ext      the verdict of the row check, which sees the n row values of z only
--
-- Assumes nothing.
use Rattle.std.specs.Prelude.{◌≡◌, Bool, true, false, ◌&&◌, List}
use Rattle.std.proofs.Math.Path.{refl, ap, ap₂}
use Rattle.std.proofs.Common.{◌∙◌, mod-lt, arith}
use Rattle.std.proofs.Math.Bool.{not}
use Rattle.std.proofs.Math.Option.{Option, none, some, map}
use Prim.Native.Nat.{ℕ, zero, suc, ◌+◌, ◌*◌, ◌%◌, ◌≤◌, ◌<◌}
use Rattle.std.proofs.Math.Dec.{eqb, ltb}
use Rattle.algebra.specs.Ends.{run_room}
use Rattle.algebra.specs.Lists.{different}
use Rattle.algebra.specs.Search.{first_ext}
use Rattle.algebra.specs.Tables.{tab_ext, gathered_ext}
use Rattle.field.specs.Fields.{tag}
use Rattle.transform.specs.Transform.{interpolation}
use Rattle.transform.specs.Interpolation.{interpolation_ext}
use Rattle.circuit.specs.Circuit.{Constraints, position, gate}
use Rattle.protocol.specs.Protocol.{row_n, row_d, z_rows, poly_n, poly_d, gate_part, step_part, poly_f, f_of, wire_blinder, blinded, z_through, wires_of, z_of, t_of, transcript, proved, RowVerdict, fails, gate_identity, start_identity, step_identity, row_at, rows_from, row_verdict, broken_gate, broken_copy, zero_factor, witness_reasons, tagged, lost_gammas}
use Rattle.protocol.specs.GrandProduct.{running_ext}

-- the verdict of a row by its three tests
abbrev judged : (holds starts steps : Bool) (i : ℕ) (later : RowVerdict) → RowVerdict
judged holds starts steps i later =
    elim holds [
      | false ↦ fails gate_identity i
      | true ↦ elim starts [ true ↦ fails start_identity i | false ↦ elim steps [ false ↦ fails step_identity i | true ↦ later ] ]
    ]

by_tests_lem : (i : ℕ) {a a' b b' c c' : Bool} {later later' : RowVerdict} → a ≡ a' → b ≡ b' → c ≡ c' → later ≡ later' → judged a b c i later ≡ judged a' b' c' i later'
by_tests_lem i p q r e = cc

mapped : (f g : List ℕ → List ℕ) → ((z : List ℕ) → f z ≡ g z) → (o : Option (List ℕ)) → map f o ≡ map g o
mapped f g h none = refl
mapped f g h (some z) = ap {B = Option (List ℕ)} some (h z)

module _ (p n : ℕ) (v v' : ℕ → ℕ) (same : (k : ℕ) → k < 3 * n → v k ≡ v' k) where
  pub lost_ext : (beta : ℕ) → lost_gammas p n v beta ≡ lost_gammas p n v' beta
  unfolding lost_gammas tagged
  lost_ext beta = ap different (tab_ext _ _ (3 * n) (λ k h. ap (λ (a : ℕ). (a + beta * tag p n k) % p) (same k h)))

  wire : (c : ℕ) → c < 3 → interpolation p n (λ i. v (position n c i)) ≡ interpolation p n (λ i. v' (position n c i))
  wire c g = interpolation_ext p n _ _ (λ i h. same (position n c i) (omega (arith, run_room c 3 n g)))

  over : (beta gamma i : ℕ) → i < n → row_n p n v beta gamma i ≡ row_n p n v' beta gamma i
  unfolding row_n
  over beta gamma i h = cc (same (position n 0 i) (omega arith), same (position n 1 i) (omega arith), same (position n 2 i) (omega arith))

  module _ (C : Constraints) where
    under : (beta gamma i : ℕ) → i < n → row_d p n C v beta gamma i ≡ row_d p n C v' beta gamma i
    unfolding row_d
    under beta gamma i h = cc (same (position n 0 i) (omega arith), same (position n 1 i) (omega arith), same (position n 2 i) (omega arith))

    broken_copy_lem : broken_copy n C v ≡ broken_copy n C v'
    unfolding broken_copy
    broken_copy_lem =
        first_ext _ _ (3 * n)
        (λ k h. ap (λ (j : ℕ). ltb j k) (first_ext _ _ k (λ j l. ap₂ (λ (a b : ℕ). eqb (C.label j) (C.label k) && not (eqb a b)) (same j (omega arith)) (same k h))))

    zero_factor_lem : (beta gamma : ℕ) → zero_factor p n C v beta gamma ≡ zero_factor p n C v' beta gamma
    unfolding zero_factor
    zero_factor_lem beta gamma =
        first_ext _ _ n
        (λ i h. rw (same (position n 0 i) (omega arith), same (position n 1 i) (omega arith), same (position n 2 i) (omega arith)))

    z_rows_lem : (beta gamma : ℕ) → z_rows p n C v beta gamma ≡ z_rows p n C v' beta gamma
    z_rows_lem beta gamma = gathered_ext _ _ n (λ i h. running_ext p n _ _ _ _ (over beta gamma) (under beta gamma) i (omega arith))

    module _ (x : ℕ → ℕ) where
      gated : (i : ℕ) → i < n → gate p n C x v i ≡ gate p n C x v' i
      unfolding gate
      gated i h = cc (same (position n 0 i) (omega arith), same (position n 1 i) (omega arith), same (position n 2 i) (omega arith))

      broken_gate_lem : broken_gate p n C x v ≡ broken_gate p n C x v'
      unfolding broken_gate
      broken_gate_lem = first_ext _ _ n (λ i h. ap (λ (g : ℕ). not (eqb g 0)) (gated i h))

      pub reasons_ext : (beta gamma : ℕ) → witness_reasons p n C x v beta gamma ≡ witness_reasons p n C x v' beta gamma
      reasons_ext beta gamma = rw (broken_gate_lem, broken_copy_lem, zero_factor_lem beta gamma)

      module _ (e : ℕ) (b : List ℕ) where
        wires : (c : ℕ) → c < 3 → wires_of e p n v b c ≡ wires_of e p n v' b c
        wires c h = ap (blinded p n (wire_blinder e b c)) (wire c h)

        whole : (z : List ℕ) (beta gamma alpha : ℕ) → f_of p n C x (wires_of e p n v b) z beta gamma alpha ≡ f_of p n C x (wires_of e p n v' b) z beta gamma alpha
        unfolding poly_f gate_part step_part poly_n poly_d
        whole z beta gamma alpha = rw (wires 0 (omega arith), wires 1 (omega arith), wires 2 (omega arith))

        pub proved_ext : (beta gamma alpha : ℕ) → proved e p n C x v b beta gamma alpha ≡ proved e p n C x v' b beta gamma alpha
        proved_ext beta gamma alpha =
            mapped _ _ laid (z_of e p n C v b beta gamma)
            ∙ ap (λ rows. map (λ z. transcript (wires_of e p n v' b) z (t_of e p n C x v' b z beta gamma alpha)) (map (z_through e p n b) rows)) (z_rows_lem beta gamma)
          where
            laid : (z : List ℕ) → transcript (wires_of e p n v b) z (t_of e p n C x v b z beta gamma alpha) ≡ transcript (wires_of e p n v' b) z (t_of e p n C x v' b z beta gamma alpha)
            laid z = rw (wires 0 (omega arith), wires 1 (omega arith), wires 2 (omega arith), whole z beta gamma alpha)

      module _ (beta gamma : ℕ) (z z' : ℕ → ℕ) (same_z : (i : ℕ) → i < n → z i ≡ z' i) where
        row : (i : ℕ) → i < n → (later later' : RowVerdict) → later ≡ later' → row_at p n C x v z beta gamma i later ≡ row_at p n C x v' z' beta gamma i later'
        row i h later later' e =
            let gates : eqb (gate p n C x v i) 0 ≡ eqb (gate p n C x v' i) 0 = cc (gated i h) in
            let starts : (eqb i 0 && not (eqb (z 0) 1)) ≡ (eqb i 0 && not (eqb (z' 0) 1)) = cc (same_z 0 (omega arith)) in
            let steps : eqb (z i * row_n p n v beta gamma i % p) (z (suc i % n) * row_d p n C v beta gamma i % p)
            ≡ eqb (z' i * row_n p n v' beta gamma i % p) (z' (suc i % n) * row_d p n C v' beta gamma i % p) =
            cc (same_z i h, same_z (suc i % n) (mod-lt (suc i) (omega arith)), over beta gamma i h, under beta gamma i h) in
            by_tests_lem i gates starts steps e

        rows_from_lem : (i count : ℕ) → i + count ≤ n → rows_from p n C x v z beta gamma i count ≡ rows_from p n C x v' z' beta gamma i count
        unfolding rows_from
        rows_from_lem i zero h = refl
        rows_from_lem i (suc count) h = row i (omega arith) _ _ (rows_from_lem (suc i) count (omega arith))

        pub verdict_ext : row_verdict p n C x v z beta gamma ≡ row_verdict p n C x v' z' beta gamma
        verdict_ext = rows_from_lem 0 n (omega arith)
