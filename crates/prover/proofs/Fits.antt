-- The parts that are lent fit into their buffers, and what the buffers are when they come back.
--
-- scratch_fits, filling_fits   the scratch of preparing, and F, fit into the scratch
-- prepared_fits         the prepared circuit fits into its array
-- rest_long             the words behind a, b, c and z are as many as t has
-- transcript_of_lem     a, b, c and z with the quotient behind them are the prover's transcript
--
-- Assumes nothing.
use mathlib.Core.Path.{◌≡◌, sym, ap, ◌∙◌}
use mathlib.Core.List.{List, ◌++◌, append_assoc}
use mathlib.Core.Option.{Option, none, some, map, some-injective, none-ne-some}
use Prim.Native.Nat.{ℕ, ◌-◌, ◌≤◌}
use native.Mathlib.Omega.{arith}
use lib.ListN.{length, get_or, take, drop, length-take, length-drop, length-append}
use lib.Seq.{take_at}
use Rattle.algebra.specs.Polynomial.{coef}
use Rattle.field.specs.Rooms.{rows_room}
use Rattle.field.specs.Fields.{Admissible}
use Rattle.field.specs.Primes.{rows-power}
use Rattle.field.specs.Domain.{Domain}
use Rattle.transform.specs.Transform.{interpolation, scratch_length}
use Rattle.circuit.specs.Circuit.{Constraints, lent_constraints, lent_public, lent_witness}
use Rattle.circuit.specs.Buffers.{prepared_length, z_length, quotient_length, f_length, transcript_length, t_start}
use Rattle.protocol.specs.Protocol.{quotient, z_rows, z_blinder, blinded, wires_of, t_of, transcript}
use Rattle.protocol.specs.Blinding.{wires_elements, z_elements}
use Rattle.laying.specs.Rows.{laid_rows}
use Rattle.prover.specs.Promises.{proved_from}
use Rattle.prover.specs.Buffers.{lent_f, Ready, laid-F}

module _ {e p n : ℕ} {selectors labels publics challenges scratch : List ℕ} (R : Ready e p n selectors labels publics challenges scratch) where
  pub scratch_fits : scratch_length n ≤ length scratch
  scratch_fits = omega (arith, R.scratch_long)

  pub filling_fits : f_length e n ≤ length scratch
  filling_fits = omega (arith, R.scratch_long)

module _ {p n : ℕ} (A : Admissible p n) where
  pub prepared_fits : (k : ℕ) (l : List ℕ) → k ≡ prepared_length n → prepared_length rows_room ≡ length l → k ≤ length l
  prepared_fits k l due is = omega (arith, (rows-power p n A.rows).small)

  pub rest_long : (e : ℕ) (laid : List ℕ) → length laid ≡ transcript_length e n
      → length (take (length laid - t_start e n) (drop (t_start e n) laid)) ≡ quotient_length e n
  rest_long e laid is =
      simp (length-take, length-drop) (omega (arith, (rows-power p n A.rows).least))

module _ {p n : ℕ} (D : Domain p n) (e : ℕ) (selectors labels witness publics challenges blinders first rest last : List ℕ) where
  abbrev C : Constraints
  C = lent_constraints n selectors labels

  abbrev v : ℕ → ℕ
  v = lent_witness n witness

  abbrev beta : ℕ
  beta = get_or challenges 0 0

  abbrev gamma : ℕ
  gamma = get_or challenges 1 0

  abbrev alpha : ℕ
  alpha = get_or challenges 2 0

  abbrev wire : ℕ → List ℕ
  wire = wires_of e p n v blinders

  -- a, b and c with z behind them; and with t of it behind them
  abbrev front : List ℕ → List ℕ
  front z = wire 0 ++ (wire 1 ++ (wire 2 ++ z))

  abbrev whole : List ℕ → List ℕ
  whole z = transcript wire z (t_of e p n C (lent_public publics) v blinders z beta gamma alpha)

  front_length : (z : List ℕ) → length z ≡ z_length e n → length (front z) ≡ t_start e n
  front_length z is =
      simp length-append
      (omega (arith, is, (wires_elements D e blinders v 0).long, (wires_elements D e blinders v 1).long, (wires_elements D e blinders v 2).long))

  pub transcript_of_lem : map (λ laid. laid ++ rest) (laid_rows e p n (lent_constraints n selectors labels) (lent_witness n witness) blinders (get_or challenges 0 0) (get_or challenges 1 0)) ≡ some first
      → last ≡ take (t_start e n) first ++ quotient e p n (lent_f e p n selectors labels publics (take (t_start e n) first) challenges)
      → proved_from e p n selectors labels witness publics challenges blinders ≡ some last
  transcript_of_lem is f = go (z_rows p n C v beta gamma) is
    where
      polynomial : List ℕ → List ℕ
      polynomial rows = blinded p n (z_blinder e blinders) (interpolation p n (coef rows))

      of : (z : List ℕ) → length z ≡ z_length e n → front z ++ rest ≡ first → whole z ≡ last
      of z lz h =
          let laid : take (t_start e n) first ≡ front z = ap (take (t_start e n)) (sym h) ∙ take_at (front z) rest (t_start e n) (front_length z lz) in
          sym
          (f
          ∙ ap (λ (l : List ℕ). l ++ quotient e p n (lent_f e p n selectors labels publics l challenges)) laid
          ∙ ap (λ (g : List ℕ). front z ++ quotient e p n g) (laid-F D e C (lent_public publics) v blinders z lz beta gamma alpha)
          ∙ simp append_assoc)

      go : (o : Option (List ℕ)) → map (λ laid. laid ++ rest) (map front (map polynomial o)) ≡ some first
          → map whole (map polynomial o) ≡ some last
      go none h = absurd (none-ne-some first h)
      go (some rows) h =
          ap {B = Option (List ℕ)} some (of (polynomial rows) (z_elements D e blinders (coef rows)).long (some-injective _ first h))
