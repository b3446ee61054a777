-- The parts of a prepared circuit and of a transcript: they lie within their buffers, and have the lengths that are due.
--
-- transcript_long    a transcript has 7n - 3 + 18e numbers
-- f_long             F has 4n - 3 + 9e coefficients
-- opening_long       an opening polynomial has 3n - 4 + 9e coefficients, for n of 2 or more
-- blinded_most      the e of a lent transcript is 0 or 1
-- blinded_of         a transcript of the length that is due for e has this e
-- prepared_room      each polynomial of a prepared circuit ends within it
-- wire_room_lem      the wire of a column below 3 ends where z starts, or before
-- length-prepared, length-wire, length-z   the coefficients of a part
-- short_prepared, short_wire, short_z      they are no more, whatever the buffer
--
-- Assumes nothing.
use Rattle.std.specs.Prelude.{◌≡◌, Bool, true, false, cond, List, ℕ, zero, suc, ◌+◌, ◌*◌, ◌-◌, ◌≤◌, ◌<◌, eqb, length, drop}
use Rattle.std.proofs.Common.{ap, arith, length-take, length-drop, length-take-le, eq-eqb, ne_eqb}
use Rattle.algebra.specs.Ends.{run_room}
use Rattle.circuit.specs.Buffers.{prepared_count, prepared_length, f_length, transcript_length, opening_length, wire_length, z_length, blinded_by, prepared_start, wire_start, z_start, t_start, prepared_part, wire_part, z_part}

pub transcript_long : (e n : ℕ) → 1 ≤ n → transcript_length e n ≡ 7 * n - 3 + 18 * e
transcript_long e n h = omega arith

pub f_long : (e n : ℕ) → 1 ≤ n → f_length e n ≡ 4 * n - 3 + 9 * e
f_long e n h = omega arith

pub opening_long : (e n : ℕ) → 2 ≤ n → opening_length e n ≡ 3 * n - 4 + 9 * e
opening_long e n h = omega arith

pub blinded_most : (n : ℕ) (l : List ℕ) → blinded_by n l ≤ 1
unfolding blinded_by
blinded_most n l = go (eqb (length l) (transcript_length 1 n))
  where
    go : (b : Bool) → cond b 1 0 ≤ 1
    go true = omega arith
    go false = omega arith

pub blinded_of : (e n : ℕ) (l : List ℕ) → e ≤ 1 → length l ≡ transcript_length e n → blinded_by n l ≡ e
unfolding blinded_by
blinded_of zero n l h long = ap (λ (b : Bool). cond b 1 0) (ne_eqb (length l) (transcript_length 1 n) (λ u. omega arith))
blinded_of (suc zero) n l h long = ap (λ (b : Bool). cond b 1 0) (eq-eqb (length l) (transcript_length 1 n) long)
blinded_of (suc (suc e)) n l h long = absurd (omega arith)

pub prepared_room : (n s : ℕ) → s < prepared_count → prepared_start n s + n ≤ prepared_length n
prepared_room n s h = run_room s prepared_count n h

pub wire_room_lem : (e n c : ℕ) → c < 3 → wire_start e n c + wire_length e n ≤ z_start e n
wire_room_lem e n c h = run_room c 3 (wire_length e n) h

module _ (n : ℕ) (l : List ℕ) where
  pub length-prepared : (s : ℕ) → s < prepared_count → prepared_length n ≤ length l → length (prepared_part n s l) ≡ n
  length-prepared s h fits = length-take-le n (drop (prepared_start n s) l) (omega (arith, length-drop (prepared_start n s) l, prepared_room n s h))

  pub short_prepared : (s : ℕ) → length (prepared_part n s l) ≤ n
  short_prepared s = omega (arith, length-take n (drop (prepared_start n s) l))

module _ (e n : ℕ) (l : List ℕ) where
  pub length-wire : (c : ℕ) → c < 3 → z_start e n ≤ length l → length (wire_part e n c l) ≡ wire_length e n
  length-wire c h fits = length-take-le (wire_length e n) (drop (wire_start e n c) l) (omega (arith, length-drop (wire_start e n c) l, wire_room_lem e n c h))

  pub length-z : t_start e n ≤ length l → length (z_part e n l) ≡ z_length e n
  length-z fits = length-take-le (z_length e n) (drop (z_start e n) l) (omega (arith, length-drop (z_start e n) l))

  pub short_wire : (c : ℕ) → length (wire_part e n c l) ≤ wire_length e n
  short_wire c = omega (arith, length-take (wire_length e n) (drop (wire_start e n c) l))

  pub short_z : length (z_part e n l) ≤ z_length e n
  short_z = omega (arith, length-take (z_length e n) (drop (z_start e n) l))
