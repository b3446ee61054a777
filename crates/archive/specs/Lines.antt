-- What the functions that put lines ask, and laws of the lines' lengths.
--
-- Laid e m transcript out  a transcript of m rows, up to 256, and a buffer of the text's length
-- length_wires             the lines of the wires
-- length-five              the lines of the five polynomials
-- transcript_fits          those of a transcript fit, with room for a verdict
--
-- The number e is 1 where the transcript is blinded, and 0 where it is not.
-- Assumes nothing.
use Rattle.std.specs.Prelude.{◌≡◌, List, [], ◌∷◌, ◌++◌, ℕ, ◌+◌, ◌*◌, ◌≤◌, length}
use Rattle.std.proofs.Common.{arith, length-append, length-drop}
use Rattle.circuit.specs.Buffers.{transcript_length, t_start, wire_part, z_part, t_part}
use Rattle.circuit.specs.Parts.{short_wire, short_z}
use Rattle.text.specs.Puts.{field_bytes, length_line}
use Rattle.archive.specs.Printed.{letter_line, transcript_text, text_length}

pub record Laid (e m : ℕ) (transcript out : List ℕ) : Type 0 where
  pub blinded : e ≤ 1
  pub some : 2 ≤ m
  pub few : m ≤ 256
  pub long : length transcript ≡ transcript_length e m
  pub room : length out ≡ text_length

pub length_wires : (a b c : List ℕ)
    → length (letter_line 97 a ++ (letter_line 98 b ++ letter_line 99 c)) ≤ field_bytes * length a + field_bytes * length b + field_bytes * length c + 6
length_wires a b c =
    omega (
      arith,
      length-append (letter_line 97 a) (letter_line 98 b ++ letter_line 99 c),
      length-append (letter_line 98 b) (letter_line 99 c),
      length_line (97 ∷ []) a,
      length_line (98 ∷ []) b,
      length_line (99 ∷ []) c,
    )

pub length-five : (a b c z t : List ℕ)
    → length (letter_line 97 a ++ (letter_line 98 b ++ letter_line 99 c) ++ (letter_line 122 z ++ letter_line 116 t))
    ≤ field_bytes * length a + field_bytes * length b + field_bytes * length c + field_bytes * length z + field_bytes * length t + 10
length-five a b c z t =
    omega (
      arith,
      length-append (letter_line 97 a ++ (letter_line 98 b ++ letter_line 99 c)) (letter_line 122 z ++ letter_line 116 t),
      length_wires a b c,
      length-append (letter_line 122 z) (letter_line 116 t),
      length_line (122 ∷ []) z,
      length_line (116 ∷ []) t,
    )

pub transcript_fits : (e m : ℕ) → e ≤ 1 → m ≤ 256 → (l : List ℕ) → length l ≡ transcript_length e m → length (transcript_text e m l) + 7 ≤ text_length
transcript_fits e m small few l long =
    omega (
      arith,
      length-five (wire_part e m 0 l) (wire_part e m 1 l) (wire_part e m 2 l) (z_part e m l) (t_part e m l),
      short_wire e m l 0,
      short_wire e m l 1,
      short_wire e m l 2,
      short_z e m l,
      length-drop (t_start e m) l,
    )
