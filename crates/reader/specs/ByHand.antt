-- The numbers that docs/READER.md works out by hand, beyond those of the scope's own table: each is what the definitions give.
--
-- left, right, checked   the row check's steps and its verdict, for a witness and z on the rows
-- table                  what the page names, what the definitions make of it, what the page says
-- by_hand                every row is right
--
-- Assumes nothing.
use Rattle.std.specs.Prelude.{◌≡◌, refl, List, [], ◌∷◌, ◌++◌, ℕ, ◌+◌, ◌*◌, ◌%◌, ◌^◌, get_or}
use Rattle.std.proofs.Math.Option.{none, some}
use Rattle.algebra.specs.Lists.{tab, gathered, All, occurs, different}
use Rattle.algebra.specs.Modular.{pow_f, first, inverse}
use Rattle.algebra.specs.Polynomial.{coef, eval, add_p, scale_p, mul_p, linear, dilate, reduced, times_vanishing, quotient_vanishing, remainder_vanishing}
use Rattle.field.specs.Fields.{generator, root, point, multiplier, tag}
use Rattle.transform.specs.Transform.{evaluation, interpolation}
use Rattle.transform.specs.Parts.{laid}
use Rattle.transform.specs.Passes.{strided, odd_word, passed}
use Rattle.circuit.specs.Buffers.{wire_part, z_part, t_part}
use Rattle.circuit.specs.Circuit.{Constraints, lent_constraints, lent_public, lent_witness, witness_place, lent_by, laid_by, by_rows, laid_witness, permutation, gate}
use Rattle.circuit.specs.Worked.{public_selectors, labels}
use Rattle.protocol.specs.Protocol.{wired_tag, running_z, row_n, row_d, poly_n, poly_d, poly_l, gate_part, step_part, start_part, poly_f, quotient, prepared_poly, prepared, wire_blinder, z_blinder, blinded, wires_of, z_of, proved, pass, fails, gate_identity, start_identity, step_identity, rows_from, row_verdict, accept, point_verdict, broken_copy, zero_factor, tagged, lost_gammas}
use Rattle.protocol.specs.Worked.{circuit, publics, witness, last_is11, row_is5-7-12, z_worked, nine, z_blinded, t_blinded, Case, Value, number, inverted, numbers, perhaps, rows, at_point, ◌&◌}
use Rattle.opening.specs.Opening.{polynomial_of, less, named, evaluations_of, mixture_of}
use Rattle.opening.specs.Worked as opened

abbrev pre : ℕ → List ℕ
pre = prepared_poly 17 2 circuit

abbrev wire : ℕ → List ℕ
wire = wires_of 0 17 2 witness []

abbrev z : List ℕ
z = z_worked

abbrev x : List ℕ
x = interpolation 17 2 publics

-- the factors of N and D at column c, beta and gamma being 1
abbrev upper : ℕ → List ℕ
upper c = add_p (wire c) (1 ∷ multiplier 17 c ∷ [])

abbrev lower : ℕ → List ℕ
lower c = add_p (add_p (wire c) (pre (5 + c))) (1 ∷ [])

abbrev F : List ℕ
F = poly_f 17 2 pre wire x z 1 1 2

-- the row check with beta and gamma 1, for a witness v and z on the rows: both sides of the step of row i, from the last row to row 0 as well, and the verdict
abbrev left : (ℕ → ℕ) → List ℕ → ℕ → ℕ
left v on_rows i = coef on_rows i * row_n 17 2 v 1 1 i % 17

abbrev right : (ℕ → ℕ) → List ℕ → ℕ → ℕ
right v on_rows i = coef on_rows ((i + 1) % 2) * row_d 17 2 circuit v 1 1 i % 17

abbrev checked : (ℕ → ℕ) → List ℕ → Value
checked v on_rows = rows (row_verdict 17 2 circuit publics v (coef on_rows) 1 1)

-- the opening of a, b, c, z and t at 2, with m = 3: each with its value taken off, and the sum of these, times the powers of 3
abbrev shifted : ℕ → List ℕ
shifted i =
    let f : List ℕ = named 0 17 2 opened.prepared opened.transcript opened.five i in
    less 17 f (eval f 2)

abbrev mixture : List ℕ
mixture = mixture_of 0 17 2 opened.prepared opened.transcript opened.five (evaluations_of 0 17 2 opened.prepared opened.transcript opened.five 2) 3

-- the passes on 1 + 2X + 4X² + 8X³ over 17 with four rows: the coefficients, after the first pass, after the second
abbrev points : List ℕ
points = tab (point 17 4) 4

abbrev coefficients : List ℕ
coefficients = 1 ∷ 2 ∷ 4 ∷ 8 ∷ []

abbrev once : List ℕ
once = passed 17 points 2 2 coefficients

abbrev twice : List ℕ
twice = passed 17 points 1 2 once

-- the sheet with row 0 made a public row, and the public input 2
abbrev bound : Constraints
bound = lent_constraints 2 public_selectors labels

abbrev two : ℕ → ℕ
two = lent_public (2 ∷ [])

abbrev bound_f : List ℕ
bound_f = poly_f 17 2 (prepared_poly 17 2 bound) wire (interpolation 17 2 two) z 1 1 2

-- the gate of a row with qL and qC alone, where 4798 stands at a and 5798 is the public input
abbrev meter_gate : ℕ → ℕ → ℕ
meter_gate l c =
    gate 2013265921 8 record { q_l = λ i. l; q_r = λ i. 0; q_o = λ i. 0; q_m = λ i. 0; q_c = λ i. c; label = λ k. k } (λ i. 5798) (λ k. 4798) 4

-- the sheet's equations over 97, where 96 is -1, and the transcript that was filed with them; its parts, and the value of a polynomial at 2
abbrev filed : Constraints
filed = lent_constraints 2 (0 ∷ 1 ∷ 0 ∷ 1 ∷ 96 ∷ 96 ∷ 1 ∷ 0 ∷ 0 ∷ 0 ∷ []) labels

abbrev filed_transcript : List ℕ
filed_transcript = 4 ∷ 95 ∷ 53 ∷ 47 ∷ 9 ∷ 94 ∷ 84 ∷ 14 ∷ 64 ∷ 10 ∷ 87 ∷ []

abbrev filed_pre : ℕ → List ℕ
filed_pre = prepared_poly 97 2 filed

abbrev filed_wire : ℕ → List ℕ
filed_wire c = wire_part 0 2 c filed_transcript

abbrev filed_z : List ℕ
filed_z = z_part 0 2 filed_transcript

abbrev at2 : List ℕ → ℕ
at2 f = eval f 2 % 97

-- the sheet blinded by 1, 2, .., 9; the same with 3 and 2 in row 0, and the nine that make the same five values of it
abbrev blinded_wire : ℕ → List ℕ
blinded_wire = wires_of 1 17 2 witness nine

abbrev swapped : ℕ → ℕ
swapped = lent_witness 2 (3 ∷ 2 ∷ 6 ∷ 6 ∷ 6 ∷ 12 ∷ [])

abbrev other_nine : List ℕ
other_nine = 1 ∷ 10 ∷ 3 ∷ 13 ∷ 5 ∷ 6 ∷ 7 ∷ 8 ∷ 9 ∷ []

-- the value of a polynomial at 2; the five values: three wires and z at 2, and z at w × 2
abbrev in17 : List ℕ → ℕ
in17 f = eval f 2 % 17

abbrev five_of : (ℕ → List ℕ) → List ℕ → List ℕ
five_of wires f = tab (λ c. in17 (wires c)) 3 ++ (in17 f ∷ eval f (root 17 2 * 2) % 17 ∷ [])

abbrev pub table : List Case
table =
    record { what = "w"; is = number (root 17 2); should = number 16 }
    ∷ record { what = "1/2"; is = inverted (inverse 17 2); should = inverted (some 9) }
    ∷ record { what = "1/0"; is = inverted (inverse 17 0); should = inverted none }
    ∷ record { what = "1/15"; is = inverted (inverse 17 15); should = inverted (some 8) }
    ∷ record { what = "points of four rows"; is = numbers points; should = numbers (1 ∷ 13 ∷ 16 ∷ 4 ∷ []) }
    ∷ record { what = "coefficients: stride 4"; is = numbers (strided 17 13 4 1 coefficients); should = numbers (1 ∷ 2 ∷ 4 ∷ 8 ∷ []) }
    ∷ record { what = "after the first pass"; is = numbers once; should = numbers (5 ∷ 10 ∷ 14 ∷ 11 ∷ []) }
    ∷ record { what = "stride 2"; is = numbers (strided 17 13 2 2 coefficients); should = numbers (5 ∷ 10 ∷ 14 ∷ 11 ∷ []) }
    ∷ record { what = "after the second pass"; is = numbers twice; should = numbers (15 ∷ 4 ∷ 12 ∷ 7 ∷ []) }
    ∷ record { what = "stride 1"; is = numbers (strided 17 13 1 4 coefficients); should = numbers (15 ∷ 4 ∷ 12 ∷ 7 ∷ []) }
    ∷ record { what = "values at the four points"; is = numbers (evaluation 17 4 coefficients); should = numbers (15 ∷ 4 ∷ 12 ∷ 7 ∷ []) }
    ∷ record { what = "the product of word 1"; is = number (get_or points 1 0 * odd_word 1 once 1 % 17); should = number 7 }
    ∷ record { what = "1/4"; is = inverted (inverse 17 4); should = inverted (some 13) }
    ∷ record { what = "the way back"; is = numbers (interpolation 17 4 (coef coefficients)); should = numbers (8 ∷ 6 ∷ 3 ∷ 1 ∷ []) }
    ∷ record { what = "and its values"; is = numbers (evaluation 17 4 (8 ∷ 6 ∷ 3 ∷ 1 ∷ [])); should = numbers (1 ∷ 2 ∷ 4 ∷ 8 ∷ []) }
    ∷ record { what = "where the number of each position is lent"; is = numbers (tab (witness_place 2) 6); should = numbers (0 ∷ 3 ∷ 1 ∷ 4 ∷ 2 ∷ 5 ∷ []) }
    ∷ record { what = "the numbers as they are lent"; is = numbers (laid_witness 2 witness); should = numbers (2 ∷ 3 ∷ 6 ∷ 6 ∷ 6 ∷ 12 ∷ []) }
    ∷ record { what = "tags of where the permutation leads"; is = numbers (tab (wired_tag 17 2 circuit) 6); should = numbers (1 ∷ 14 ∷ 3 ∷ 9 ∷ 16 ∷ 8 ∷ []) }
    ∷ record { what = "row check: gates"; is = numbers (tab (gate 17 2 circuit publics witness) 2); should = numbers (0 ∷ 0 ∷ []) }
    ∷ record { what = "row check: steps, left sides"; is = numbers (tab (left witness (1 ∷ 14 ∷ [])) 2); should = numbers (6 ∷ 1 ∷ []) }
    ∷ record { what = "row check: steps, right sides"; is = numbers (tab (right witness (1 ∷ 14 ∷ [])) 2); should = numbers (6 ∷ 1 ∷ []) }
    ∷ record { what = "row check: the verdict"; is = checked witness (1 ∷ 14 ∷ []); should = rows pass }
    ∷ record { what = "last number 11: gates"; is = numbers (tab (gate 17 2 circuit publics last_is11) 2); should = numbers (0 ∷ 1 ∷ []) }
    ∷ record { what = "last number 11: N"; is = numbers (tab (row_n 17 2 last_is11 1 1) 2); should = numbers (6 ∷ 4 ∷ []) }
    ∷ record { what = "last number 11: D"; is = numbers (tab (row_d 17 2 circuit last_is11 1 1) 2); should = numbers (15 ∷ 5 ∷ []) }
    ∷ record { what = "last number 11: steps, left sides"; is = numbers (tab (left last_is11 (1 ∷ 14 ∷ [])) 2); should = numbers (6 ∷ 5 ∷ []) }
    ∷ record { what = "last number 11: steps, right sides"; is = numbers (tab (right last_is11 (1 ∷ 14 ∷ [])) 2); should = numbers (6 ∷ 5 ∷ []) }
    ∷ record { what = "last number 11: the verdict"; is = checked last_is11 (1 ∷ 14 ∷ []); should = rows (fails gate_identity 1) }
    ∷ record { what = "z = 2, 11: steps, left sides"; is = numbers (tab (left witness (2 ∷ 11 ∷ [])) 2); should = numbers (12 ∷ 2 ∷ []) }
    ∷ record { what = "z = 2, 11: steps, right sides"; is = numbers (tab (right witness (2 ∷ 11 ∷ [])) 2); should = numbers (12 ∷ 2 ∷ []) }
    ∷ record { what = "z = 2, 11: the verdict"; is = checked witness (2 ∷ 11 ∷ []); should = rows (fails start_identity 0) }
    ∷ record { what = "row 1 as 5, 7, 12: gates"; is = numbers (tab (gate 17 2 circuit publics row_is5-7-12) 2); should = numbers (0 ∷ 0 ∷ []) }
    ∷ record { what = "row 1 as 5, 7, 12: N"; is = numbers (tab (row_n 17 2 row_is5-7-12 1 1) 2); should = numbers (6 ∷ 15 ∷ []) }
    ∷ record { what = "row 1 as 5, 7, 12: D"; is = numbers (tab (row_d 17 2 circuit row_is5-7-12 1 1) 2); should = numbers (15 ∷ 0 ∷ []) }
    ∷ record { what = "row 1 as 5, 7, 12: steps, left sides"; is = numbers (tab (left row_is5-7-12 (1 ∷ 14 ∷ [])) 2); should = numbers (6 ∷ 6 ∷ []) }
    ∷ record { what = "row 1 as 5, 7, 12: steps, right sides"; is = numbers (tab (right row_is5-7-12 (1 ∷ 14 ∷ [])) 2); should = numbers (6 ∷ 0 ∷ []) }
    ∷ record { what = "row 1 as 5, 7, 12: the verdict"; is = checked row_is5-7-12 (1 ∷ 14 ∷ []); should = rows (fails step_identity 1) }
    ∷ record { what = "selectors and wired tags as polynomials"; is = numbers (prepared 17 2 circuit); should = numbers (9 ∷ 8 ∷ 9 ∷ 8 ∷ 16 ∷ 0 ∷ 9 ∷ 9 ∷ 0 ∷ 0 ∷ 16 ∷ 2 ∷ 6 ∷ 14 ∷ 12 ∷ 4 ∷ []) }
    ∷ record { what = "qL × a"; is = numbers (reduced 17 3 (mul_p (pre 0) (wire 0))); should = numbers (2 ∷ 14 ∷ 1 ∷ []) }
    ∷ record { what = "qR × b"; is = numbers (reduced 17 3 (mul_p (pre 1) (wire 1))); should = numbers (15 ∷ 14 ∷ 5 ∷ []) }
    ∷ record { what = "qO × c"; is = numbers (reduced 17 3 (mul_p (pre 2) (wire 2))); should = numbers (8 ∷ 3 ∷ 0 ∷ []) }
    ∷ record { what = "qM × a × b"; is = numbers (reduced 17 4 (mul_p (mul_p (pre 3) (wire 0)) (wire 1))); should = numbers (9 ∷ 10 ∷ 11 ∷ 10 ∷ []) }
    ∷ record { what = "gate"; is = numbers (reduced 17 4 (gate_part 17 pre wire x)); should = numbers (0 ∷ 7 ∷ 0 ∷ 10 ∷ []) }
    ∷ record { what = "factors of N"; is = numbers (reduced 17 2 (upper 0) ++ (reduced 17 2 (upper 1) ++ reduced 17 2 (upper 2))); should = numbers (5 ∷ 16 ∷ 14 ∷ 10 ∷ 10 ∷ 6 ∷ []) }
    ∷ record { what = "factors of D"; is = numbers (reduced 17 2 (lower 0) ++ (reduced 17 2 (lower 1) ++ reduced 17 2 (lower 2))); should = numbers (4 ∷ 0 ∷ 3 ∷ 4 ∷ 5 ∷ 1 ∷ []) }
    ∷ record { what = "N"; is = numbers (reduced 17 4 (poly_n 17 wire 1 1)); should = numbers (3 ∷ 15 ∷ 14 ∷ 8 ∷ []) }
    ∷ record { what = "D"; is = numbers (reduced 17 4 (poly_d pre wire 1 1)); should = numbers (9 ∷ 7 ∷ 16 ∷ 0 ∷ []) }
    ∷ record { what = "z × N"; is = numbers (reduced 17 5 (mul_p z (poly_n 17 wire 1 1))); should = numbers (14 ∷ 8 ∷ 16 ∷ 3 ∷ 16 ∷ []) }
    ∷ record { what = "z(wX)"; is = numbers (reduced 17 2 (dilate (root 17 2) z)); should = numbers (16 ∷ 15 ∷ []) }
    ∷ record { what = "z(wX) × D"; is = numbers (reduced 17 5 (mul_p (dilate (root 17 2) z) (poly_d pre wire 1 1))); should = numbers (8 ∷ 9 ∷ 4 ∷ 2 ∷ 0 ∷ []) }
    ∷ record { what = "their difference"; is = numbers (reduced 17 5 (step_part 17 2 pre wire z 1 1)); should = numbers (6 ∷ 16 ∷ 12 ∷ 1 ∷ 16 ∷ []) }
    ∷ record { what = "z - 1"; is = numbers (reduced 17 2 (add_p z (16 ∷ []))); should = numbers (15 ∷ 2 ∷ []) }
    ∷ record { what = "L"; is = numbers (poly_l 17 2); should = numbers (9 ∷ 9 ∷ []) }
    ∷ record { what = "(z - 1) × L"; is = numbers (reduced 17 3 (start_part 17 2 z)); should = numbers (16 ∷ 0 ∷ 1 ∷ []) }
    ∷ record { what = "F"; is = numbers (reduced 17 5 F); should = numbers (8 ∷ 5 ∷ 11 ∷ 12 ∷ 15 ∷ []) }
    ∷ record { what = "the remainder"; is = numbers (reduced 17 2 (remainder_vanishing 2 3 F)); should = numbers (0 ∷ 0 ∷ []) }
    ∷ record { what = "beta 1: the row that 11 names for each gamma, 2 for none"; is = numbers (tab (zero_factor 17 2 circuit witness 1) 17); should = numbers (2 ∷ 2 ∷ 1 ∷ 2 ∷ 2 ∷ 2 ∷ 2 ∷ 2 ∷ 2 ∷ 2 ∷ 2 ∷ 0 ∷ 0 ∷ 2 ∷ 0 ∷ 2 ∷ 2 ∷ []) }
    ∷ record { what = "row 1 as 5, 7, 12, beta 1: the row for each gamma"; is = numbers (tab (zero_factor 17 2 circuit row_is5-7-12 1) 17); should = numbers (2 ∷ 1 ∷ 2 ∷ 2 ∷ 2 ∷ 2 ∷ 2 ∷ 2 ∷ 2 ∷ 2 ∷ 2 ∷ 0 ∷ 0 ∷ 2 ∷ 0 ∷ 1 ∷ 2 ∷ []) }
    ∷ record { what = "row 1 as 5, 7, 12, beta 1: number + tag of each place"; is = numbers (tab (tagged 17 2 row_is5-7-12 1) 6); should = numbers (3 ∷ 4 ∷ 6 ∷ 4 ∷ 15 ∷ 3 ∷ []) }
    ∷ record { what = "row 1 as 5, 7, 12, beta 1: how many are different"; is = number (lost_gammas 17 2 row_is5-7-12 1); should = number 4 }
    ∷ record { what = "meter: qL 0, qC 5798, public sum 5798"; is = number (meter_gate 0 5798); should = number 0 }
    ∷ record { what = "meter: qL 1, qC 0, public sum 5798"; is = number (meter_gate 1 0); should = number 2013264921 }
    ∷ record { what = "public row: selectors and wired tags as polynomials"; is = numbers (prepared 17 2 bound); should = numbers (1 ∷ 0 ∷ 9 ∷ 8 ∷ 8 ∷ 9 ∷ 0 ∷ 0 ∷ 0 ∷ 0 ∷ 16 ∷ 2 ∷ 6 ∷ 14 ∷ 12 ∷ 4 ∷ []) }
    ∷ record { what = "public row: the public inputs"; is = numbers (interpolation 17 2 two); should = numbers (1 ∷ 1 ∷ []) }
    ∷ record { what = "public row: qL × a"; is = numbers (reduced 17 2 (mul_p (prepared_poly 17 2 bound 0) (wire 0))); should = numbers (4 ∷ 15 ∷ []) }
    ∷ record { what = "public row: qO × c"; is = numbers (reduced 17 3 (mul_p (prepared_poly 17 2 bound 2) (wire 2))); should = numbers (4 ∷ 6 ∷ 7 ∷ []) }
    ∷ record { what = "public row: gate"; is = numbers (reduced 17 3 (gate_part 17 (prepared_poly 17 2 bound) wire (interpolation 17 2 two))); should = numbers (5 ∷ 0 ∷ 12 ∷ []) }
    ∷ record { what = "public row: F"; is = numbers (reduced 17 5 bound_f); should = numbers (13 ∷ 15 ∷ 6 ∷ 2 ∷ 15 ∷ []) }
    ∷ record { what = "public row: transcript"; is = perhaps (proved 0 17 2 bound two witness [] 1 1 2); should = perhaps (some (4 ∷ 15 ∷ 13 ∷ 7 ∷ 9 ∷ 14 ∷ 16 ∷ 2 ∷ 4 ∷ 2 ∷ 15 ∷ [])) }
    ∷ record { what = "public row: gate of row 0, public input 3"; is = number (gate 17 2 bound (lent_public (3 ∷ [])) witness 0); should = number 16 }
    ∷ record { what = "a, b, c, z, each less its value at 2"; is = numbers (reduced 17 2 (shifted 0) ++ (reduced 17 2 (shifted 1) ++ (reduced 17 2 (shifted 2) ++ reduced 17 2 (shifted 3)))); should = numbers (4 ∷ 15 ∷ 3 ∷ 7 ∷ 6 ∷ 14 ∷ 13 ∷ 2 ∷ []) }
    ∷ record { what = "t less its value at 2"; is = numbers (reduced 17 3 (shifted 4)); should = numbers (1 ∷ 12 ∷ 15 ∷ []) }
    ∷ record { what = "powers of 3"; is = numbers (tab (λ i. 3 ^ i % 17) 5); should = numbers (1 ∷ 3 ∷ 9 ∷ 10 ∷ 13 ∷ []) }
    ∷ record { what = "b, c, z times their powers"; is = numbers (reduced 17 2 (scale_p 3 (shifted 1)) ++ (reduced 17 2 (scale_p 9 (shifted 2)) ++ reduced 17 2 (scale_p 10 (shifted 3)))); should = numbers (9 ∷ 4 ∷ 3 ∷ 7 ∷ 11 ∷ 3 ∷ []) }
    ∷ record { what = "t times its power"; is = numbers (reduced 17 3 (scale_p 13 (shifted 4))); should = numbers (13 ∷ 3 ∷ 8 ∷ []) }
    ∷ record { what = "the mixture"; is = numbers (reduced 17 3 mixture); should = numbers (6 ∷ 15 ∷ 8 ∷ []) }
    ∷ record { what = "the mixture at 2"; is = number (eval mixture 2 % 17); should = number 0 }
    ∷ record { what = "(14 + 8X) × (X - 2)"; is = numbers (reduced 17 3 (mul_p (linear 17 2) (14 ∷ 8 ∷ []))); should = numbers (6 ∷ 15 ∷ 8 ∷ []) }
    ∷ record { what = "(15 + X) × (X - 2)"; is = numbers (reduced 17 3 (mul_p (linear 17 2) (15 ∷ 1 ∷ []))); should = numbers (4 ∷ 13 ∷ 1 ∷ []) }
    ∷ record { what = "97: w"; is = number (root 97 2); should = number 96 }
    ∷ record { what = "97: 1/2"; is = inverted (inverse 97 2); should = inverted (some 49) }
    ∷ record { what = "97: tags"; is = numbers (tab (tag 97 2) 6); should = numbers (1 ∷ 96 ∷ 5 ∷ 92 ∷ 25 ∷ 72 ∷ []) }
    ∷ record { what = "97: tags of where the permutation leads"; is = numbers (tab (wired_tag 97 2 filed) 6); should = numbers (1 ∷ 92 ∷ 5 ∷ 25 ∷ 96 ∷ 72 ∷ []) }
    ∷ record { what = "97: selectors and wired tags as polynomials"; is = numbers (prepared 97 2 filed); should = numbers (49 ∷ 48 ∷ 49 ∷ 48 ∷ 96 ∷ 0 ∷ 49 ∷ 49 ∷ 0 ∷ 0 ∷ 95 ∷ 3 ∷ 15 ∷ 87 ∷ 84 ∷ 12 ∷ []) }
    ∷ record { what = "97: a, b, c, z and t at 2"; is = numbers (at2 (filed_wire 0) ∷ at2 (filed_wire 1) ∷ at2 (filed_wire 2) ∷ at2 filed_z ∷ at2 (t_part 0 2 filed_transcript) ∷ []); should = numbers (0 ∷ 50 ∷ 3 ∷ 15 ∷ 44 ∷ []) }
    ∷ record { what = "97: z at w × 2"; is = number (at2 (dilate (root 97 2) filed_z)); should = number 56 }
    ∷ record { what = "97: selectors and wired tags at 2"; is = numbers (tab (λ s. at2 (filed_pre s)) 8); should = numbers (48 ∷ 48 ∷ 96 ∷ 50 ∷ 0 ∷ 4 ∷ 92 ∷ 11 ∷ []) }
    ∷ record { what = "97: gate at 2"; is = number (at2 (gate_part 97 filed_pre filed_wire (interpolation 97 2 publics))); should = number 69 }
    ∷ record { what = "97: N at 2"; is = number (at2 (poly_n 97 filed_wire 1 1)); should = number 85 }
    ∷ record { what = "97: D at 2"; is = number (at2 (poly_d filed_pre filed_wire 1 1)); should = number 55 }
    ∷ record { what = "97: their difference, times z, at 2"; is = number (at2 (step_part 97 2 filed_pre filed_wire filed_z 1 1)); should = number 38 }
    ∷ record { what = "97: L at 2"; is = number (at2 (poly_l 97 2)); should = number 50 }
    ∷ record { what = "97: (z - 1) × L at 2"; is = number (at2 (start_part 97 2 filed_z)); should = number 21 }
    ∷ record { what = "97: F(2)"; is = number (at2 (poly_f 97 2 filed_pre filed_wire (interpolation 97 2 publics) filed_z 1 1 2)); should = number 35 }
    ∷ record { what = "97: the verdict at 2"; is = at_point (point_verdict 0 97 2 (prepared 97 2 filed) publics filed_transcript 1 1 2 2); should = at_point accept }
    ∷ record { what = "3 and 2 in row 0: gates"; is = numbers (tab (gate 17 2 circuit publics swapped) 2); should = numbers (0 ∷ 0 ∷ []) }
    ∷ record { what = "3 and 2 in row 0: the first copy that is broken, 6 for none"; is = number (broken_copy 2 circuit swapped); should = number 6 }
    ∷ record { what = "3 and 2 in row 0: the row that 11 names, 2 for none"; is = number (zero_factor 17 2 circuit swapped 1 1); should = number 2 }
    ∷ record { what = "3 and 2 in row 0: a, b, c"; is = numbers (laid (wires_of 0 17 2 swapped []) 3); should = numbers (13 ∷ 7 ∷ 4 ∷ 15 ∷ 9 ∷ 14 ∷ []) }
    ∷ record { what = "3 and 2 in row 0: z"; is = perhaps (z_of 0 17 2 circuit swapped [] 1 1); should = perhaps (some z) }
    ∷ record { what = "five values, 2 and 3 in row 0"; is = numbers (five_of wire z); should = numbers (0 ∷ 10 ∷ 3 ∷ 3 ∷ 12 ∷ []) }
    ∷ record { what = "five values, 3 and 2 in row 0"; is = numbers (five_of (wires_of 0 17 2 swapped []) z); should = numbers (10 ∷ 0 ∷ 3 ∷ 3 ∷ 12 ∷ []) }
    ∷ record { what = "blinded: what is added to a"; is = numbers (reduced 17 4 (times_vanishing 17 2 (wire_blinder 1 nine 0))); should = numbers (15 ∷ 16 ∷ 2 ∷ 1 ∷ []) }
    ∷ record { what = "blinded: what is added to z"; is = numbers (reduced 17 5 (times_vanishing 17 2 (z_blinder 1 nine))); should = numbers (8 ∷ 9 ∷ 2 ∷ 8 ∷ 7 ∷ []) }
    ∷ record { what = "blinded: a at the rows' points"; is = numbers (evaluation 17 2 (blinded_wire 0)); should = numbers (2 ∷ 6 ∷ []) }
    ∷ record { what = "blinded: z at the rows' points"; is = numbers (evaluation 17 2 z_blinded); should = numbers (1 ∷ 14 ∷ []) }
    ∷ record { what = "selectors and wired tags at 2"; is = numbers (tab (λ s. in17 (pre s)) 8); should = numbers (8 ∷ 8 ∷ 16 ∷ 10 ∷ 0 ∷ 3 ∷ 0 ∷ 3 ∷ []) }
    ∷ record { what = "blinded: five values"; is = numbers (five_of blinded_wire z_blinded); should = numbers (12 ∷ 6 ∷ 0 ∷ 9 ∷ 7 ∷ []) }
    ∷ record { what = "blinded: gate at 2"; is = number (in17 (gate_part 17 pre blinded_wire x)); should = number 14 }
    ∷ record { what = "blinded: factors of N at 2, and N"; is = numbers (tab (λ c. in17 (add_p (blinded_wire c) (1 ∷ multiplier 17 c ∷ []))) 3 ++ (in17 (poly_n 17 blinded_wire 1 1) ∷ [])); should = numbers (15 ∷ 13 ∷ 2 ∷ 16 ∷ []) }
    ∷ record { what = "blinded: factors of D at 2, and D"; is = numbers (tab (λ c. in17 (add_p (add_p (blinded_wire c) (pre (5 + c))) (1 ∷ []))) 3 ++ (in17 (poly_d pre blinded_wire 1 1) ∷ [])); should = numbers (16 ∷ 7 ∷ 4 ∷ 6 ∷ []) }
    ∷ record { what = "blinded: step at 2"; is = number (in17 (step_part 17 2 pre blinded_wire z_blinded 1 1)); should = number 0 }
    ∷ record { what = "blinded: L at 2, and start"; is = numbers (in17 (poly_l 17 2) ∷ in17 (start_part 17 2 z_blinded) ∷ []); should = numbers (10 ∷ 12 ∷ []) }
    ∷ record { what = "blinded: F(2) and t(2)"; is = numbers (in17 (poly_f 17 2 pre blinded_wire x z_blinded 1 1 2) ∷ in17 t_blinded ∷ []); should = numbers (11 ∷ 15 ∷ []) }
    ∷ record { what = "X^2 - 1 at 2 and at -2"; is = numbers (in17 (16 ∷ 0 ∷ 1 ∷ []) ∷ eval (16 ∷ 0 ∷ 1 ∷ []) (root 17 2 * 2) % 17 ∷ []); should = numbers (3 ∷ 3 ∷ []) }
    ∷ record { what = "b1 X + b2 at 2, for 2 and 3 and for 3 and 2 in row 0"; is = numbers (in17 (wire_blinder 1 nine 0) ∷ in17 (wire_blinder 1 other_nine 0) ∷ []); should = numbers (4 ∷ 12 ∷ []) }
    ∷ record { what = "b7 X^2 + b8 X + b9 at 2 and at -2"; is = numbers (in17 (z_blinder 1 nine) ∷ eval (z_blinder 1 nine) (root 17 2 * 2) % 17 ∷ []); should = numbers (2 ∷ 4 ∷ []) }
    ∷ record { what = "blinded otherwise: z of 3 and 2 in row 0"; is = perhaps (z_of 1 17 2 circuit swapped other_nine 1 1); should = perhaps (some z_blinded) }
    ∷ record { what = "blinded otherwise: five values of 3 and 2 in row 0"; is = numbers (five_of (wires_of 1 17 2 swapped other_nine) z_blinded); should = numbers (12 ∷ 6 ∷ 0 ∷ 9 ∷ 7 ∷ []) }
    ∷ record { what = "17^4"; is = number (17 ^ 4); should = number 83521 }
    ∷ []

pub by_hand : All (λ r. r.is ≡ r.should) table
unfolding tab gathered occurs different pow_f first inverse reduced quotient_vanishing remainder_vanishing generator root point multiplier tag evaluation interpolation strided passed lent_by laid_by by_rows permutation row_n row_d running_z poly_n poly_d poly_l gate_part step_part start_part poly_f quotient laid prepared blinded rows_from point_verdict gate broken_copy zero_factor tagged lost_gammas polynomial_of evaluations_of mixture_of
by_hand = refl & refl & refl & refl & refl & refl & refl & refl & refl & refl & refl & refl & refl & refl & refl & refl & refl & refl & refl & refl & refl & refl & refl & refl & refl & refl & refl & refl & refl & refl & refl & refl & refl & refl & refl & refl & refl & refl & refl & refl & refl & refl & refl & refl & refl & refl & refl & refl & refl & refl & refl & refl & refl & refl & refl & refl & refl & refl & refl & refl & refl & refl & refl & refl & refl & refl & refl & refl & refl & refl & refl & refl & refl & refl & refl & refl & refl & refl & refl & refl & refl & refl & refl & refl & refl & refl & refl & refl & refl & refl & refl & refl & refl & refl & refl & refl & refl & refl & refl & refl & refl & refl & refl & refl & refl & refl & refl & refl & refl & refl & refl & refl & refl & refl & refl & refl & refl & refl & refl & refl & tt
