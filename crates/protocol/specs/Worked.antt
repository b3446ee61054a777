-- The cases that document 01 marks ★ ("On the sheet above, and at its edges"), what its program prints, how often 11 applies, where 16 does, and what blinding makes of the sheet (document 02), as one table
-- under one statement.
--
-- circuit, publics, witness         the sheet of document 01: prime 17, two rows, no public inputs; beta, gamma, alpha, zeta are 1, 1, 2, 2
-- last_is11, row_is5-7-12           the witness with the last value 11, and with row 1 as 5, 7, 12
-- prove_answer p n                  the answer to `prove` over p and n rows, lent the sheet's numbers
-- z_worked, transcript_worked       z at beta 1, gamma 1; the transcript at alpha 2
-- nine, z_blinded, t_blinded, transcript_blinded   nine numbers that blind; z, t and the transcript that they blind (document 02, request 9)
-- Value, Case                       a number, an inverse, numbers, numbers if there are any, an answer or a verdict; what a case is about, what the definitions make of it, what document 01 says
-- _&_                               proofs of the rows of a table, one after the other
-- table                             the cases
-- Worked                            the statement: every case is right, and where the contents disagree no z passes the row check
-- worked                            it holds
--
-- The theorems stand in proofs/Worked.
-- Assumes nothing.
use Rattle.std.specs.Prelude.{◌≡◌, ◌≢◌, List, [], ◌∷◌, ◌++◌, ℕ, ◌+◌, ◌^◌, ◌%◌, pred, replicate}
use Rattle.std.proofs.Math.Option.{Option, none, some}
use Prim.Native.String.{String}
use Rattle.algebra.specs.Lists.{tab, All}
use Rattle.algebra.specs.Polynomial.{eval}
use Rattle.field.specs.Fields.{tag}
use Rattle.field.specs.Reasons.{Answer, answer_of}
use Rattle.transform.specs.Transform.{interpolation}
use Rattle.circuit.specs.Circuit.{Constraints, lent_constraints, lent_witness, lent_public, permutation}
use Rattle.protocol.specs.Protocol.{row_n, row_d, z_rows, poly_f, prepared_poly, prepared, wires_of, z_of, t_of, proved, RowVerdict, pass, row_verdict, PointVerdict, accept, point_verdict, witness_reasons, prove_reasons, tagged, lost_gammas, lost_pairs}

-- THE SHEET

abbrev pub circuit : Constraints
circuit = lent_constraints 2 (0 ∷ 1 ∷ 0 ∷ 1 ∷ 16 ∷ 16 ∷ 1 ∷ 0 ∷ 0 ∷ 0 ∷ []) (0 ∷ 2 ∷ 1 ∷ 2 ∷ 2 ∷ 3 ∷ [])

abbrev pub publics : ℕ → ℕ
publics = lent_public []

abbrev pub witness : ℕ → ℕ
witness = lent_witness 2 (2 ∷ 3 ∷ 6 ∷ 6 ∷ 6 ∷ 12 ∷ [])

abbrev pub last_is11 : ℕ → ℕ
last_is11 = lent_witness 2 (2 ∷ 3 ∷ 6 ∷ 6 ∷ 6 ∷ 11 ∷ [])

abbrev pub row_is5-7-12 : ℕ → ℕ
row_is5-7-12 = lent_witness 2 (2 ∷ 3 ∷ 6 ∷ 5 ∷ 7 ∷ 12 ∷ [])

abbrev pub prove_answer : ℕ → ℕ → Answer
prove_answer p n =
    answer_of
    (prove_reasons 0 p n 0 (0 ∷ 1 ∷ 0 ∷ 1 ∷ 16 ∷ 16 ∷ 1 ∷ 0 ∷ 0 ∷ 0 ∷ []) (0 ∷ 2 ∷ 1 ∷ 2 ∷ 2 ∷ 3 ∷ []) (2 ∷ 3 ∷ 6 ∷ 6 ∷ 6 ∷ 12 ∷ []) [] (replicate 11 0) (1 ∷ 1 ∷ 2 ∷ []) [] (replicate 32 0))

-- z at beta 1, gamma 1; the transcript, F and t at alpha 2
abbrev pub z_worked : List ℕ
z_worked = 16 ∷ 2 ∷ []

abbrev pub transcript_worked : List ℕ
transcript_worked = 4 ∷ 15 ∷ 13 ∷ 7 ∷ 9 ∷ 14 ∷ 16 ∷ 2 ∷ 9 ∷ 12 ∷ 15 ∷ []

-- the same blinded by the numbers 1, 2, .., 9
abbrev pub nine : List ℕ
nine = 1 ∷ 2 ∷ 3 ∷ 4 ∷ 5 ∷ 6 ∷ 7 ∷ 8 ∷ 9 ∷ []

abbrev pub z_blinded : List ℕ
z_blinded = 7 ∷ 11 ∷ 2 ∷ 8 ∷ 7 ∷ []

abbrev pub t_blinded : List ℕ
t_blinded = 16 ∷ 10 ∷ 5 ∷ 0 ∷ 13 ∷ 15 ∷ 12 ∷ 1 ∷ 1 ∷ 12 ∷ 4 ∷ 0 ∷ []

abbrev pub transcript_blinded : List ℕ
transcript_blinded = 2 ∷ 14 ∷ 2 ∷ 1 ∷ 9 ∷ 4 ∷ 4 ∷ 3 ∷ 3 ∷ 9 ∷ 6 ∷ 5 ∷ (z_blinded ++ t_blinded)

abbrev F : List ℕ
F = poly_f 17 2 (prepared_poly 17 2 circuit) (wires_of 0 17 2 witness []) (interpolation 17 2 publics) z_worked 1 1 2

abbrev t : List ℕ
t = t_of 0 17 2 circuit publics witness [] z_worked 1 1 2

-- THE TABLE

pub data Value : Type 0 where
  number : ℕ → Value
  inverted : Option ℕ → Value
  numbers : List ℕ → Value
  perhaps : Option (List ℕ) → Value
  answer : Answer → Value
  rows : RowVerdict → Value
  at_point : PointVerdict → Value

pub record Case : Type 0 where
  pub what : String
  pub is : Value
  pub should : Value

-- the rows of a table are right, one after the other
infixr 20 ◌&◌
abbrev pub ◌&◌ : {A B : Type 0} → A → B → A × B
a & b = (a, b)

abbrev pub table : List Case
table =
    record { what = "marks"; is = numbers (tab (tag 17 2) 6); should = numbers (1 ∷ 16 ∷ 3 ∷ 14 ∷ 9 ∷ 8 ∷ []) }
    ∷ record { what = "wiring"; is = numbers (tab (permutation 6 circuit.label) 6); should = numbers (0 ∷ 3 ∷ 2 ∷ 4 ∷ 1 ∷ 5 ∷ []) }
    ∷ record { what = "N"; is = numbers (tab (row_n 17 2 witness 1 1) 2); should = numbers (6 ∷ 11 ∷ []) }
    ∷ record { what = "D"; is = numbers (tab (row_d 17 2 circuit witness 1 1) 2); should = numbers (15 ∷ 1 ∷ []) }
    ∷ record { what = "z on the rows"; is = perhaps (z_rows 17 2 circuit witness 1 1); should = perhaps (some (1 ∷ 14 ∷ [])) }
    ∷ record { what = "F(2)"; is = number (eval F 2 % 17); should = number 7 }
    ∷ record { what = "t(2)"; is = number (eval t 2 % 17); should = number 8 }
    ∷ record { what = "2^2 - 1"; is = number ((2 ^ 2 + pred 17) % 17); should = number 3 }
    ∷ record { what = "the sheet as it is: accepted"; is = answer (answer_of (witness_reasons 17 2 circuit publics witness 1 1)); should = answer (record { number = 0; detail = 0 }) }
    ∷ record { what = "last content 11: 9, detail 1"; is = answer (answer_of (witness_reasons 17 2 circuit publics last_is11 1 1)); should = answer (record { number = 9; detail = 1 }) }
    ∷ record { what = "row 1 as 5,7,12: 10, detail 3"; is = answer (answer_of (witness_reasons 17 2 circuit publics row_is5-7-12 1 1)); should = answer (record { number = 10; detail = 3 }) }
    ∷ record { what = "row 1 as 5,7,12, beta 0, gamma 1: z = 1"; is = rows (row_verdict 17 2 circuit publics row_is5-7-12 (λ i. 1) 0 1); should = rows pass }
    ∷ record { what = "gamma 14: 11, detail 0"; is = answer (answer_of (witness_reasons 17 2 circuit publics witness 1 14)); should = answer (record { number = 11; detail = 0 }) }
    ∷ record { what = "gamma 14: D(0) is 0, so there is no z"; is = perhaps (z_rows 17 2 circuit witness 1 14); should = perhaps none }
    ∷ record { what = "gamma 14: and no transcript"; is = perhaps (proved 0 17 2 circuit publics witness [] 1 14 2); should = perhaps none }
    ∷ record { what = "gamma 2: 11, detail 1"; is = answer (answer_of (witness_reasons 17 2 circuit publics witness 1 2)); should = answer (record { number = 11; detail = 1 }) }
    ∷ record { what = "a"; is = numbers (wires_of 0 17 2 witness [] 0); should = numbers (4 ∷ 15 ∷ []) }
    ∷ record { what = "b"; is = numbers (wires_of 0 17 2 witness [] 1); should = numbers (13 ∷ 7 ∷ []) }
    ∷ record { what = "c"; is = numbers (wires_of 0 17 2 witness [] 2); should = numbers (9 ∷ 14 ∷ []) }
    ∷ record { what = "z"; is = perhaps (z_of 0 17 2 circuit witness [] 1 1); should = perhaps (some z_worked) }
    ∷ record { what = "t"; is = numbers t; should = numbers (9 ∷ 12 ∷ 15 ∷ []) }
    ∷ record { what = "the transcript"; is = perhaps (proved 0 17 2 circuit publics witness [] 1 1 2); should = perhaps (some transcript_worked) }
    ∷ record { what = "zeta 2"; is = at_point (point_verdict 0 17 2 (prepared 17 2 circuit) publics transcript_worked 1 1 2 2); should = at_point accept }
    ∷ record { what = "beta 1: contents + marks"; is = numbers (tab (tagged 17 2 witness 1) 6); should = numbers (3 ∷ 5 ∷ 6 ∷ 3 ∷ 15 ∷ 3 ∷ []) }
    ∷ record { what = "beta 1 loses 4 gammas"; is = number (lost_gammas 17 2 witness 1); should = number 4 }
    ∷ record { what = "gammas lost for each beta"; is = numbers (tab (lost_gammas 17 2 witness) 17); should = numbers (4 ∷ 4 ∷ 5 ∷ 6 ∷ 6 ∷ 4 ∷ 5 ∷ 6 ∷ 4 ∷ 5 ∷ 6 ∷ 6 ∷ 6 ∷ 6 ∷ 6 ∷ 6 ∷ 6 ∷ []) }
    ∷ record { what = "the sheet's buffers over 97: 16"; is = answer (prove_answer 97 2); should = answer (record { number = 16; detail = 0 }) }
    ∷ record { what = "97 with 64 rows: 16"; is = answer (prove_answer 97 64); should = answer (record { number = 16; detail = 0 }) }
    ∷ record { what = "18 with 3 rows: 2"; is = answer (prove_answer 18 3); should = answer (record { number = 2; detail = 0 }) }
    ∷ record { what = "17 with 8 rows: 3"; is = answer (prove_answer 17 8); should = answer (record { number = 3; detail = 0 }) }
    ∷ record { what = "blinded by 1,2,..,9: a"; is = numbers (wires_of 1 17 2 witness nine 0); should = numbers (2 ∷ 14 ∷ 2 ∷ 1 ∷ []) }
    ∷ record { what = "blinded by 1,2,..,9: b"; is = numbers (wires_of 1 17 2 witness nine 1); should = numbers (9 ∷ 4 ∷ 4 ∷ 3 ∷ []) }
    ∷ record { what = "blinded by 1,2,..,9: c"; is = numbers (wires_of 1 17 2 witness nine 2); should = numbers (3 ∷ 9 ∷ 6 ∷ 5 ∷ []) }
    ∷ record { what = "blinded by 1,2,..,9: z"; is = perhaps (z_of 1 17 2 circuit witness nine 1 1); should = perhaps (some z_blinded) }
    ∷ record { what = "blinded by 1,2,..,9: t"; is = numbers (t_of 1 17 2 circuit publics witness nine z_blinded 1 1 2); should = numbers t_blinded }
    ∷ record { what = "blinded by 1,2,..,9: the transcript"; is = perhaps (proved 1 17 2 circuit publics witness nine 1 1 2); should = perhaps (some transcript_blinded) }
    ∷ record { what = "blinded by 1,2,..,9: zeta 2"; is = at_point (point_verdict 1 17 2 (prepared 17 2 circuit) publics transcript_blinded 1 1 2 2); should = at_point accept }
    ∷ record { what = "blinded by zeros: the unblinded coefficients and zeros"; is = perhaps (proved 1 17 2 circuit publics witness (replicate 9 0) 1 1 2); should = perhaps (some (4 ∷ 15 ∷ 0 ∷ 0 ∷ 13 ∷ 7 ∷ 0 ∷ 0 ∷ 9 ∷ 14 ∷ 0 ∷ 0 ∷ 16 ∷ 2 ∷ 0 ∷ 0 ∷ 0 ∷ 9 ∷ 12 ∷ 15 ∷ replicate 9 0)) }
    ∷ record { what = "pairs lost, of 289"; is = number (lost_pairs 17 2 witness); should = number 91 }
    ∷ []

-- THE STATEMENT

pub record Worked : Type 0 where
  pub cases : All (λ r. r.is ≡ r.should) table
  -- row 1 as 5, 7, 12, beta 1, gamma 1: whatever the row values of z are
  pub no_z : (z : ℕ → ℕ) → row_verdict 17 2 circuit publics row_is5-7-12 z 1 1 ≢ pass
