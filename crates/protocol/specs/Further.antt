-- Further cases of the definitions, with values that a program not kept here found: sheets over each of the three primes, all with public inputs, so
-- that a wrong sign of the public input shows. Tags, N, D, z, prepared polynomials, transcripts, both verdicts, and where 14, 9, 10 and 11 apply.
--
-- Sheet, constraints, publics, witness     a sheet of document 01 as its numbers are lent, and what the definitions read in it
-- gates, transcript_of, row_check, point_check, broken   the definitions at a sheet; broken: where 14, 9, 10 and 11 apply (l, n, 3n, n: nowhere)
-- seventeen, ninety_seven, largest         a valid sheet of four rows for each prime
-- unbound                                  a sheet of prime 97 that reading refuses by 14
-- broken_row, broken_position, zero_row    sheets of prime 17 that are refused by 9, 10 and 11
-- largest_position, largest_zero           sheets of the largest prime that are refused by 10 and 11
-- table                                    the cases of 17 and 97, which antt computes as they stand
-- root_2, root_4, inverse_is, ..           the roots and inverses of the largest prime, which it cannot compute by their definitions
-- rows_1, .., rows-largest, z_largest_lem  z on its rows, one after the other, and z: each division has its inverse from there
-- largest_table                            the cases of the largest prime
-- further                                  every case is right
--
-- The theorems stand in proofs/Further.
-- Assumes nothing.
use Rattle.std.specs.Prelude.{◌≡◌, List, [], ◌∷◌, ◌++◌, ℕ, length, get_or}
use Rattle.std.proofs.Math.Option.{Option, some}
use Rattle.algebra.specs.Lists.{tab, All}
use Rattle.field.specs.Fields.{tag}
use Rattle.circuit.specs.Circuit.{Constraints, lent_constraints, lent_witness, lent_public, permutation, gate}
use Rattle.circuit.specs.Reasons.{unbound_row}
use Rattle.protocol.specs.Protocol.{row_n, row_d, z_rows, quotient, prepared, wires_of, z_of, proved, RowVerdict, pass, fails, gate_identity, start_identity, step_identity, row_verdict, PointVerdict, accept, reject, point_f, point_verdict, broken_gate, broken_copy, zero_factor}
use Rattle.protocol.specs.Worked.{numbers, perhaps, rows, at_point, Case}

-- THE DEFINITIONS AT A SHEET

pub record Sheet : Type 0 where
  pub p : ℕ
  pub n : ℕ
  pub selectors : List ℕ
  pub labels : List ℕ
  pub contents : List ℕ
  pub given : List ℕ
  pub beta : ℕ
  pub gamma : ℕ
  pub alpha : ℕ

abbrev pub constraints : Sheet → Constraints
constraints s = lent_constraints s.n s.selectors s.labels

abbrev pub publics : Sheet → ℕ → ℕ
publics s = lent_public s.given

abbrev pub witness : Sheet → ℕ → ℕ
witness s = lent_witness s.n s.contents

abbrev pub gates : Sheet → List ℕ
gates s = tab (gate s.p s.n (constraints s) (publics s) (witness s)) s.n

abbrev pub transcript_of : Sheet → Option (List ℕ)
transcript_of s = proved 0 s.p s.n (constraints s) (publics s) (witness s) [] s.beta s.gamma s.alpha

abbrev row_check : Sheet → List ℕ → RowVerdict
row_check s z = row_verdict s.p s.n (constraints s) (publics s) (witness s) (λ i. get_or z i 0) s.beta s.gamma

abbrev point_check : Sheet → List ℕ → List ℕ → ℕ → PointVerdict
point_check s pre lent zeta = point_verdict 0 s.p s.n pre (publics s) lent s.beta s.gamma s.alpha zeta

abbrev pub broken : Sheet → List ℕ
broken s =
    unbound_row (constraints s) (length s.given)
    ∷ broken_gate s.p s.n (constraints s) (publics s) (witness s)
    ∷ broken_copy s.n (constraints s) (witness s)
    ∷ zero_factor s.p s.n (constraints s) (witness s) s.beta s.gamma ∷ []

-- THE SHEETS (named as in crates/cases/data/sheets, and ninetyseven as in crates/filed/data)

-- seventeen
abbrev seventeen : Sheet
seventeen =
    record {
      p = 17;
      n = 4;
      selectors = 1 ∷ 1 ∷ 2 ∷ 1 ∷ 0 ∷ 0 ∷ 11 ∷ 1 ∷ 0 ∷ 0 ∷ 1 ∷ 10 ∷ 0 ∷ 0 ∷ 7 ∷ 8 ∷ 0 ∷ 0 ∷ 11 ∷ 13 ∷ [];
      labels = 8 ∷ 4 ∷ 8 ∷ 6 ∷ 8 ∷ 6 ∷ 7 ∷ 7 ∷ 3 ∷ 10 ∷ 3 ∷ 11 ∷ [];
      contents = 3 ∷ 3 ∷ 12 ∷ 11 ∷ 14 ∷ 5 ∷ 3 ∷ 6 ∷ 12 ∷ 14 ∷ 6 ∷ 6 ∷ [];
      given = 3 ∷ 11 ∷ [];
      beta = 15;
      gamma = 0;
      alpha = 4;
    }

-- ninetyseven
abbrev ninety_seven : Sheet
ninety_seven =
    record {
      p = 97;
      n = 4;
      selectors = 1 ∷ 0 ∷ 0 ∷ 1 ∷ 0 ∷ 0 ∷ 0 ∷ 1 ∷ 0 ∷ 96 ∷ 96 ∷ 96 ∷ 0 ∷ 1 ∷ 1 ∷ 0 ∷ 0 ∷ 85 ∷ 27 ∷ 44 ∷ [];
      labels = 11 ∷ 0 ∷ 0 ∷ 10 ∷ 9 ∷ 10 ∷ 7 ∷ 6 ∷ 4 ∷ 11 ∷ 0 ∷ 3 ∷ [];
      contents = 41 ∷ 10 ∷ 95 ∷ 64 ∷ 66 ∷ 41 ∷ 64 ∷ 90 ∷ 64 ∷ 66 ∷ 50 ∷ 63 ∷ [];
      given = 41 ∷ [];
      beta = 1;
      gamma = 38;
      alpha = 76;
    }

-- largest
abbrev pub largest : Sheet
largest =
    record {
      p = 2013265921;
      n = 4;
      selectors = 1 ∷ 1 ∷ 0 ∷ 1 ∷ 0 ∷ 0 ∷ 0 ∷ 1 ∷ 0 ∷ 0 ∷ 0 ∷ 2013265920 ∷ 0 ∷ 0 ∷ 0 ∷ 0 ∷ 0 ∷ 0 ∷ 0 ∷ 172552000 ∷ [];
      labels = 1 ∷ 10 ∷ 3 ∷ 6 ∷ 0 ∷ 10 ∷ 8 ∷ 10 ∷ 10 ∷ 2 ∷ 0 ∷ 4 ∷ [];
      contents = 1956909704 ∷ 1821105371 ∷ 1016968323 ∷ 1016968323 ∷ 1016968323 ∷ 1233393452 ∷ 1795440163 ∷ 1100620733 ∷ 1821105371 ∷ 1471242697 ∷ 1016968323 ∷ 647497099 ∷ [];
      given = 1956909704 ∷ 1016968323 ∷ [];
      beta = 725436963;
      gamma = 516630279;
      alpha = 1;
    }

-- public044
abbrev unbound : Sheet
unbound =
    record {
      p = 97;
      n = 4;
      selectors = 1 ∷ 1 ∷ 1 ∷ 1 ∷ 0 ∷ 0 ∷ 0 ∷ 0 ∷ 0 ∷ 0 ∷ 0 ∷ 0 ∷ 0 ∷ 0 ∷ 0 ∷ 0 ∷ 0 ∷ 0 ∷ 34 ∷ 0 ∷ [];
      labels = 1 ∷ 9 ∷ 11 ∷ 2 ∷ 8 ∷ 7 ∷ 4 ∷ 5 ∷ 3 ∷ 6 ∷ 10 ∷ 0 ∷ [];
      contents = 64 ∷ 5 ∷ 57 ∷ 65 ∷ 15 ∷ 94 ∷ 14 ∷ 96 ∷ 44 ∷ 33 ∷ 78 ∷ 43 ∷ [];
      given = 64 ∷ 65 ∷ 14 ∷ 33 ∷ [];
      beta = 34;
      gamma = 88;
      alpha = 1;
    }

-- brokenrow
abbrev broken_row : Sheet
broken_row =
    record {
      p = 17;
      n = 4;
      selectors = 1 ∷ 1 ∷ 3 ∷ 1 ∷ 0 ∷ 0 ∷ 8 ∷ 1 ∷ 0 ∷ 0 ∷ 11 ∷ 16 ∷ 0 ∷ 0 ∷ 2 ∷ 0 ∷ 0 ∷ 0 ∷ 11 ∷ 4 ∷ [];
      labels = 0 ∷ 7 ∷ 7 ∷ 7 ∷ 0 ∷ 0 ∷ 0 ∷ 0 ∷ 7 ∷ 0 ∷ 0 ∷ 0 ∷ [];
      contents = 14 ∷ 14 ∷ 13 ∷ 13 ∷ 14 ∷ 14 ∷ 13 ∷ 14 ∷ 14 ∷ 13 ∷ 14 ∷ 10 ∷ [];
      given = 14 ∷ 13 ∷ [];
      beta = 2;
      gamma = 1;
      alpha = 16;
    }

-- brokenposition
abbrev broken_position : Sheet
broken_position =
    record {
      p = 17;
      n = 2;
      selectors = 1 ∷ 2 ∷ 0 ∷ 14 ∷ 0 ∷ 2 ∷ 0 ∷ 3 ∷ 0 ∷ 4 ∷ [];
      labels = 1 ∷ 0 ∷ 5 ∷ 5 ∷ 2 ∷ 3 ∷ [];
      contents = 9 ∷ 16 ∷ 9 ∷ 4 ∷ 9 ∷ 13 ∷ [];
      given = 9 ∷ [];
      beta = 0;
      gamma = 0;
      alpha = 16;
    }

-- zerorow
abbrev zero_row : Sheet
zero_row =
    record {
      p = 17;
      n = 4;
      selectors = 1 ∷ 1 ∷ 1 ∷ 0 ∷ 0 ∷ 0 ∷ 1 ∷ 0 ∷ 0 ∷ 0 ∷ 16 ∷ 0 ∷ 0 ∷ 0 ∷ 0 ∷ 0 ∷ 0 ∷ 0 ∷ 7 ∷ 0 ∷ [];
      labels = 1 ∷ 6 ∷ 6 ∷ 6 ∷ 6 ∷ 1 ∷ 1 ∷ 1 ∷ 1 ∷ 1 ∷ 1 ∷ 1 ∷ [];
      contents = 10 ∷ 10 ∷ 10 ∷ 10 ∷ 10 ∷ 10 ∷ 10 ∷ 10 ∷ 10 ∷ 10 ∷ 10 ∷ 10 ∷ [];
      given = 10 ∷ 10 ∷ [];
      beta = 1;
      gamma = 5;
      alpha = 16;
    }

-- largestposition
abbrev largest_position : Sheet
largest_position =
    record {
      p = 2013265921;
      n = 2;
      selectors = 1 ∷ 1186321816 ∷ 0 ∷ 458301168 ∷ 0 ∷ 1084183007 ∷ 0 ∷ 1394348527 ∷ 0 ∷ 217699638 ∷ [];
      labels = 2 ∷ 0 ∷ 0 ∷ 2 ∷ 1 ∷ 1 ∷ [];
      contents = 178772313 ∷ 632754882 ∷ 1621159078 ∷ 632754882 ∷ 469316525 ∷ 1621159078 ∷ [];
      given = 178772313 ∷ [];
      beta = 413723128;
      gamma = 1;
      alpha = 1;
    }

-- largestzero
abbrev largest_zero : Sheet
largest_zero =
    record {
      p = 2013265921;
      n = 2;
      selectors = 1 ∷ 0 ∷ 0 ∷ 0 ∷ 0 ∷ 0 ∷ 0 ∷ 0 ∷ 0 ∷ 0 ∷ [];
      labels = 1 ∷ 1 ∷ 0 ∷ 2 ∷ 0 ∷ 2 ∷ [];
      contents = 1356271997 ∷ 931548628 ∷ 931548628 ∷ 1356271997 ∷ 941305220 ∷ 941305220 ∷ [];
      given = 1356271997 ∷ [];
      beta = 1;
      gamma = 1071961662;
      alpha = 2013265920;
    }

-- what preparing writes for the three valid sheets, and their transcripts

abbrev seventeen_prepared : List ℕ
seventeen_prepared = 14 ∷ 4 ∷ 13 ∷ 4 ∷ 3 ∷ 9 ∷ 11 ∷ 11 ∷ 7 ∷ 11 ∷ 2 ∷ 14 ∷ 8 ∷ 3 ∷ 4 ∷ 2 ∷ 6 ∷ 14 ∷ 8 ∷ 6 ∷ 5 ∷ 7 ∷ 13 ∷ 8 ∷ 12 ∷ 0 ∷ 3 ∷ 3 ∷ 0 ∷ 0 ∷ 0 ∷ 8 ∷ []

abbrev seventeen_transcript : List ℕ
seventeen_transcript = 12 ∷ 14 ∷ 8 ∷ 3 ∷ 3 ∷ 3 ∷ 10 ∷ 4 ∷ 13 ∷ 16 ∷ 16 ∷ 1 ∷ 0 ∷ 16 ∷ 7 ∷ 12 ∷ 15 ∷ 5 ∷ 2 ∷ 5 ∷ 9 ∷ 10 ∷ 8 ∷ 11 ∷ 10 ∷ []

abbrev ninety_seven_prepared : List ℕ
ninety_seven_prepared = 49 ∷ 30 ∷ 0 ∷ 19 ∷ 73 ∷ 54 ∷ 24 ∷ 43 ∷ 72 ∷ 73 ∷ 73 ∷ 73 ∷ 49 ∷ 67 ∷ 0 ∷ 78 ∷ 39 ∷ 83 ∷ 23 ∷ 49 ∷ 13 ∷ 51 ∷ 7 ∷ 91 ∷ 64 ∷ 52 ∷ 33 ∷ 50 ∷ 20 ∷ 50 ∷ 52 ∷ 0 ∷ []

abbrev ninety_seven_transcript : List ℕ
ninety_seven_transcript = 83 ∷ 78 ∷ 18 ∷ 56 ∷ 54 ∷ 86 ∷ 93 ∷ 68 ∷ 90 ∷ 56 ∷ 38 ∷ 8 ∷ 49 ∷ 46 ∷ 44 ∷ 56 ∷ 71 ∷ 88 ∷ 29 ∷ 50 ∷ 18 ∷ 21 ∷ 79 ∷ 19 ∷ 39 ∷ []

abbrev largest_prepared : List ℕ
largest_prepared = 503316481 ∷ 1509949441 ∷ 503316480 ∷ 1509949441 ∷ 1509949441 ∷ 1942050569 ∷ 503316480 ∷ 71215352 ∷ 503316480 ∷ 71215352 ∷ 1509949441 ∷ 1942050569 ∷ 0 ∷ 0 ∷ 0 ∷ 0 ∷ 43138000 ∷ 1664310411 ∷ 1970127921 ∷ 348955510 ∷ 1890071282 ∷ 1006632969 ∷ 123194639 ∷ 1006632953 ∷ 1704359424 ∷ 516404282 ∷ 308906001 ∷ 1496861174 ∷ 432101136 ∷ 432101601 ∷ 432101136 ∷ 432100640 ∷ []

abbrev largest_transcript : List ℕ
largest_transcript = 50190781 ∷ 1101224727 ∷ 819351192 ∷ 1999408925 ∷ 232282727 ∷ 1186754120 ∷ 1228580325 ∷ 1186754120 ∷ 676424581 ∷ 1409873175 ∷ 742612266 ∷ 201324222 ∷ 977496526 ∷ 237887515 ∷ 1211977324 ∷ 1599170478 ∷ 1739109928 ∷ 1878052840 ∷ 329032804 ∷ 1100539225 ∷ 1847986093 ∷ 1539179246 ∷ 1638934222 ∷ 121264089 ∷ 1961147648 ∷ []

-- THE CASES OF 17 AND 97

abbrev pub table : List Case
table =
    record { what = "17: gates with public inputs"; is = numbers (gates seventeen); should = numbers (0 ∷ 0 ∷ 0 ∷ 0 ∷ []) }
    ∷ record { what = "17: 14, 9, 10, 11 nowhere"; is = numbers (broken seventeen); should = numbers (2 ∷ 4 ∷ 12 ∷ 4 ∷ []) }
    ∷ record { what = "17: prepared"; is = numbers (prepared 17 4 (constraints seventeen)); should = numbers seventeen_prepared }
    ∷ record { what = "17: transcript"; is = perhaps (transcript_of seventeen); should = perhaps (some seventeen_transcript) }
    ∷ record { what = "17: row check"; is = rows (row_check seventeen (1 ∷ 11 ∷ 13 ∷ 9 ∷ [])); should = rows pass }
    ∷ record { what = "17: point check, zeta 4"; is = at_point (point_check seventeen seventeen_prepared seventeen_transcript 4); should = at_point accept }
    ∷ record { what = "17: row check, z(0) is 2"; is = rows (row_check seventeen (2 ∷ 11 ∷ 13 ∷ 9 ∷ [])); should = rows (fails start_identity 0) }
    ∷ record { what = "17: row check, z(3) is 8"; is = rows (row_check seventeen (1 ∷ 11 ∷ 13 ∷ 8 ∷ [])); should = rows (fails step_identity 2) }
    ∷ record { what = "17: point check, zeta 2"; is = at_point (point_check seventeen seventeen_prepared seventeen_transcript 2); should = at_point accept }
    ∷ record { what = "17: point check, zeta 2, last number changed"; is = at_point (point_check seventeen seventeen_prepared (12 ∷ 14 ∷ 8 ∷ 3 ∷ 3 ∷ 3 ∷ 10 ∷ 4 ∷ 13 ∷ 16 ∷ 16 ∷ 1 ∷ 0 ∷ 16 ∷ 7 ∷ 12 ∷ 15 ∷ 5 ∷ 2 ∷ 5 ∷ 9 ∷ 10 ∷ 8 ∷ 11 ∷ 11 ∷ []) 2); should = at_point reject }
    ∷ record { what = "17, refused by 9: gates"; is = numbers (gates broken_row); should = numbers (0 ∷ 0 ∷ 0 ∷ 4 ∷ []) }
    ∷ record { what = "17, refused by 9: at row 3"; is = numbers (broken broken_row); should = numbers (2 ∷ 3 ∷ 11 ∷ 4 ∷ []) }
    ∷ record { what = "17, refused by 9: row check"; is = rows (row_check broken_row (1 ∷ 0 ∷ 0 ∷ 0 ∷ [])); should = rows (fails gate_identity 3) }
    ∷ record { what = "17, refused by 10: at position 3"; is = numbers (broken broken_position); should = numbers (1 ∷ 2 ∷ 3 ∷ 2 ∷ []) }
    ∷ record { what = "17, refused by 11: at row 2"; is = numbers (broken zero_row); should = numbers (2 ∷ 4 ∷ 12 ∷ 2 ∷ []) }
    ∷ record { what = "97: gates with public inputs"; is = numbers (gates ninety_seven); should = numbers (0 ∷ 0 ∷ 0 ∷ 0 ∷ []) }
    ∷ record { what = "97: 14, 9, 10, 11 nowhere"; is = numbers (broken ninety_seven); should = numbers (1 ∷ 4 ∷ 12 ∷ 4 ∷ []) }
    ∷ record { what = "97: prepared"; is = numbers (prepared 97 4 (constraints ninety_seven)); should = numbers ninety_seven_prepared }
    ∷ record { what = "97: transcript"; is = perhaps (transcript_of ninety_seven); should = perhaps (some ninety_seven_transcript) }
    ∷ record { what = "97: row check"; is = rows (row_check ninety_seven (1 ∷ 76 ∷ 88 ∷ 31 ∷ [])); should = rows pass }
    ∷ record { what = "97: point check, zeta 31"; is = at_point (point_check ninety_seven ninety_seven_prepared ninety_seven_transcript 31); should = at_point accept }
    ∷ record { what = "97, refused by 14: at row 2"; is = numbers (broken unbound); should = numbers (2 ∷ 2 ∷ 12 ∷ 4 ∷ []) }
    ∷ []

-- z on the rows
abbrev pub z_numbers : List ℕ
z_numbers = 1 ∷ 176312996 ∷ 352415857 ∷ 1367991329 ∷ []

abbrev pub largest_table : List Case
largest_table =
    record { what = "tags"; is = numbers (tab (tag 2013265921 4) 12); should = numbers (1 ∷ 1728404513 ∷ 2013265920 ∷ 284861408 ∷ 31 ∷ 1235625957 ∷ 2013265890 ∷ 777639964 ∷ 961 ∷ 52352168 ∷ 2013264960 ∷ 1960913753 ∷ []) }
    ∷ record { what = "permutation"; is = numbers (tab (permutation 12 (constraints largest).label) 12); should = numbers (0 ∷ 5 ∷ 2 ∷ 3 ∷ 10 ∷ 7 ∷ 6 ∷ 8 ∷ 1 ∷ 9 ∷ 4 ∷ 11 ∷ []) }
    ∷ record { what = "gates with public inputs"; is = numbers (gates largest); should = numbers (0 ∷ 0 ∷ 0 ∷ 0 ∷ []) }
    ∷ record { what = "14, 9, 10, 11 nowhere"; is = numbers (broken largest); should = numbers (2 ∷ 4 ∷ 12 ∷ 4 ∷ []) }
    ∷ record { what = "N"; is = numbers (tab (row_n 2013265921 4 (witness largest) largest.beta largest.gamma) 4); should = numbers (978481072 ∷ 662039115 ∷ 1617936002 ∷ 392445123 ∷ []) }
    ∷ record { what = "D"; is = numbers (tab (row_d 2013265921 4 (constraints largest) (witness largest) largest.beta largest.gamma) 4); should = numbers (1022427386 ∷ 979458398 ∷ 242013346 ∷ 293572783 ∷ []) }
    ∷ record { what = "z on the rows"; is = perhaps (z_rows 2013265921 4 (constraints largest) (witness largest) largest.beta largest.gamma); should = perhaps (some z_numbers) }
    ∷ record { what = "row check"; is = rows (row_check largest (1 ∷ 176312996 ∷ 352415857 ∷ 1367991329 ∷ [])); should = rows pass }
    ∷ record { what = "prepared"; is = numbers (prepared 2013265921 4 (constraints largest)); should = numbers largest_prepared }
    ∷ record { what = "wires"; is = numbers (wires_of 0 2013265921 4 (witness largest) [] 0 ++ (wires_of 0 2013265921 4 (witness largest) [] 1 ++ wires_of 0 2013265921 4 (witness largest) [] 2)); should = numbers (50190781 ∷ 1101224727 ∷ 819351192 ∷ 1999408925 ∷ 232282727 ∷ 1186754120 ∷ 1228580325 ∷ 1186754120 ∷ 676424581 ∷ 1409873175 ∷ 742612266 ∷ 201324222 ∷ []) }
    ∷ record { what = "z"; is = perhaps (z_of 0 2013265921 4 (constraints largest) (witness largest) [] largest.beta largest.gamma); should = perhaps (some (977496526 ∷ 237887515 ∷ 1211977324 ∷ 1599170478 ∷ [])) }
    ∷ record { what = "t, of the prepared constraints, the wires and z"; is = numbers (quotient 0 2013265921 4 (point_f 0 2013265921 4 largest_prepared (publics largest) largest_transcript largest.beta largest.gamma largest.alpha)); should = numbers (1739109928 ∷ 1878052840 ∷ 329032804 ∷ 1100539225 ∷ 1847986093 ∷ 1539179246 ∷ 1638934222 ∷ 121264089 ∷ 1961147648 ∷ []) }
    ∷ record { what = "point check, zeta 2"; is = at_point (point_check largest largest_prepared largest_transcript 2); should = at_point accept }
    ∷ record { what = "refused by 10: at position 3"; is = numbers (broken largest_position); should = numbers (1 ∷ 2 ∷ 3 ∷ 2 ∷ []) }
    ∷ record { what = "refused by 10: row check, the last step"; is = rows (row_check largest_position (1 ∷ 1607777443 ∷ [])); should = rows (fails step_identity 1) }
    ∷ record { what = "refused by 11: at row 1"; is = numbers (broken largest_zero); should = numbers (1 ∷ 2 ∷ 6 ∷ 1 ∷ []) }
    ∷ []

-- BOTH

pub record Further : Type 0 where
  pub small : All (λ r. r.is ≡ r.should) table
  pub large : All (λ r. r.is ≡ r.should) largest_table
