-- Openings on the worked sheet (the one of document 01), as one table under one statement.
--
-- prepared, transcript   what preparing writes for the sheet, and what the prover lays (protocol's table has it)
-- evaluated, opened, judged   the evaluations, the opening polynomial and the verdict of the definitions, for these two
-- answered               the answer of `open` to a list, all else being right
-- five, thirteen         the lists of a, b, c, z and t, and of all polynomials
-- table                  the cases; the openings up to that of a at 1 are those of a program not kept here
-- worked                 every case is right
--
-- Assumes nothing.
use Rattle.std.specs.Prelude.{◌≡◌, refl, List, [], ◌∷◌, ℕ, replicate}
use Rattle.std.specs.Int.Count.{ones}
use Rattle.algebra.specs.Lists.{tab, All}
use Rattle.algebra.specs.Modular.{pow_f, first, inverse}
use Rattle.algebra.specs.Polynomial.{reduced}
use Rattle.field.specs.Fields.{is_field, is_rows, greatest_rows, generator, root, point, multiplier, tag}
use Rattle.field.specs.Reasons.{answer_of, first_other, first_above}
use Rattle.transform.specs.Transform.{interpolation}
use Rattle.transform.specs.Parts.{laid}
use Rattle.circuit.specs.Circuit.{permutation}
use Rattle.circuit.specs.Buffers.{blinded_by}
use Rattle.protocol.specs.Protocol.{accept, reject}
use Rattle.protocol.specs.Protocol as protocol
use Rattle.protocol.specs.Worked.{circuit, transcript_worked, Value, Case, numbers, answer, at_point, ◌&◌}
use Rattle.opening.specs.Opening.{polynomial_of, evaluations_of, mixture_of, opening_of, opening_verdict}
use Rattle.opening.specs.Reasons.{open_reasons}

abbrev pub prepared : List ℕ
prepared = 9 ∷ 8 ∷ 9 ∷ 8 ∷ 16 ∷ 0 ∷ 9 ∷ 9 ∷ 0 ∷ 0 ∷ 16 ∷ 2 ∷ 6 ∷ 14 ∷ 12 ∷ 4 ∷ []

abbrev pub transcript : List ℕ
transcript = transcript_worked

abbrev pub evaluated : List ℕ → ℕ → Value
evaluated list x = numbers (evaluations_of 0 17 2 prepared transcript list x)

abbrev pub opened : List ℕ → ℕ → ℕ → Value
opened list x m = numbers (opening_of 0 17 2 prepared transcript list x m)

abbrev pub judged : List ℕ → List ℕ → List ℕ → ℕ → ℕ → Value
judged list s h x m = at_point (opening_verdict 0 17 2 prepared transcript list s h x m)

-- the evaluations' length is the one due
abbrev pub answered : List ℕ → Value
answered list = answer (answer_of (open_reasons 17 2 prepared transcript list list (0 ∷ 0 ∷ []) (2 ∷ 3 ∷ []) (replicate 32 0)))

-- a, b, c, z and t, and all thirteen
abbrev pub five : List ℕ
five = 8 ∷ 9 ∷ 10 ∷ 11 ∷ 12 ∷ []

abbrev pub thirteen : List ℕ
thirteen = 0 ∷ 1 ∷ 2 ∷ 3 ∷ 4 ∷ 5 ∷ 6 ∷ 7 ∷ five

abbrev pub table : List Case
table =
    record { what = "the prepared circuit"; is = numbers (protocol.prepared 17 2 circuit); should = numbers prepared }
    ∷ record { what = "a, b, c, z, t at 2"; is = evaluated five 2; should = numbers (0 ∷ 10 ∷ 3 ∷ 3 ∷ 8 ∷ []) }
    ∷ record { what = "their opening, m 3"; is = opened five 2 3; should = numbers (14 ∷ 8 ∷ []) }
    ∷ record { what = "accepted"; is = judged five (0 ∷ 10 ∷ 3 ∷ 3 ∷ 8 ∷ []) (14 ∷ 8 ∷ []) 2 3; should = at_point accept }
    ∷ record { what = "all thirteen at 2"; is = evaluated thirteen 2; should = numbers (8 ∷ 8 ∷ 16 ∷ 10 ∷ 0 ∷ 3 ∷ 0 ∷ 3 ∷ 0 ∷ 10 ∷ 3 ∷ 3 ∷ 8 ∷ []) }
    ∷ record { what = "their opening, m 5"; is = opened thirteen 2 5; should = numbers (5 ∷ 9 ∷ []) }
    ∷ record { what = "accepted"; is = judged thirteen (8 ∷ 8 ∷ 16 ∷ 10 ∷ 0 ∷ 3 ∷ 0 ∷ 3 ∷ 0 ∷ 10 ∷ 3 ∷ 3 ∷ 8 ∷ []) (5 ∷ 9 ∷ []) 2 5; should = at_point accept }
    ∷ record { what = "z twice at 16, row 1's point"; is = evaluated (11 ∷ 11 ∷ []) 16; should = numbers (14 ∷ 14 ∷ []) }
    ∷ record { what = "their opening, m 1"; is = opened (11 ∷ 11 ∷ []) 16 1; should = numbers (4 ∷ 0 ∷ []) }
    ∷ record { what = "accepted"; is = judged (11 ∷ 11 ∷ []) (14 ∷ 14 ∷ []) (4 ∷ 0 ∷ []) 16 1; should = at_point accept }
    ∷ record { what = "t at 0"; is = evaluated (12 ∷ []) 0; should = numbers (9 ∷ []) }
    ∷ record { what = "its opening, m 0"; is = opened (12 ∷ []) 0 0; should = numbers (12 ∷ 15 ∷ []) }
    ∷ record { what = "accepted"; is = judged (12 ∷ []) (9 ∷ []) (12 ∷ 15 ∷ []) 0 0; should = at_point accept }
    ∷ record { what = "a at 1, row 0's point"; is = evaluated (8 ∷ []) 1; should = numbers (2 ∷ []) }
    ∷ record { what = "its opening, m 7"; is = opened (8 ∷ []) 1 7; should = numbers (15 ∷ 0 ∷ []) }
    ∷ record { what = "accepted"; is = judged (8 ∷ []) (2 ∷ []) (15 ∷ 0 ∷ []) 1 7; should = at_point accept }
    ∷ record { what = "a and b at 2 as 1 and 11, which are wrong: accepted with m 16"; is = judged (8 ∷ 9 ∷ []) (1 ∷ 11 ∷ []) (8 ∷ 0 ∷ []) 2 16; should = at_point accept }
    ∷ record { what = "and not with m 15"; is = judged (8 ∷ 9 ∷ []) (1 ∷ 11 ∷ []) (8 ∷ 0 ∷ []) 2 15; should = at_point reject }
    ∷ record { what = "equal at 0 and 2, but not in every coefficient"; is = judged (8 ∷ []) (0 ∷ []) (15 ∷ 1 ∷ []) 2 3; should = at_point reject }
    ∷ record { what = "an empty list: 12"; is = answered []; should = answer (record { number = 12; detail = 0 }) }
    ∷ record { what = "fourteen numbers, one above 12: 12"; is = answered (13 ∷ thirteen); should = answer (record { number = 12; detail = 0 }) }
    ∷ record { what = "the third number is 13: 13, detail 2"; is = answered (0 ∷ 12 ∷ 13 ∷ 14 ∷ []); should = answer (record { number = 13; detail = 2 }) }
    ∷ record { what = "all thirteen: accepted"; is = answered thirteen; should = answer (record { number = 0; detail = 0 }) }
    ∷ []

pub worked : All (λ r. r.is ≡ r.should) table
unfolding tab pow_f first inverse reduced is_field is_rows greatest_rows generator root point multiplier tag first_other first_above interpolation permutation laid protocol.prepared polynomial_of evaluations_of mixture_of opening_of opening_verdict blinded_by ones
worked = refl & refl & refl & refl & refl & refl & refl & refl & refl & refl & refl & refl & refl & refl & refl & refl & refl & refl & refl & refl & refl & refl & refl & tt
