-- The reasons for turning down a call that is lent a circuit or its polynomials, in document 01's order, with document 02's 14 behind 8. Each call
-- has the table of the lengths due, its buffers in the order in which they are counted; then all its reasons: those of p, n, l and the lengths
-- (2, 3, 4, 6), and those of the numbers in the buffers (7, 8, 14). The reason of a block length, 17, belongs to request 10: no call has it yet.
--
-- bad_label n labels         8: a label is 3n or more; detail: the lowest such position
-- unbound_row C l            the lowest row below l that is no public row; l where each is one
-- bad_public_row C l         14: a row below l is no public row; detail: the lowest such row
-- is_block n block           `block` is a block length of n rows (document 02, request 10): a power of two (its binary form has one 1) that divides n
-- bad_block n block          17: it is none
-- circuit_reasons n l selectors labels       8 and 14
-- number_reasons p n l xs selectors labels   7, for the elements end to end, then these
-- permutation_due, permutation_reasons   of `permutation`
-- prepare_due, prepare_reasons           of `prepare`
-- rows_due, rows_reasons                 of `check_rows`
-- point_due, point_reasons               of `check_point`, which takes a transcript of either length
-- prove_due e, prove_long e, prove_buffer_reasons e   the lengths due and the lengths that are lent, and the reasons, of `prove` (e is 0) and of `prove_blinded` (e is 1), but for
--                                        those that look at the witness (9, 10, 11) and that of a retired prime (16)
--
-- Assumes nothing.
use Rattle.std.specs.Prelude.{Bool, not, ◌&&◌, List, [], ◌∷◌, ◌++◌, ℕ, ◌*◌, ◌%◌, eqb, length, replicate}
use Rattle.std.specs.Int.Count.{ones}
use Rattle.algebra.specs.Modular.{first}
use Rattle.field.specs.Reasons.{Reason, lent_reasons, reason_at, first_above, bad_element}
use Rattle.transform.specs.Transform.{scratch_length}
use Rattle.circuit.specs.Circuit.{Constraints, is_public_row, lent_constraints}
use Rattle.circuit.specs.Buffers.{selectors_length, labels_length, witness_length, prepared_length, transcript_length, work_length, blinder_count, blinded_by}

abbrev pub bad_label : ℕ → List ℕ → Reason
bad_label n labels = reason_at 8 (first_above (3 * n) labels) (length labels)

unfoldable pub unbound_row : Constraints → ℕ → ℕ
unbound_row C l = first (λ i. not (is_public_row C i)) 0 l

abbrev pub bad_public_row : Constraints → ℕ → Reason
bad_public_row C l = reason_at 14 (unbound_row C l) l

unfoldable pub is_block : ℕ → ℕ → Bool
is_block n block = eqb (ones block) 1 && eqb (n % block) 0

abbrev pub bad_block : ℕ → ℕ → Reason
bad_block n block = record { number = 17; detail = 0; applies = not (is_block n block) }

abbrev pub circuit_reasons : (n l : ℕ) (selectors labels : List ℕ) → List Reason
circuit_reasons n l selectors labels = bad_label n labels ∷ bad_public_row (lent_constraints n selectors labels) l ∷ []

abbrev pub number_reasons : (p n l : ℕ) (elements selectors labels : List ℕ) → List Reason
number_reasons p n l elements selectors labels = bad_element p elements ∷ circuit_reasons n l selectors labels

-- `permutation`: labels, positions
abbrev pub permutation_due : ℕ → List ℕ
permutation_due n = labels_length n ∷ labels_length n ∷ []

abbrev pub permutation_reasons : (p n : ℕ) (labels positions : List ℕ) → List Reason
permutation_reasons p n labels positions =
    lent_reasons p n 0 (length labels ∷ length positions ∷ []) (permutation_due n) ++ (bad_label n labels ∷ [])

-- `prepare`: selectors, labels, prepared circuit, scratch
abbrev pub prepare_due : ℕ → List ℕ
prepare_due n = selectors_length n ∷ labels_length n ∷ prepared_length n ∷ scratch_length n ∷ []

abbrev pub prepare_reasons : (p n l : ℕ) (selectors labels prepared scratch : List ℕ) → List Reason
prepare_reasons p n l selectors labels prepared scratch =
    lent_reasons p n l (length selectors ∷ length labels ∷ length prepared ∷ length scratch ∷ []) (prepare_due n)
    ++ number_reasons p n l selectors selectors labels

-- `check_rows`: selectors, labels, witness, public inputs, row values of z, challenges
abbrev pub rows_due : (n l : ℕ) → List ℕ
rows_due n l = selectors_length n ∷ labels_length n ∷ witness_length n ∷ l ∷ n ∷ 2 ∷ []

abbrev pub rows_reasons : (p n l : ℕ) (selectors labels witness publics z challenges : List ℕ) → List Reason
rows_reasons p n l selectors labels witness publics z challenges =
    lent_reasons p n l (length selectors ∷ length labels ∷ length witness ∷ length publics ∷ length z ∷ length challenges ∷ []) (rows_due n l)
    ++ number_reasons p n l (selectors ++ (witness ++ (publics ++ (z ++ challenges)))) selectors labels

-- `check_point`: public inputs, prepared circuit, transcript, challenges, scratch
abbrev pub point_due : (e n l : ℕ) → List ℕ
point_due e n l = l ∷ prepared_length n ∷ transcript_length e n ∷ 4 ∷ work_length e n ∷ []

abbrev pub point_reasons : (p n l : ℕ) (publics prepared transcript challenges scratch : List ℕ) → List Reason
point_reasons p n l publics prepared transcript challenges scratch =
    lent_reasons p n l (length publics ∷ length prepared ∷ length transcript ∷ length challenges ∷ length scratch ∷ []) (point_due (blinded_by n transcript) n l)
    ++ (bad_element p (publics ++ (prepared ++ (transcript ++ challenges))) ∷ [])

-- `prove`: selectors, labels, witness, public inputs, transcript, challenges, scratch; `prove_blinded` has the blinders straight behind the challenges
abbrev pub prove_due : (e n l : ℕ) → List ℕ
prove_due e n l =
    selectors_length n ∷ labels_length n ∷ witness_length n ∷ l ∷ transcript_length e n ∷ 3 ∷ (replicate e blinder_count ++ (work_length e n ∷ []))

abbrev pub prove_long : (e : ℕ) (selectors labels witness publics transcript challenges blinders scratch : List ℕ) → List ℕ
prove_long e selectors labels witness publics transcript challenges blinders scratch =
    length selectors ∷ length labels ∷ length witness ∷ length publics ∷ length transcript ∷ length challenges
    ∷ (replicate e (length blinders) ++ (length scratch ∷ []))

-- where e is 0 there are no blinders
abbrev pub prove_buffer_reasons : (e p n l : ℕ) (selectors labels witness publics transcript challenges blinders scratch : List ℕ) → List Reason
prove_buffer_reasons e p n l selectors labels witness publics transcript challenges blinders scratch =
    lent_reasons p n l (prove_long e selectors labels witness publics transcript challenges blinders scratch) (prove_due e n l)
    ++ number_reasons p n l (selectors ++ (witness ++ (publics ++ (challenges ++ blinders)))) selectors labels
