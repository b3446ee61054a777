-- The reasons for turning down `open` and `check_opening`, in order: 2, 3 and 6, then those of the list, 12 and 13, then 7.
--
-- opening_due e n k     the lengths due, e being 1 where the transcript is blinded, else 0, and k the list's: prepared circuit, transcript, list (of any
--                       length), evaluations, opening polynomial, challenges, scratch
-- bad_list list         12: the list is empty, or longer than there are polynomials by number
-- bad_number list       13: a number in it is no polynomial's; detail: the first such place in the list
-- list_reasons list     12 and 13
-- lent_list_reasons     the reasons of both calls but the last: those of p, n and the lengths, then those of the list
-- counted checks        the elements that 7 counts, end to end: `open` (false) only writes the evaluations and the opening polynomial, and skips them
-- opening_reasons       all reasons of `check_opening` (true) or of `open` (false)
-- open_reasons, check_reasons   the same by name
--
-- Assumes nothing.
use Rattle.std.specs.Prelude.{Bool, true, false, ◌||◌, List, [], ◌∷◌, ◌++◌, ℕ, eqb, ltb, length}
use Rattle.field.specs.Reasons.{Reason, lent_reasons, reason_at, first_above, bad_element}
use Rattle.circuit.specs.Buffers.{polynomial_count, prepared_length, transcript_length, opening_length, work_length, blinded_by}

abbrev pub opening_due : (e n k : ℕ) → List ℕ
opening_due e n k = prepared_length n ∷ transcript_length e n ∷ k ∷ k ∷ opening_length e n ∷ 2 ∷ work_length e n ∷ []

abbrev pub bad_list : List ℕ → Reason
bad_list list = record { number = 12; detail = 0; applies = eqb (length list) 0 || ltb polynomial_count (length list) }

abbrev pub bad_number : List ℕ → Reason
bad_number list = reason_at 13 (first_above polynomial_count list) (length list)

abbrev pub list_reasons : List ℕ → List Reason
list_reasons list = bad_list list ∷ bad_number list ∷ []

module _ (p n : ℕ) (prepared transcript list evaluations opening challenges scratch : List ℕ) where
  abbrev pub lent_list_reasons : List Reason
  lent_list_reasons =
      lent_reasons p n 0
      (length prepared ∷ length transcript ∷ length list ∷ length evaluations ∷ length opening ∷ length challenges ∷ length scratch ∷ [])
      (opening_due (blinded_by n transcript) n (length list))
      ++ list_reasons list

  abbrev pub counted : Bool → List ℕ
  counted true = prepared ++ (transcript ++ (evaluations ++ (opening ++ challenges)))
  counted false = prepared ++ (transcript ++ challenges)

  abbrev pub opening_reasons : Bool → List Reason
  opening_reasons checks = lent_list_reasons ++ (bad_element p (counted checks) ∷ [])

  abbrev pub open_reasons : List Reason
  open_reasons = opening_reasons false

  abbrev pub check_reasons : List Reason
  check_reasons = opening_reasons true
