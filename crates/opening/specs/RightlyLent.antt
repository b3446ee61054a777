-- Calls that are not turned down: exactly those whose numbers and buffers are lent rightly.
--
-- RightList list      one number or more, no more than there are polynomials by number, and each is a polynomial's
-- LentRightly         p and n are admissible, the lengths are those due, and the list is right
-- lent_list_numbers   no reason of the calls has number 0
-- lent_list_of, lent_list_taken   where no reason but 7 applies, the call is lent rightly; and back
-- opening_known, opening_taken    of either call: where no reason applies, it is lent rightly and counts elements only; and back
--
-- Assumes nothing.
use Rattle.std.specs.Prelude.{◌≡◌, refl, ◌≢◌, Bool, false, ◌||◌, List, [], ◌∷◌, ℕ, ◌≤◌, ◌<◌, eqb, ltb, length}
use Rattle.std.proofs.Common.{arith, ltb-false, ne_eqb, le-ltb}
use Rattle.std.proofs.lemmas.Bool.{eqb-false}
use Rattle.algebra.specs.Lists.{All}
use Rattle.algebra.specs.Search.{both_false}
use Rattle.field.specs.Reasons.{Reason, answer_of, lent_reasons, bad_element}
use Rattle.field.specs.ReasonLaws.{none_applies, taken, both_none, both_taken, elements_of, elements_none}
use Rattle.field.specs.Lent.{lent_numbers, lent_of, lent_taken}
use Rattle.circuit.specs.Buffers.{polynomial_count, work_length, blinded_by}
use Rattle.circuit.specs.Parts.{blinded_most}
use Rattle.opening.specs.Reasons.{opening_due, list_reasons, lent_list_reasons, counted, opening_reasons}
use Rattle.opening.specs.Buffers.{Checked}

pub record RightList (list : List ℕ) : Type 0 where
  pub some : 1 ≤ length list
  pub few : length list ≤ polynomial_count
  pub numbers : All (λ (k : ℕ). k < polynomial_count) list

pub record LentRightly (p n : ℕ) (prepared transcript list evaluations opening challenges scratch : List ℕ) : Type 0 where
  pub checked : Checked p n prepared transcript list evaluations opening challenges
  pub scratch_length_lem : length scratch ≡ work_length (blinded_by n transcript) n
  pub list_right : RightList list

-- THE LIST

list_of : (list : List ℕ) → (answer_of (list_reasons list)).number ≡ 0 → RightList list
list_of list e =
    let none = none_applies (list_reasons list) (omega arith, (omega arith, tt)) e in
    let long = both_false (eqb (length list) 0) (ltb polynomial_count (length list)) none.0 in
    record {
      some = omega (arith, eqb-false (length list) 0 long.0);
      few = ltb-false polynomial_count (length list) long.1;
      numbers = elements_of polynomial_count list none.1.0;
    }

list_taken : (list : List ℕ) → RightList list → answer_of (list_reasons list) ≡ record { number = 0; detail = 0 }
list_taken list L =
    let some : eqb (length list) 0 ≡ false = ne_eqb (length list) 0 (λ z. omega (arith, L.some)) in
    let long : (eqb (length list) 0 || ltb polynomial_count (length list)) ≡ false = rw some (le-ltb polynomial_count (length list) L.few) in
    taken (list_reasons list) (long, (elements_none polynomial_count list L.numbers, tt))

-- BOTH CALLS

module _ (p n : ℕ) (prepared transcript list evaluations opening challenges scratch : List ℕ) where
  abbrev long : List ℕ
  long = length prepared ∷ length transcript ∷ length list ∷ length evaluations ∷ length opening ∷ length challenges ∷ length scratch ∷ []

  -- the reasons of both calls but the last
  abbrev begun : List Reason
  begun = lent_list_reasons p n prepared transcript list evaluations opening challenges scratch

  pub lent_list_numbers : All (λ r. r.number ≢ 0) (lent_list_reasons p n prepared transcript list evaluations opening challenges scratch)
  lent_list_numbers = (omega arith, (omega arith, (omega arith, (omega arith, (omega arith, (omega arith, tt))))))

  pub lent_list_of : (answer_of (lent_list_reasons p n prepared transcript list evaluations opening challenges scratch)).number ≡ 0
      → LentRightly p n prepared transcript list evaluations opening challenges scratch
  lent_list_of e =
      let due = opening_due (blinded_by n transcript) n (length list) in
      let both = both_none (lent_reasons p n 0 long due) (list_reasons list) (lent_numbers p n 0 long due) e in
      let lent = lent_of p n 0 long due refl both.0 in
      record {
        checked = record {
          readable = record { blinded = blinded_most n transcript; admissible = lent.admissible; prepared_length_lem = cc lent.lengths; transcript_length_lem = cc lent.lengths };
          evaluations_length = cc lent.lengths;
          opening_length_lem = cc lent.lengths;
          challenges_length = cc lent.lengths;
        };
        scratch_length_lem = cc lent.lengths;
        list_right = list_of list both.1;
      }

  pub lent_list_taken : LentRightly p n prepared transcript list evaluations opening challenges scratch
      → answer_of (lent_list_reasons p n prepared transcript list evaluations opening challenges scratch) ≡ record { number = 0; detail = 0 }
  lent_list_taken L =
      let due = opening_due (blinded_by n transcript) n (length list) in
      let c = L.checked in
      both_taken (lent_reasons p n 0 long due) (list_reasons list) (lent_numbers p n 0 long due)
      (lent_taken
      (record {
        admissible = c.readable.admissible;
        publics_few = omega arith;
        lengths = cc (c.readable.prepared_length_lem, c.readable.transcript_length_lem, c.evaluations_length, c.opening_length_lem, c.challenges_length, L.scratch_length_lem);
      }))
      (list_taken list L.list_right)

  -- EACH CALL

  -- the elements that the call counts
  abbrev all : Bool → List ℕ
  all checks = counted p n prepared transcript list evaluations opening challenges scratch checks

  pub opening_known : (checks : Bool)
      → (answer_of (opening_reasons p n prepared transcript list evaluations opening challenges scratch checks)).number ≡ 0
      → LentRightly p n prepared transcript list evaluations opening challenges scratch
      × All (λ (x : ℕ). x < p) (counted p n prepared transcript list evaluations opening challenges scratch checks)
  opening_known checks e =
      let both = both_none begun (bad_element p (all checks) ∷ []) lent_list_numbers e in
      (lent_list_of both.0, elements_of p (all checks) (none_applies (bad_element p (all checks) ∷ []) (omega arith, tt) both.1).0)

  pub opening_taken : (checks : Bool) → LentRightly p n prepared transcript list evaluations opening challenges scratch
      → All (λ (x : ℕ). x < p) (counted p n prepared transcript list evaluations opening challenges scratch checks)
      → answer_of (opening_reasons p n prepared transcript list evaluations opening challenges scratch checks) ≡ record { number = 0; detail = 0 }
  opening_taken checks L a =
      both_taken begun (bad_element p (all checks) ∷ []) lent_list_numbers (lent_list_taken L)
      (taken (bad_element p (all checks) ∷ []) (elements_none p (all checks) a, tt))
