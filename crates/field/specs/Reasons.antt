-- Why a call is turned down. Each call has an ordered list of reasons, and its answer is the first that applies.
--
-- Answer              a number and a detail, as document 01 has them
-- number_of c         the number of a cause, the code's name of a reason
-- told r              what the result r of a call tells: number 0 and detail 0 (accepted), or those of the refusal
-- Outcome A           an answer, and what a call gives: none if refused
-- outcome r           the result r of a call, as its answer and what it gives
-- given r             the number that an outcome gives; 0 if refused
-- Reason              a number of document 01, its detail, and whether it applies
-- answer_of rs        the number and detail of the first reason that applies; number 0, detail 0 (accepted) where none does
-- is_accepted a       the answer's number is 0
-- bad_field p         2: p is none of the three primes
-- retired_field p     16: p may not be proved with. It stands behind 2, so p is 97
-- bad_rows p n most   3: n is no power of two, or outside its prime's bounds, or above `most`
-- bad_publics n l     4: l exceeds n
-- shape_reasons p n l most   the reasons of p, n and l: 2, 3 and 4. A call that is lent no l has l = 0
-- first_other long due       the first place, from 0, at which two tables differ; their length where they agree
-- bad_lengths long due       6: a buffer's length differs from the one due; detail: the first such place, from 1. Both tables have the buffers in their order
-- lent_reasons p n l long due   the reasons with which a call that is lent p and n begins: those of p, n and l, then that of the lengths
-- reason_at number at count  a reason that a search found at a place, which is its detail; it applies where the place is below the number of places
-- first_above p xs    the place of the first number of xs that is p or more; the length where there is none
-- bad_element p xs    7: a number of xs is p or more; detail: the place of the first
-- straight_after k r rs   the reasons rs, with r put in straight after the one of number k
-- prime_reasons p     2 and 16: the reasons of a prime that is to be proved with
-- current_only p rs   the reasons rs of a call that takes only primes that may be proved with: 16 straight after 2
-- inverse_reasons p x the reasons of `inverse`
-- inverse_as o        the inverse as code has it
-- Inverts p x r       what `inverse` promises of its outcome r
--
-- Assumes nothing.
use Rattle.std.specs.Prelude.{◌≡◌, Bool, not, cond, ◌||◌, List, [], ◌∷◌, ◌++◌, ℕ, suc, eqb, leb, ltb, length, get_or}
use Rattle.std.specs.Prelude.{Option, None, Some, Result, Ok, Err}
use Rattle.std.specs.Option.{unwrap_or}
use Rattle.std.proofs.Math.Option as math
use Rattle.algebra.specs.Modular.{first, inverse}
use Rattle.field.specs.declared.refusal.Cause.{Cause}
use Rattle.field.specs.declared.refusal.Cause.TheVariants as cause
use Rattle.field.specs.declared.refusal.Refusal.{Refusal}
use Rattle.field.specs.Fields.{is_field, is_current, is_rows, greatest_rows}

pub record Answer : Type 0 where
  pub number : ℕ
  pub detail : ℕ

abbrev pub number_of : Cause → ℕ
number_of cause.Sheet = 1
number_of cause.Prime = 2
number_of cause.Rows = 3
number_of cause.Publics = 4
number_of cause.Line = 5
number_of cause.Length = 6
number_of cause.Element = 7
number_of cause.Label = 8
number_of cause.Gate = 9
number_of cause.Copy = 10
number_of cause.Factor = 11
number_of cause.List = 12
number_of cause.Polynomial = 13
number_of cause.PublicRow = 14
number_of cause.Unlike = 15
number_of cause.Retired = 16
number_of cause.Block = 17

abbrev pub told : {A : Type 0} → Result A Refusal → Answer
told (Ok a) = record { number = 0; detail = 0 }
told (Err e) = record { number = number_of e.cause; detail = e.detail }

pub record Outcome (A : Type 0) : Type 0 where
  pub answer : Answer
  pub value : Option A

abbrev pub outcome : {A : Type 0} → Result A Refusal → Outcome A
outcome (Ok a) = record { answer = record { number = 0; detail = 0 }; value = Some a }
outcome (Err e) = record { answer = record { number = number_of e.cause; detail = e.detail }; value = None }

abbrev pub given : Outcome ℕ → ℕ
given r = unwrap_or r.value 0

pub record Reason : Type 0 where
  pub number : ℕ
  pub detail : ℕ
  pub applies : Bool

abbrev pub answer_of : List Reason → Answer
answer_of [] = record { number = 0; detail = 0 }
answer_of (r ∷ rs) = cond r.applies (record { number = r.number; detail = r.detail }) (answer_of rs)

abbrev pub is_accepted : Answer → Bool
is_accepted a = eqb a.number 0

abbrev pub bad_field : ℕ → Reason
bad_field p = record { number = 2; detail = 0; applies = not (is_field p) }

abbrev pub retired_field : ℕ → Reason
retired_field p = record { number = 16; detail = 0; applies = not (is_current p) }

abbrev pub bad_rows : ℕ → ℕ → ℕ → Reason
bad_rows p n most = record { number = 3; detail = 0; applies = not (is_rows p n) || ltb most n }

abbrev pub bad_publics : ℕ → ℕ → Reason
bad_publics n l = record { number = 4; detail = 0; applies = ltb n l }

abbrev pub shape_reasons : (p n l most : ℕ) → List Reason
shape_reasons p n l most = bad_field p ∷ bad_rows p n most ∷ bad_publics n l ∷ []

unfoldable pub first_other : List ℕ → List ℕ → ℕ
first_other long due = first (λ k. not (eqb (get_or long k 0) (get_or due k 0))) 0 (length due)

abbrev pub bad_lengths : List ℕ → List ℕ → Reason
bad_lengths long due = record { number = 6; detail = suc (first_other long due); applies = ltb (first_other long due) (length due) }

-- off a sheet, n may be as great as its prime allows
abbrev pub lent_reasons : (p n l : ℕ) (long due : List ℕ) → List Reason
lent_reasons p n l long due = shape_reasons p n l (greatest_rows p) ++ (bad_lengths long due ∷ [])

abbrev pub reason_at : (number at count : ℕ) → Reason
reason_at number at count = record { number = number; detail = at; applies = ltb at count }

-- the place of the first number that is p or more; the length where there is none
unfoldable pub first_above : ℕ → List ℕ → ℕ
first_above p xs = first (λ k. leb p (get_or xs k 0)) 0 (length xs)

abbrev pub bad_element : ℕ → List ℕ → Reason
bad_element p xs = reason_at 7 (first_above p xs) (length xs)

abbrev pub straight_after : ℕ → Reason → List Reason → List Reason
straight_after k r [] = []
straight_after k r (q ∷ rs) = cond (eqb q.number k) (q ∷ r ∷ rs) (q ∷ straight_after k r rs)

abbrev pub prime_reasons : ℕ → List Reason
prime_reasons p = bad_field p ∷ retired_field p ∷ []

abbrev pub current_only : ℕ → List Reason → List Reason
current_only p rs = straight_after 2 (retired_field p) rs

abbrev pub inverse_reasons : ℕ → ℕ → List Reason
inverse_reasons p x = bad_field p ∷ bad_element p (x ∷ []) ∷ []

abbrev pub inverse_as : math.Option ℕ → Option ℕ
inverse_as math.none = None
inverse_as (math.some y) = Some y

pub record Inverts (p x : ℕ) (r : Outcome (Option ℕ)) : Type 0 where
  pub answer : r.answer ≡ answer_of (inverse_reasons p x)
  pub value : r.value ≡ cond (is_accepted r.answer) (Some (inverse_as (inverse p x))) None
