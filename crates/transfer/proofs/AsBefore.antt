-- An answer as it was before, but for the detail of 7 (AsBefore).
--
-- accepted_same        either both are accepted, or none
-- as_then              of three answers, where the first is as the second, and the second as the third
-- as_behind            of two lists that begin with the same reasons
-- as_elements          of two lists that go on with 7, for elements of which one list has one that is p or more exactly where the other has, and then are the same
-- as_transferred       for elements among which a witness stands as it was lent before, and as it is lent now
--
-- Assumes nothing.
use Rattle.std.specs.Prelude.{◌≡◌, refl, Bool, true, false, cond, List, [], ◌∷◌, ◌++◌, ℕ, ◌<◌, eqb, ltb, length}
use Rattle.std.proofs.Common.{sym, ap, ◌∙◌, true≢false}
use Rattle.algebra.specs.Lists.{All}
use Rattle.algebra.specs.Tables.{all_append, all_left, all_right}
use Rattle.field.specs.Reasons.{Answer, Reason, answer_of, is_accepted, first_above, bad_element}
use Rattle.field.specs.ReasonLaws.{elements_of, elements_none}
use Rattle.circuit.specs.Buffers.{witness_length}
use Rattle.transfer.specs.Transfer.{to_rows}
use Rattle.transfer.specs.Columns.{AsBefore}
use Rattle.transfer.proofs.ThereAndBack.{rows_below, columns_below}

pub accepted_same : {a b : Answer} → AsBefore a b → is_accepted a ≡ is_accepted b
accepted_same s = ap (λ (k : ℕ). eqb k 0) s.number

pub as_then : {a b c : Answer} → AsBefore a b → AsBefore b c → AsBefore a c
as_then s t = record { number = s.number ∙ t.number; detail = λ h. s.detail h ∙ t.detail (λ e. h (s.number ∙ e)) }

-- whichever of two answers is given
either : (c : Bool) (a a' b b' : Answer) → AsBefore a b → AsBefore a' b' → AsBefore (cond c a a') (cond c b b')
either true a a' b b' s t = s
either false a a' b b' s t = t

pub as_behind : (before rs ss : List Reason) → AsBefore (answer_of rs) (answer_of ss) → AsBefore (answer_of (before ++ rs)) (answer_of (before ++ ss))
as_behind [] rs ss s = s
as_behind (r ∷ before) rs ss s =
    either r.applies _ (answer_of (before ++ rs)) _ (answer_of (before ++ ss)) (record { number = refl; detail = λ h. refl }) (as_behind before rs ss s)

module _ (p : ℕ) where
  abbrev Below : List ℕ → Type 0
  Below xs = All (λ (x : ℕ). x < p) xs

  abbrev too_great : List ℕ → Bool
  too_great xs = ltb (first_above p xs) (length xs)

  same_test : (xs ys : List ℕ) → (Below xs → Below ys) → (Below ys → Below xs) → too_great xs ≡ too_great ys
  same_test xs ys to from = go (too_great xs) (too_great ys) refl refl
    where
      go : (b c : Bool) → too_great xs ≡ b → too_great ys ≡ c → b ≡ c
      go true true e f = refl
      go true false e f = absurd (true≢false (sym e ∙ elements_none p xs (from (elements_of p ys f))))
      go false true e f = absurd (true≢false (sym f ∙ elements_none p ys (to (elements_of p xs e))))
      go false false e f = refl

  pub as_elements : (xs ys : List ℕ) → (Below xs → Below ys) → (Below ys → Below xs) → (rest : List Reason)
      → AsBefore (answer_of (bad_element p ys ∷ rest)) (answer_of (bad_element p xs ∷ rest))
  as_elements xs ys to from rest =
      rw (same_test xs ys to from)
      (either (too_great ys) _ (answer_of rest) _ (answer_of rest) (record { number = refl; detail = λ h. absurd (h refl) }) (record { number = refl; detail = λ h. refl }))

  -- `front` and `back` are the elements before and behind the witness
  pub as_transferred : (n : ℕ) (columns : List ℕ) → length columns ≡ witness_length n → (front back : List ℕ) (before rest : List Reason)
      → AsBefore (answer_of (before ++ (bad_element p (front ++ (to_rows n columns ++ back)) ∷ rest))) (answer_of (before ++ (bad_element p (front ++ (columns ++ back)) ∷ rest)))
  as_transferred n columns long front back before rest =
      as_behind before _ _ (as_elements (front ++ (columns ++ back)) (front ++ (to_rows n columns ++ back)) (changed columns (to_rows n columns) (rows_below p n columns long)) (changed (to_rows n columns) columns (columns_below p n columns long)) rest)
    where
      changed : (xs ys : List ℕ) → (Below xs → Below ys) → Below (front ++ (xs ++ back)) → Below (front ++ (ys ++ back))
      changed xs ys to a =
          let P : ℕ → Type 0 = λ x. x < p in
          let behind = all_right P front (xs ++ back) a in
          all_append P front (ys ++ back) (all_left P front (xs ++ back) a) (all_append P ys back (to (all_left P xs back behind)) (all_right P xs back behind))
