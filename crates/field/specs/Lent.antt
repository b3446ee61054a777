-- What is known of p, n, l and the lengths of the lent buffers where the reasons with which a call begins do not apply.
--
-- Shape p n l most          p and n are admissible, n is at most `most`, and l at most n
-- Lent p n l long due       p and n are admissible, l is at most n, and the lengths are those due
-- shape_numbers, lent_numbers   no such reason has number 0
-- shaped, lent_of           an answer of these reasons with number 0 means that Shape, or Lent, holds
-- lent_taken                where Lent holds, none of them applies
-- lent_refused, lent_later, lent_known   a call that begins with these reasons, `is` being the table that its code has: it is turned down by them; it goes on to
--                           the reasons behind them; and what it knows then
-- ok_lent_later, ok_lent   the last two of what a call answers
-- lengths_same              tables of one length that differ nowhere are equal
-- lengths_none              equal tables are no reason
--
-- Assumes nothing.
use Rattle.std.specs.Prelude.{◌≡◌, refl, ◌≢◌, Bool, false, not, ◌||◌, List, [], ◌∷◌, ◌++◌, ℕ, ◌≤◌, eqb, ltb, length, get_or, Result, Ok}
use Rattle.std.proofs.Common.{sym, ap, ◌∙◌, arith, ext_get_or, eqb-true, ltb-false, le-ltb}
use Rattle.std.proofs.lemmas.Bool.{not-true, not-false, eqb-false}
use Rattle.algebra.specs.Lists.{All}
use Rattle.algebra.specs.Search.{first_is, first_none, both_false}
use Rattle.field.specs.declared.refusal.Refusal.{Refusal}
use Rattle.field.specs.Fields.{is_field, is_rows, greatest_rows, Admissible}
use Rattle.field.specs.Primes.{rows-power}
use Rattle.field.specs.Reasons.{Answer, told, Reason, answer_of, shape_reasons, first_other, bad_lengths, lent_reasons}
use Rattle.field.specs.ReasonLaws.{none_applies, taken, both_none, both_taken, refused_first, refused_later}

pub record Shape (p n l most : ℕ) : Type 0 where
  pub admissible : Admissible p n
  pub few : n ≤ most
  pub publics_few : l ≤ n

pub record Lent (p n l : ℕ) (long due : List ℕ) : Type 0 where
  pub admissible : Admissible p n
  pub publics_few : l ≤ n
  pub lengths : long ≡ due

-- P, N AND L

pub shape_numbers : (p n l most : ℕ) → All (λ r. r.number ≢ 0) (shape_reasons p n l most)
shape_numbers p n l most = (omega arith, (omega arith, (omega arith, tt)))

pub shaped : (p n l most : ℕ) (a : Answer) → a ≡ answer_of (shape_reasons p n l most) → a.number ≡ 0 → Shape p n l most
shaped p n l most a e h =
    let none = none_applies (shape_reasons p n l most) (shape_numbers p n l most) (sym (ap (λ (b : Answer). b.number) e) ∙ h) in
    let rows = both_false (not (is_rows p n)) (ltb most n) none.1.0 in
    record {
      admissible = record { one_of_three = not-false _ none.0; rows = not-false _ rows.0 };
      few = ltb-false most n rows.1;
      publics_few = ltb-false n l none.1.1.0;
    }

shape_taken : (p n l : ℕ) → Admissible p n → l ≤ n → answer_of (shape_reasons p n l (greatest_rows p)) ≡ record { number = 0; detail = 0 }
shape_taken p n l A few =
    let prime : not (is_field p) ≡ false = rw A.one_of_three in
    let rows : (not (is_rows p n) || ltb (greatest_rows p) n) ≡ false =
    rw A.rows (le-ltb (greatest_rows p) n (rows-power p n A.rows).most) in
    taken (shape_reasons p n l (greatest_rows p)) (prime, (rows, (le-ltb n l few, tt)))

-- THE LENGTHS

pub lengths_same : (long due : List ℕ) → length long ≡ length due → ltb (first_other long due) (length due) ≡ false → long ≡ due
unfolding first_other
lengths_same long due h e =
    let differs : ℕ → Bool = λ k. not (eqb (get_or long k 0) (get_or due k 0)) in
    ext_get_or 0 long due h
    (λ k l. eqb-true _ _ (not-false _ ((first_is differs 0 (length due)).none k (omega arith) (omega (arith, ltb-false (first_other long due) (length due) e)))))

agrees : (xs : List ℕ) → first_other xs xs ≡ length xs
unfolding first_other
agrees xs = first_none _ (length xs) (λ k l e. eqb-false (get_or xs k 0) (get_or xs k 0) (not-true _ e) refl)

pub lengths_none : {long due : List ℕ} → long ≡ due → ltb (first_other long due) (length due) ≡ false
lengths_none {long} {due} e = rw e (le-ltb (first_other due due) (length due) (omega (arith, agrees due)))

-- BOTH

pub lent_numbers : (p n l : ℕ) (long due : List ℕ) → All (λ r. r.number ≢ 0) (lent_reasons p n l long due)
lent_numbers p n l long due = (omega arith, (omega arith, (omega arith, (omega arith, tt))))

pub lent_of : (p n l : ℕ) (long due : List ℕ) → length long ≡ length due → (answer_of (lent_reasons p n l long due)).number ≡ 0 → Lent p n l long due
lent_of p n l long due h e =
    let most = greatest_rows p in
    let both = both_none (shape_reasons p n l most) (bad_lengths long due ∷ []) (shape_numbers p n l most) e in
    let shape = shaped p n l most _ refl both.0 in
    record {
      admissible = shape.admissible;
      publics_few = shape.publics_few;
      lengths = lengths_same long due h (none_applies (bad_lengths long due ∷ []) (omega arith, tt) both.1).0;
    }

pub lent_taken : {p n l : ℕ} {long due : List ℕ} → Lent p n l long due → answer_of (lent_reasons p n l long due) ≡ record { number = 0; detail = 0 }
lent_taken {p} {n} {l} {long} {due} L =
    both_taken (shape_reasons p n l (greatest_rows p)) (bad_lengths long due ∷ []) (shape_numbers p n l (greatest_rows p))
    (shape_taken p n l L.admissible L.publics_few)
    (taken (bad_lengths long due ∷ []) (lengths_none L.lengths, tt))

module _ (p n l : ℕ) (long due : List ℕ) (rest : List Reason) {is : List ℕ} (e : is ≡ due) {a : Answer} (h : a ≡ answer_of (lent_reasons p n l long is)) where
  decided : a ≡ answer_of (lent_reasons p n l long due)
  decided = h ∙ ap (λ (d : List ℕ). answer_of (lent_reasons p n l long d)) e

  pub lent_refused : (a.number ≡ 0 → ⊥) → a ≡ answer_of (lent_reasons p n l long due ++ rest)
  lent_refused u = refused_first (lent_reasons p n l long due) rest (lent_numbers p n l long due) a decided u

  pub lent_later : a.number ≡ 0 → {b : Answer} → b ≡ answer_of rest → b ≡ answer_of (lent_reasons p n l long due ++ rest)
  lent_later z {b} u = refused_later (lent_reasons p n l long due) rest (lent_numbers p n l long due) a b decided z u

  pub lent_known : a.number ≡ 0 → length long ≡ length due → Lent p n l long due
  lent_known z m = lent_of p n l long due m (sym (ap (λ (b : Answer). b.number) decided) ∙ z)

-- the same of what a call answers
module _ (p n l : ℕ) (long due : List ℕ) (rest : List Reason) {is : List ℕ} (e : is ≡ due) {A : Type 0} {r : Result A Refusal}
    (h : told r ≡ answer_of (lent_reasons p n l long is)) where
  pub ok_lent_later : {x : A} → r ≡ Ok x → {b : Answer} → b ≡ answer_of rest → b ≡ answer_of (lent_reasons p n l long due ++ rest)
  ok_lent_later z u = lent_later p n l long due rest e h (ap (λ (a : Answer). a.number) (ap told z)) u

  pub ok_lent : {x : A} → r ≡ Ok x → length long ≡ length due → Lent p n l long due
  ok_lent z m = lent_known p n l long due rest e h (ap (λ (a : Answer). a.number) (ap told z)) m
