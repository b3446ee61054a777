-- Laws of the reasons for turning a call down.
--
-- none_applies      an answer with number 0 means that no reason of the list applies (no reason has number 0)
-- taken             where no reason of the list applies, the answer is number 0, detail 0
-- numbers_append    of two lists of reasons, none has number 0
-- answer_of-append  of two lists of reasons: the answer of the first, unless none of its reasons applies
-- told_refused      what a refusal tells is not number 0
-- ok_number         where a call is not turned down, what it tells is number 0
-- ok_told, ok_value  a call that tells number 0, or gives a value, is not turned down
-- both_none         an answer of two lists with number 0: so is that of each
-- both_taken        where both answers are number 0, detail 0, so is that of the two lists
-- refused_first, refused_later   the same for a call that answers by the first list where one of its reasons applies, and else by the second
-- after_numbers, after_same   with a reason put in straight after another, still none has number 0; and if it does not apply, the answer is as it was
-- current_first     16 stands straight after 2: the reasons of the prime come first, where those of a call begin with 2
-- current_numbers   with 16, still none has number 0
-- current_refused   the reasons of the prime answer, where one of them applies
-- prime_current, current_known   where neither 2 nor 16 applies, p may be proved with
-- current_answer    where p may be proved with, the answer is that without 16
-- elements_of       where no number of a list is p or more, all are elements
-- elements_none     where all are elements, none is p or more
-- first_above-le    the place of the first number that is p or more is at most the length
-- first_above-append  of two lists end to end: the place in the first, or else the length of the first + the place in the second
-- further           the same for a call that has passed the first list and goes on with the second
--
-- Assumes nothing.
use Rattle.std.specs.Prelude.{◌≡◌, refl, ◌≢◌, Bool, true, cond, List, [], ◌∷◌, ◌++◌, ℕ, ◌+◌, ◌-◌, ◌≤◌, ◌<◌, eqb, ltb, get_or, Result, Ok, Err, Some, IsOk}
use Rattle.std.proofs.Common.{sym, ap₂, ◌∙◌, subst, get_or-append-add, ltb-false, leb-false, leb-true, eqb-true, lt-ltb, le-ltb, eq-eqb, ne_eqb}
use Rattle.std.proofs.Math.Path.{ap}
use Rattle.std.proofs.Math.Bool.{false}
use Rattle.std.proofs.Math.Decide.{dec_lt}
use native.Mathlib.Omega.{arith}
use Rattle.std.proofs.Math.Dec.{leb}
use Rattle.std.proofs.Math.ListN.{length, length-append, get_or-append}
use Rattle.std.proofs.lemmas.Bool.{not-false, eqb-false}
use Rattle.algebra.specs.Lists.{All}
use Rattle.algebra.specs.Search.{First, first_is, first_none, first_same}
use Rattle.algebra.specs.Tables.{all_get_d, all_of}
use Rattle.field.specs.declared.refusal.Cause.{Cause}
use Rattle.field.specs.declared.refusal.Cause.TheVariants as cause
use Rattle.field.specs.declared.refusal.Refusal.{Refusal}
use Rattle.field.specs.Fields.{is_current}
use Rattle.field.specs.Reasons.{Answer, number_of, told, outcome, Reason, answer_of, is_accepted, bad_field, retired_field, first_above, straight_after, prime_reasons, current_only}

pub none_applies : (rs : List Reason) → All (λ r. r.number ≢ 0) rs → (answer_of rs).number ≡ 0 → All (λ r. r.applies ≡ false) rs
none_applies [] n e = tt
none_applies (r ∷ rs) n e = go r.applies refl e (none_applies rs n.1)
  where
    go : (b : Bool) → r.applies ≡ b → (cond b (record { number = r.number; detail = r.detail }) (answer_of rs)).number ≡ 0
        → ((answer_of rs).number ≡ 0 → All (λ r. r.applies ≡ false) rs) → All (λ r. r.applies ≡ false) (r ∷ rs)
    go true u f later = absurd (n.0 f)
    go false u f later = (u, later f)

pub taken : (rs : List Reason) → All (λ r. r.applies ≡ false) rs → answer_of rs ≡ record { number = 0; detail = 0 }
taken [] a = refl
taken (r ∷ rs) a = rw a.0 (taken rs a.1)

pub numbers_append : (rs ss : List Reason) → All (λ r. r.number ≢ 0) rs → All (λ r. r.number ≢ 0) ss → All (λ r. r.number ≢ 0) (rs ++ ss)
numbers_append [] ss a b = b
numbers_append (r ∷ rs) ss a b = (a.0, numbers_append rs ss a.1 b)

pub answer_of-append : (rs ss : List Reason) → All (λ r. r.number ≢ 0) rs
    → answer_of (rs ++ ss) ≡ cond (is_accepted (answer_of rs)) (answer_of ss) (answer_of rs)
answer_of-append [] ss n = refl
answer_of-append (r ∷ rs) ss n = go r.applies (answer_of-append rs ss n.1)
  where
    go : (b : Bool) → answer_of (rs ++ ss) ≡ cond (is_accepted (answer_of rs)) (answer_of ss) (answer_of rs)
        → cond b (record { number = r.number; detail = r.detail }) (answer_of (rs ++ ss))
        ≡ cond (is_accepted (cond b (record { number = r.number; detail = r.detail }) (answer_of rs))) (answer_of ss) (cond b (record { number = r.number; detail = r.detail }) (answer_of rs))
    go true e = rw (ne_eqb _ _ n.0)
    go false e = e

pub refused_first : (rs ss : List Reason) → All (λ r. r.number ≢ 0) rs → (a : Answer) → a ≡ answer_of rs → (a.number ≡ 0 → ⊥)
    → a ≡ answer_of (rs ++ ss)
refused_first rs ss n a e h =
    rw (answer_of-append rs ss n, ne_eqb (answer_of rs).number 0 (λ z. h (ap (λ (b : Answer). b.number) e ∙ z))) e

pub refused_later : (rs ss : List Reason) → All (λ r. r.number ≢ 0) rs → (a b : Answer) → a ≡ answer_of rs → a.number ≡ 0 → b ≡ answer_of ss
    → b ≡ answer_of (rs ++ ss)
refused_later rs ss n a b e h f =
    rw (answer_of-append rs ss n, eq-eqb (answer_of rs).number 0 (sym (ap (λ (b : Answer). b.number) e) ∙ h)) f

pub told_refused : (e : Refusal) → number_of e.cause ≡ 0 → ⊥
told_refused e h = omega (arith, numbered e.cause)
  where
    numbered : (c : Cause) → 0 < number_of c
    numbered cause.Sheet = omega arith
    numbered cause.Prime = omega arith
    numbered cause.Rows = omega arith
    numbered cause.Publics = omega arith
    numbered cause.Line = omega arith
    numbered cause.Length = omega arith
    numbered cause.Element = omega arith
    numbered cause.Label = omega arith
    numbered cause.Gate = omega arith
    numbered cause.Copy = omega arith
    numbered cause.Factor = omega arith
    numbered cause.List = omega arith
    numbered cause.Polynomial = omega arith
    numbered cause.PublicRow = omega arith
    numbered cause.Unlike = omega arith
    numbered cause.Retired = omega arith
    numbered cause.Block = omega arith

pub ok_number : {A : Type 0} {r : Result A Refusal} {x : A} {a : Answer} → r ≡ Ok x → told r ≡ a → a.number ≡ 0
ok_number i h = ap (λ (a : Answer). a.number) (sym h ∙ ap told i)

pub ok_told : {A : Type 0} (r : Result A Refusal) → (told r).number ≡ 0 → IsOk r
ok_told (Ok a) h = refl
ok_told (Err e) h = absurd (told_refused e h)

pub ok_value : {A : Type 0} (r : Result A Refusal) {x : A} → (outcome r).value ≡ Some x → r ≡ Ok x
ok_value (Ok a) {x} h = let same : a ≡ x = cc in ap Ok same
ok_value (Err e) h = cc

pub both_none : (rs ss : List Reason) → All (λ r. r.number ≢ 0) rs → (answer_of (rs ++ ss)).number ≡ 0
    → ((answer_of rs).number ≡ 0) × ((answer_of ss).number ≡ 0)
both_none rs ss n e = go (is_accepted (answer_of rs)) refl (ap (λ (a : Answer). a.number) (sym (answer_of-append rs ss n)) ∙ e)
  where
    go : (b : Bool) → is_accepted (answer_of rs) ≡ b → (cond b (answer_of ss) (answer_of rs)).number ≡ 0
        → ((answer_of rs).number ≡ 0) × ((answer_of ss).number ≡ 0)
    go true u f = (eqb-true (answer_of rs).number 0 u, f)
    go false u f = absurd (eqb-false (answer_of rs).number 0 u f)

pub both_taken : (rs ss : List Reason) → All (λ r. r.number ≢ 0) rs → answer_of rs ≡ record { number = 0; detail = 0 }
    → answer_of ss ≡ record { number = 0; detail = 0 } → answer_of (rs ++ ss) ≡ record { number = 0; detail = 0 }
both_taken rs ss n e f = sym (refused_later rs ss n _ _ refl (ap (λ (a : Answer). a.number) e) refl) ∙ f

-- A REASON PUT IN

after_numbers : (k : ℕ) (r : Reason) → r.number ≢ 0 → (rs : List Reason) → All (λ r. r.number ≢ 0) rs → All (λ r. r.number ≢ 0) (straight_after k r rs)
after_numbers k r h [] n = tt
after_numbers k r h (q ∷ rs) n = go (eqb q.number k) (after_numbers k r h rs n.1)
  where
    go : (b : Bool) → All (λ r. r.number ≢ 0) (straight_after k r rs) → All (λ r. r.number ≢ 0) (cond b (q ∷ r ∷ rs) (q ∷ straight_after k r rs))
    go true later = (n.0, (h, n.1))
    go false later = (n.0, later)

after_same : (k : ℕ) (r : Reason) → r.applies ≡ false → (rs : List Reason) → answer_of (straight_after k r rs) ≡ answer_of rs
after_same k r e [] = refl
after_same k r e (q ∷ rs) = go (eqb q.number k) (after_same k r e rs)
  where
    go : (b : Bool) → answer_of (straight_after k r rs) ≡ answer_of rs → answer_of (cond b (q ∷ r ∷ rs) (q ∷ straight_after k r rs)) ≡ answer_of (q ∷ rs)
    go true later = rw e
    go false later = rw later

pub current_first : (p : ℕ) (rs : List Reason) → current_only p (bad_field p ∷ rs) ≡ prime_reasons p ++ rs
current_first p rs = refl

pub current_numbers : (p : ℕ) (rs : List Reason) → All (λ r. r.number ≢ 0) rs → All (λ r. r.number ≢ 0) (current_only p rs)
current_numbers p rs n = after_numbers _ (retired_field p) (omega arith) rs n

pub current_refused : (p : ℕ) (rs : List Reason) {rest : List Reason} → rs ≡ bad_field p ∷ rest → (a : Answer) → a ≡ answer_of (prime_reasons p) → (a.number ≡ 0 → ⊥)
    → a ≡ answer_of (current_only p rs)
current_refused p rs {rest} begins a e h = rw begins (refused_first (prime_reasons p) rest (omega arith, (omega arith, tt)) a e h ∙ ap answer_of (sym (current_first p rest)))

pub prime_current : (p : ℕ) (a : Answer) → a ≡ answer_of (prime_reasons p) → a.number ≡ 0 → is_current p ≡ true
prime_current p a e h =
    not-false _ (none_applies (prime_reasons p) (omega arith, (omega arith, tt)) (sym (ap (λ (b : Answer). b.number) e) ∙ h)).1.0

pub current_known : (p : ℕ) (rs : List Reason) {rest : List Reason} → rs ≡ bad_field p ∷ rest → (answer_of (current_only p rs)).number ≡ 0 → is_current p ≡ true
current_known p rs {rest} begins e =
    let both = both_none (prime_reasons p) rest (omega arith, (omega arith, tt)) (subst (λ (l : List Reason). (answer_of (current_only p l)).number ≡ 0) begins e) in
    prime_current p _ refl both.0

pub current_answer : (p : ℕ) → is_current p ≡ true → (rs : List Reason) → answer_of (current_only p rs) ≡ answer_of rs
current_answer p e rs = after_same _ (retired_field p) (rw e) rs

-- ELEMENTS

pub elements_of : (p : ℕ) (xs : List ℕ) → ltb (first_above p xs) (length xs) ≡ false → All (λ (x : ℕ). x < p) xs
unfolding first_above
elements_of p xs e =
    all_of (λ (x : ℕ). x < p) xs
    (λ i h. leb-false p (get_or xs i 0) ((first_is (λ k. leb p (get_or xs k 0)) 0 (length xs)).none i (omega arith) (omega (arith, ltb-false (first_above p xs) (length xs) e))))

pub elements_none : (p : ℕ) (xs : List ℕ) → All (λ (x : ℕ). x < p) xs → ltb (first_above p xs) (length xs) ≡ false
unfolding first_above
elements_none p xs a =
    le-ltb (first_above p xs) (length xs)
    (omega (
      arith,
      first_none (λ k. leb p (get_or xs k 0)) (length xs)
          (λ k l e. omega (arith, leb-true p (get_or xs k 0) e, all_get_d (λ (x : ℕ). x < p) xs a k l)),
    ))

pub first_above-le : (p : ℕ) (xs : List ℕ) → first_above p xs ≤ length xs
unfolding first_above
first_above-le p xs = omega (arith, (first_is (λ k. leb p (get_or xs k 0)) 0 (length xs)).high)

module _ (p : ℕ) (xs ys : List ℕ) where
  above : List ℕ → ℕ → Bool
  above zs k = leb p (get_or zs k 0)

  left_word : (k : ℕ) → k < length xs → above (xs ++ ys) k ≡ above xs k
  unfolding above
  left_word k h = ap (λ (x : ℕ). leb p x) (get_or-append xs ys 0 k h)

  right_word : (k : ℕ) → length xs ≤ k → above (xs ++ ys) k ≡ above ys (k - length xs)
  unfolding above
  right_word k h =
      let at : k ≡ length xs + (k - length xs) = omega arith in
      ap (λ (i : ℕ). leb p (get_or (xs ++ ys) i 0)) at ∙ ap (λ (x : ℕ). leb p x) (get_or-append-add xs ys (k - length xs) 0)

  in_left : first_above p xs < length xs → First (above (xs ++ ys)) 0 (length (xs ++ ys)) (first_above p xs)
  unfolding above first_above
  in_left h =
      let f = first_is (above xs) 0 (length xs) in
      record {
        low = omega arith;
        high = omega (arith, length-append xs ys);
        none = λ j l k. left_word j (omega arith) ∙ f.none j l k;
        hit = λ l. left_word (first_above p xs) h ∙ f.hit (omega arith);
      }

  in_right : length xs ≤ first_above p xs → First (above (xs ++ ys)) 0 (length (xs ++ ys)) (length xs + first_above p ys)
  unfolding above first_above
  in_right h =
      let f = first_is (above xs) 0 (length xs) in
      let g = first_is (above ys) 0 (length ys) in
      let back : length xs + first_above p ys - length xs ≡ first_above p ys = omega arith in
      record {
        low = omega arith;
        high = omega (arith, length-append xs ys, g.high);
        none = λ j l k. go j k (dec_lt j (length xs));
        hit = λ l.
            right_word (length xs + first_above p ys) (omega arith) ∙ ap (above ys) back
            ∙ g.hit (omega (arith, length-append xs ys));
      }
    where
      go : (j : ℕ) → j < length xs + first_above p ys → Dec (j < length xs) → above (xs ++ ys) j ≡ false
      go j k (yes u) = left_word j u ∙ (first_is (above xs) 0 (length xs)).none j (omega arith) (omega arith)
      go j k (no u) =
          right_word j (omega arith) ∙ (first_is (above ys) 0 (length ys)).none (j - length xs) (omega arith) (omega arith)

  pub first_above-append : first_above p (xs ++ ys) ≡ cond (ltb (first_above p xs) (length xs)) (first_above p xs) (length xs + first_above p ys)
  unfolding above first_above
  first_above-append = go (dec_lt (first_above p xs) (length xs))
    where
      f : First (above (xs ++ ys)) 0 (length (xs ++ ys)) (first_above p (xs ++ ys))
      f = first_is (above (xs ++ ys)) 0 (length (xs ++ ys))

      go : Dec (first_above p xs < length xs) → first_above p (xs ++ ys) ≡ cond (ltb (first_above p xs) (length xs)) (first_above p xs) (length xs + first_above p ys)
      go (yes h) = rw (lt-ltb (first_above p xs) (length xs) h) (first_same f (in_left h))
      go (no h) = rw (le-ltb (first_above p xs) (length xs) (omega arith)) (first_same f (in_right (omega arith)))

pub further : (p : ℕ) (xs ys : List ℕ) (at long r : ℕ) → at ≡ first_above p xs → long ≡ length xs → r ≡ cond (ltb at long) at (long + first_above p ys)
    → r ≡ first_above p (xs ++ ys)
further p xs ys at long r e f g =
    g ∙ ap₂ (λ (a l : ℕ). cond (ltb a l) a (l + first_above p ys)) e f ∙ sym (first_above-append p xs ys)
