-- What deciding whether two sheets are joined promises, and what is known where they are.
--
-- Filled N            the numbers of a sheet that is taken: a circuit, and elements in the lengths due
-- Joinable A B        two such sheets of one prime, which may be proved with, and one n, whose doubled n is admissible on a sheet
-- filled_of           a sheet that is taken is filled
-- Known               p, n, l and m of the pair r are those of the sheets, and the tables hold their lines
-- Decides             the answer, and where no reason applies, the pair and what is known of it
-- first_refused, second_refused, pair_decided   the answer by the first sheet's reasons, by the second's, by those of the pair
-- first_retired, second_retired   the answer is 16 where the first sheet is over 97 and its first line is in form, and where no reason of the first applies and the second is
-- joinable_of         where no reason of `join` applies, the sheets can be joined
-- room_is             and the written buffer has the length due
-- rows_few            and the first has no more rows than a sheet may have
-- refused_join, made_join   the promise of `join`, where it is turned down and where not
--
-- Assumes nothing.
use Rattle.std.specs.Prelude.{◌≡◌, refl, ◌≢◌, true, false, not, List, [], ◌∷◌, ◌++◌, ℕ, ◌*◌, ◌-◌, ◌≤◌, ◌<◌, eqb, ltb, length, replicate, Some, None, MatchOption}
use Rattle.std.proofs.Common.{sym, ap, ◌∙◌, arith, eqb-true, ltb-false, eq-eqb, ne_eqb}
use Rattle.std.proofs.Math.Bool.{and-eq-true_iff}
use Rattle.std.proofs.lemmas.Bool.{not-false}
use Rattle.algebra.specs.Lists.{All, tab}
use Rattle.algebra.specs.Polynomial.{Elements}
use Rattle.algebra.specs.Search.{both_false}
use Rattle.algebra.specs.Tables.{length-tab, all_left, all_right}
use Rattle.field.specs.Fields.{Admissible, is_current, is_rows}
use Rattle.field.specs.Lent.{lengths_same}
use Rattle.field.specs.Reasons.{Answer, Outcome, Reason, answer_of, bad_lengths}
use Rattle.field.specs.ReasonLaws.{none_applies, both_none, refused_first, refused_later}
use Rattle.circuit.specs.Buffers.{selectors_length, witness_length}
use Rattle.circuit.specs.RightlyLent.{RightCircuit}
use Rattle.sheet.specs.Sheet.{sheet_rows, challenge_count, sheet_p, sheet_n, sheet_l, on_selectors, on_witness, on_publics, on_challenges, bad_first, new_reasons}
use Rattle.sheet.specs.Table.{HeldAll}
use Rattle.sheet.specs.Deciding.{Taken, taken_of, new_numbers, new_of, new_retired, new_own}
use Rattle.joining.specs.declared.reasons.Pair.{Pair}
use Rattle.joining.specs.Joining.{Numbers, on_sheet, joined_text, joined_length, join_due, pair_reasons, join_reasons, Joins}

pub record Filled (N : Numbers) : Type 0 where
  pub circuit-right : RightCircuit N.p N.n N.l N.selectors N.labels
  pub witness-right : Elements N.p (witness_length N.n) N.witness
  pub publics-right : Elements N.p N.l N.publics
  pub challenges_right : Elements N.p challenge_count N.challenges

pub record Joinable (A B : Numbers) : Type 0 where
  pub one : Filled A
  pub two : Filled B
  pub same_p : A.p ≡ B.p
  pub same_n : A.n ≡ B.n
  pub current : is_current A.p ≡ true
  pub admissible : Admissible A.p (2 * A.n)
  pub few : 2 * A.n ≤ sheet_rows

pub filled_of : (s : List ℕ) → Taken s → Filled (on_sheet s)
filled_of s T =
    let p : ℕ = sheet_p s in
    let n : ℕ = sheet_n s in
    let l : ℕ = sheet_l s in
    let P : ℕ → Type 0 = λ x. x < p in
    let behind = all_right P (tab (on_selectors s n l) (selectors_length n)) _ T.elements in
    let last = all_right P (tab (on_witness s n l) (witness_length n)) _ behind in
    let drawn = all_right P (tab (on_publics s n l) l) _ last in
    record {
      circuit-right = T.circuit-right;
      witness-right = record { long = length-tab (on_witness s n l) (witness_length n); below = all_left P (tab (on_witness s n l) (witness_length n)) _ behind };
      publics-right = record { long = length-tab (on_publics s n l) l; below = all_left P (tab (on_publics s n l) l) _ last };
      challenges_right = record { long = length-tab (on_challenges s n l) challenge_count; below = all_left P (tab (on_challenges s n l) challenge_count) _ drawn };
    }

-- THE DECISION

pub record Known (one two : List ℕ) (r : Pair) (t u : List ℕ) : Type 0 where
  pub p_is : r.p ≡ sheet_p one
  pub n_is : r.n ≡ sheet_n one
  pub l_is : r.l ≡ sheet_l one
  pub m_is : r.m ≡ sheet_l two
  pub one_held : HeldAll one (sheet_n one) (sheet_l one) t
  pub two_held : HeldAll two (sheet_n two) (sheet_l two) u

pub record Decides (one two : List ℕ) (room : ℕ) (r : Outcome Pair) (t u : List ℕ) : Type 0 where
  pub answer : r.answer ≡ answer_of (join_reasons one two room)
  pub known : MatchOption r.value (r.answer.number ≡ 0 → ⊥) (λ pair. Known one two pair t u)

module _ (one two : List ℕ) (room : ℕ) where
  -- the reason of the lengths, and the three parts
  abbrev lengths : List Reason
  lengths = bad_lengths (length one ∷ length two ∷ room ∷ []) (join_due (length one) (length two)) ∷ []

  abbrev of_one : List Reason
  of_one = new_reasons one lengths

  abbrev of_two : List Reason
  of_two = new_reasons two []

  abbrev of_pair : List Reason
  of_pair = pair_reasons (sheet_p one) (sheet_n one) (sheet_p two) (sheet_n two)

  one_numbers : All (λ r. r.number ≢ 0) of_one
  one_numbers = new_numbers one lengths (omega arith, tt)

  two_numbers : All (λ r. r.number ≢ 0) of_two
  two_numbers = new_numbers two [] tt

  pub first_refused : (a : Answer) → a ≡ answer_of of_one → (a.number ≡ 0 → ⊥) → a ≡ answer_of (join_reasons one two room)
  first_refused a e h = refused_first of_one (of_two ++ of_pair) one_numbers a e h

  module _ (a : Answer) (e : a ≡ answer_of of_one) (zero : a.number ≡ 0) where
    first_taken : Taken one × ((answer_of lengths).number ≡ 0)
    first_taken = taken_of one lengths (omega arith, tt) (new_of one lengths (sym (ap (λ (b : Answer). b.number) e) ∙ zero)).1

    pub rows_few : sheet_n one ≤ sheet_rows
    rows_few = first_taken.0.shape.few

    -- the second sheet is read with the lengths of the call, which are those due
    own : (b : Answer) → b ≡ answer_of (new_reasons two lengths) → b ≡ answer_of of_two
    own b f = f ∙ new_own two lengths (omega arith, tt) first_taken.1

    pub second_refused : (b : Answer) → b ≡ answer_of (new_reasons two lengths) → (b.number ≡ 0 → ⊥) → b ≡ answer_of (join_reasons one two room)
    second_refused b f h = refused_later of_one (of_two ++ of_pair) one_numbers a b e zero (refused_first of_two of_pair two_numbers b (own b f) h)

    pub pair_decided : (b c : Answer) → b ≡ answer_of (new_reasons two lengths) → b.number ≡ 0 → c ≡ answer_of of_pair → c ≡ answer_of (join_reasons one two room)
    pair_decided b c f z g =
        refused_later of_one (of_two ++ of_pair) one_numbers a c e zero (refused_later of_two of_pair two_numbers b c (own b f) z g)

  pub first_retired : (bad_first one).applies ≡ false → sheet_p one ≡ 97 → answer_of (join_reasons one two room) ≡ record { number = 16; detail = 0 }
  first_retired h e = sym (first_refused _ (sym (new_retired one lengths h e)) (λ z. omega (arith, z)))

  pub second_retired : (answer_of (new_reasons one (bad_lengths (length one ∷ length two ∷ room ∷ []) (join_due (length one) (length two)) ∷ []))).number ≡ 0
      → (bad_first two).applies ≡ false → sheet_p two ≡ 97 → answer_of (join_reasons one two room) ≡ record { number = 16; detail = 0 }
  second_retired zero h e = sym (second_refused _ refl zero _ (sym (new_retired two lengths h e)) (λ z. omega (arith, z)))

  pub joinable_of : (answer_of (join_reasons one two room)).number ≡ 0 → Joinable (on_sheet one) (on_sheet two)
  joinable_of e =
      let first = both_none of_one (of_two ++ of_pair) one_numbers e in
      let second = both_none of_two of_pair two_numbers first.1 in
      let new = new_of one lengths first.0 in
      let T = (taken_of one lengths (omega arith, tt) new.1).0 in
      let none = none_applies of_pair (omega arith, (omega arith, tt)) second.1 in
      let same = (and-eq-true_iff (eqb (sheet_p one) (sheet_p two)) (eqb (sheet_n one) (sheet_n two))).0 (not-false _ none.0) in
      let rows = both_false (not (is_rows (sheet_p one) (2 * sheet_n one))) (ltb sheet_rows (2 * sheet_n one)) none.1.0 in
      record {
        one = filled_of one T;
        two = filled_of two (taken_of two [] tt (new_of two [] second.0).1).0;
        same_p = eqb-true (sheet_p one) (sheet_p two) same.0;
        same_n = eqb-true (sheet_n one) (sheet_n two) same.1;
        current = new.0;
        admissible = record { one_of_three = T.shape.admissible.one_of_three; rows = not-false _ rows.0 };
        few = ltb-false sheet_rows (2 * sheet_n one) rows.1;
      }

  pub room_is : (answer_of (join_reasons one two room)).number ≡ 0 → room ≡ joined_length
  room_is e =
      let first = both_none of_one (of_two ++ of_pair) one_numbers e in
      let none = none_applies lengths (omega arith, tt) (taken_of one lengths (omega arith, tt) (new_of one lengths first.0).1).1 in
      cc (lengths_same (length one ∷ length two ∷ room ∷ []) (join_due (length one) (length two)) refl none.0)

-- THE PROMISE

module _ (one two joined : List ℕ) (a : Answer) (e : a ≡ answer_of (join_reasons one two (length joined))) where
  pub refused_join : (a.number ≡ 0 → ⊥) → Joins one two joined record { answer = a; value = None } joined
  refused_join h = record { answer = e; long = rw (ne_eqb a.number 0 h); written = rw (ne_eqb a.number 0 h) }

  pub made_join : a.number ≡ 0 → (end : ℕ) (joined' last : List ℕ) → length joined' ≡ length joined → end ≡ length (joined_text one two)
      → last ≡ joined_text one two ++ replicate (length joined' - length (joined_text one two)) 0 → Joins one two joined record { answer = a; value = Some end } last
  made_join h end joined' last k at f =
      let long : length joined' ≡ joined_length = k ∙ room_is one two (length joined) (sym (ap (λ (b : Answer). b.number) e) ∙ h) in
      record { answer = e; long = rw (eq-eqb a.number 0 h) (ap Some at); written = f ∙ rw (eq-eqb a.number 0 h, long) }
