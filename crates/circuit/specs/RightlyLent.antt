-- Buffers that are lent rightly are never turned down.
--
-- RightCircuit p n l selectors labels   as many selectors and labels as are due, which are a circuit of n rows with l public inputs
-- selectors-right, labels_right       its selectors are elements, its labels numbers below 3n, as many as are due
-- labels_of                           such labels are what the permutation asks
-- at_end, at_none                     a search that applies nowhere has come to its end; and back
-- circuit_of, bound                   a circuit, from elements, labels below 3n and no row for 14; and no row for 14, from a circuit
-- numbers_of_lem                      where 7, 8 and 14 do not apply, elements, labels and public rows are right
-- lent_numbers_of, lent_numbers_taken where no reason of p, n, l, the lengths and the numbers applies, all of them are right; and back
-- prepare_taken, rows_taken, point_taken   no reason of `prepare`, `check_rows` or `check_point` applies to buffers of the right lengths that hold a circuit and elements
--
-- Assumes nothing.
use Rattle.std.specs.Prelude.{◌≡◌, false, not, List, [], ◌∷◌, ◌++◌, ℕ, zero, suc, ◌*◌, ◌≤◌, ◌<◌, ltb, length, get_or}
use Rattle.std.proofs.Common.{sym, ◌∙◌, subst, true≢false, arith, ltb-false, le-ltb}
use Rattle.std.proofs.lemmas.Bool.{not-true, not-false}
use Rattle.algebra.specs.Ends.{run_room}
use Rattle.algebra.specs.Lists.{All}
use Rattle.algebra.specs.Polynomial.{Elements}
use Rattle.algebra.specs.Search.{first_le, first_none, none_of}
use Rattle.algebra.specs.Tables.{all_get_d, all_of, all_append}
use Rattle.field.specs.Fields.{Admissible}
use Rattle.field.specs.Primes.{rows-power}
use Rattle.field.specs.Lent.{Lent, lent_numbers, lent_of, lent_taken}
use Rattle.field.specs.Reasons.{answer_of, lent_reasons, bad_element}
use Rattle.field.specs.ReasonLaws.{none_applies, taken, both_none, both_taken, elements_of, elements_none}
use Rattle.transform.specs.Transform.{scratch_length}
use Rattle.circuit.specs.Circuit.{Constraints, Circuit, position, is_public_row, lent_constraints}
use Rattle.circuit.specs.Positions.{by_position}
use Rattle.circuit.specs.Ahead.{Labels}
use Rattle.circuit.specs.Buffers.{selector_count, selectors_length, labels_length, witness_length, prepared_length, transcript_length, work_length}
use Rattle.circuit.specs.Parts.{blinded_of}
use Rattle.circuit.specs.Reasons.{unbound_row, number_reasons, prepare_due, prepare_reasons, rows_due, rows_reasons, point_due, point_reasons}

pub record RightCircuit (p n l : ℕ) (selectors labels : List ℕ) : Type 0 where
  pub selectors_long : length selectors ≡ selectors_length n
  pub labels_long : length labels ≡ labels_length n
  pub circuit : Circuit p n l (lent_constraints n selectors labels)

module _ {p n l : ℕ} {selectors labels : List ℕ} (R : RightCircuit p n l selectors labels) where
  pub selectors-right : Elements p (selectors_length n) selectors
  selectors-right =
      record {
        long = R.selectors_long;
        below = all_of (λ (q : ℕ). q < p) selectors (λ k h. by_position selector_count n (λ k. get_or selectors k 0 < p) at k (omega (arith, R.selectors_long)));
      }
    where
      at : (s i : ℕ) → s < selector_count → i < n → get_or selectors (position n s i) 0 < p
      at zero i h k = (R.circuit.selectors i k).0
      at (suc zero) i h k = (R.circuit.selectors i k).1
      at (suc (suc zero)) i h k = (R.circuit.selectors i k).2
      at (suc (suc (suc zero))) i h k = (R.circuit.selectors i k).3
      at (suc (suc (suc (suc zero)))) i h k = (R.circuit.selectors i k).4
      at (suc (suc (suc (suc (suc s))))) i h k = absurd (omega arith)

  pub labels_right : Elements (3 * n) (labels_length n) labels
  labels_right =
      record {
        long = R.labels_long;
        below = all_of (λ (a : ℕ). a < 3 * n) labels (λ k h. R.circuit.labels k (omega (arith, R.labels_long)));
      }

pub labels_of : {p : ℕ} (n : ℕ) (labels : List ℕ) → Elements (3 * n) (3 * n) labels → Admissible p n → Labels labels
labels_of {p} n labels e A =
    record {
      few = omega (arith, e.long, (rows-power p n A.rows).small);
      below = (subst (λ (m : ℕ). Elements m (3 * n) labels) (sym e.long) e).below;
    }

-- THE NUMBERS IN THE BUFFERS

pub at_end : {a m : ℕ} → a ≤ m → ltb a m ≡ false → a ≡ m
at_end {a} {m} h e = omega (arith, ltb-false a m e)

pub at_none : {a m : ℕ} → a ≡ m → ltb a m ≡ false
at_none {a} {m} e = le-ltb a m (omega arith)

unbound-le : (C : Constraints) (l : ℕ) → unbound_row C l ≤ l
unfolding unbound_row
unbound-le C l = first_le _ l

pub circuit_of : {p n l : ℕ} {selectors labels : List ℕ} → l ≤ n → Elements p (selectors_length n) selectors → Elements (3 * n) (labels_length n) labels
    → unbound_row (lent_constraints n selectors labels) l ≡ l → RightCircuit p n l selectors labels
unfolding unbound_row
circuit_of {p} {n} {l} {selectors} {labels} few e d u =
    let at : (s i : ℕ) → s < selector_count → i < n → get_or selectors (position n s i) 0 < p =
    λ s i h k. all_get_d (λ (q : ℕ). q < p) selectors e.below (position n s i) (omega (arith, e.long, run_room s selector_count n h)) in
    record {
      selectors_long = e.long;
      labels_long = d.long;
      circuit = record {
        publics_few = few;
        selectors = λ i h. (at 0 i (omega arith) h, at 1 i (omega arith) h, at 2 i (omega arith) h, at 3 i (omega arith) h, at 4 i (omega arith) h);
        labels = λ k h. all_get_d (λ (a : ℕ). a < 3 * n) labels d.below k (omega (arith, d.long));
        public_rows = λ i h. not-false _ (none_of (λ i. not (is_public_row (lent_constraints n selectors labels) i)) l u i h);
      };
    }

pub bound : {p n l : ℕ} {C : Constraints} → Circuit p n l C → unbound_row C l ≡ l
unfolding unbound_row
bound {p} {n} {l} {C} K = first_none _ l (λ i h e. true≢false (sym (K.public_rows i h) ∙ not-true _ e))

module _ (p n l : ℕ) (xs selectors labels : List ℕ) where
  abbrev C : Constraints
  C = lent_constraints n selectors labels

  pub numbers_of_lem : (answer_of (number_reasons p n l xs selectors labels)).number ≡ 0
      → All (λ (x : ℕ). x < p) xs × All (λ (a : ℕ). a < 3 * n) labels × (unbound_row (lent_constraints n selectors labels) l ≡ l)
  numbers_of_lem e =
      let none = none_applies (number_reasons p n l xs selectors labels) (omega arith, (omega arith, (omega arith, tt))) e in
      (elements_of p xs none.0, elements_of (3 * n) labels none.1.0, at_end (unbound-le C l) none.1.1.0)

  numbers_taken : All (λ (x : ℕ). x < p) xs → RightCircuit p n l selectors labels
      → answer_of (number_reasons p n l xs selectors labels) ≡ record { number = 0; detail = 0 }
  numbers_taken a R =
      taken (number_reasons p n l xs selectors labels)
      (elements_none p xs a, (elements_none (3 * n) labels (labels_right R).below, (at_none (bound R.circuit), tt)))

-- A WHOLE CALL: ITS LENGTHS, THEN ITS NUMBERS

module _ (p n l : ℕ) (long due xs selectors labels : List ℕ) where
  pub lent_numbers_of : length long ≡ length due → (answer_of (lent_reasons p n l long due ++ number_reasons p n l xs selectors labels)).number ≡ 0
      → Lent p n l long due × (All (λ (x : ℕ). x < p) xs × All (λ (a : ℕ). a < 3 * n) labels × (unbound_row (lent_constraints n selectors labels) l ≡ l))
  lent_numbers_of h e =
      let both = both_none (lent_reasons p n l long due) (number_reasons p n l xs selectors labels) (lent_numbers p n l long due) e in
      (lent_of p n l long due h both.0, numbers_of_lem p n l xs selectors labels both.1)

  pub lent_numbers_taken : Lent p n l long due → All (λ (x : ℕ). x < p) xs → RightCircuit p n l selectors labels
      → answer_of (lent_reasons p n l long due ++ number_reasons p n l xs selectors labels) ≡ record { number = 0; detail = 0 }
  lent_numbers_taken L a R =
      both_taken (lent_reasons p n l long due) (number_reasons p n l xs selectors labels) (lent_numbers p n l long due) (lent_taken L)
      (numbers_taken p n l xs selectors labels a R)

-- THE CALLS

module _ {p n : ℕ} (A : Admissible p n) where
  pub prepare_taken : {l : ℕ} {selectors labels : List ℕ} (written scratch : List ℕ) → RightCircuit p n l selectors labels
      → length written ≡ prepared_length n → length scratch ≡ scratch_length n
      → answer_of (prepare_reasons p n l selectors labels written scratch) ≡ record { number = 0; detail = 0 }
  prepare_taken {l} {selectors} {labels} written scratch R w s =
      lent_numbers_taken p n l (length selectors ∷ length labels ∷ length written ∷ length scratch ∷ []) (prepare_due n) selectors selectors labels
      (record { admissible = A; publics_few = R.circuit.publics_few; lengths = cc (R.selectors_long, R.labels_long) })
      (selectors-right R).below
      R

  pub rows_taken : {l : ℕ} {selectors labels witness publics z challenges : List ℕ} → RightCircuit p n l selectors labels → Elements p l publics
      → Elements p (witness_length n) witness → Elements p n z → Elements p 2 challenges
      → answer_of (rows_reasons p n l selectors labels witness publics z challenges) ≡ record { number = 0; detail = 0 }
  rows_taken {l} {selectors} {labels} {witness} {publics} {z} {challenges} R x w u c =
      let P : ℕ → Type 0 = λ x. x < p in
      lent_numbers_taken p n l (length selectors ∷ length labels ∷ length witness ∷ length publics ∷ length z ∷ length challenges ∷ []) (rows_due n l)
      (selectors ++ (witness ++ (publics ++ (z ++ challenges)))) selectors labels
      (record {
        admissible = A;
        publics_few = R.circuit.publics_few;
        lengths = cc (R.selectors_long, R.labels_long, w.long, x.long, u.long, c.long);
      })
      (all_append P selectors _ (selectors-right R).below
      (all_append P witness _ w.below (all_append P publics _ x.below (all_append P z _ u.below c.below))))
      R

  pub point_taken : {l : ℕ} {publics prepared transcript challenges : List ℕ} (e : ℕ) (scratch : List ℕ) → e ≤ 1 → l ≤ n → Elements p l publics
      → Elements p (prepared_length n) prepared → Elements p (transcript_length e n) transcript → Elements p 4 challenges → length scratch ≡ work_length e n
      → answer_of (point_reasons p n l publics prepared transcript challenges scratch) ≡ record { number = 0; detail = 0 }
  point_taken {l} {publics} {prepared} {transcript} {challenges} e scratch he few x u t c s =
      let P : ℕ → Type 0 = λ x. x < p in
      let long : List ℕ = length publics ∷ length prepared ∷ length transcript ∷ length challenges ∷ length scratch ∷ [] in
      let all : List ℕ = publics ++ (prepared ++ (transcript ++ challenges)) in
      rw (blinded_of e n transcript he t.long)
      (both_taken (lent_reasons p n l long (point_due e n l)) (bad_element p all ∷ []) (lent_numbers p n l long (point_due e n l))
      (lent_taken
      (record { admissible = A; publics_few = few; lengths = cc (x.long, u.long, t.long, c.long, s) }))
      (taken (bad_element p all ∷ []) (
        elements_none p all (all_append P publics _ x.below (all_append P prepared _ u.below (all_append P transcript _ t.below c.below))),
        tt,
      )))
