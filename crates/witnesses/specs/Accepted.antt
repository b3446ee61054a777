-- What holds exactly where no reason of the prover applies, and where 11 alone does.
--
-- Honest e      p and n are admissible, p may be proved with, every buffer but the challenges is lent rightly, and the witness satisfies the circuit
-- Accepted e    the same, the challenges are lent rightly, and no factor of any D(i) is 0
-- accepted_of   an answer with number 0 means that all of it holds
-- prove_taken   where all of it holds, no reason applies: buffers that are lent rightly, with a witness that satisfies the circuit and no zero factor, are never turned down
-- prove_retired    over 97 the answer is 16, whatever else is lent
-- refused_by_11    where Honest holds and the challenges are lent rightly, but a factor of some D(i) is 0, the answer is 11
-- buffer_numbers   no reason of the buffers has number 0
-- behind_of, behind_right   what stands behind the challenges in the two tables of lengths is the same exactly where blinders and scratch have the lengths due
-- buffers_of    where none of them applies, p, n, l, the lengths and the numbers are right
--
-- The number e is 1 for `prove_blinded`, and 0 for `prove`, which is lent no blinders.
-- Assumes nothing.
use Rattle.std.specs.Prelude.{◌≡◌, refl, ◌≢◌, true, List, [], ◌∷◌, ◌++◌, ℕ, zero, suc, ◌*◌, ◌≤◌, ◌<◌, length, get_or, replicate}
use Rattle.std.proofs.Common.{sym, ap, ◌∙◌, arith, length-append, lt-ltb}
use Rattle.std.proofs.lemmas.List.{length-replicate}
use Rattle.algebra.specs.Lists.{All}
use Rattle.algebra.specs.Polynomial.{Elements}
use Rattle.algebra.specs.Search.{first_le}
use Rattle.algebra.specs.Tables.{all_append, all_left, all_right}
use Rattle.field.specs.Fields.{is_field, is_current, Admissible}
use Rattle.field.specs.Lent.{Lent}
use Rattle.field.specs.Reasons.{Answer, Reason, answer_of}
use Rattle.field.specs.ReasonLaws.{none_applies, taken, both_none, both_taken, refused_later, current_known, current_answer}
use Rattle.circuit.specs.Circuit.{Constraints, lent_constraints, lent_public, lent_witness, Satisfies}
use Rattle.circuit.specs.Buffers.{blinder_count, witness_length, transcript_length, work_length}
use Rattle.circuit.specs.Reasons.{unbound_row, prove_due, prove_long, prove_buffer_reasons}
use Rattle.circuit.specs.RightlyLent.{RightCircuit, selectors-right, at_end, at_none, circuit_of, lent_numbers_of, lent_numbers_taken}
use Rattle.protocol.specs.Protocol.{broken_gate, broken_copy, zero_factor, witness_reasons, prove_reasons}
use Rattle.protocol.specs.Conditions.{satisfied, unbroken, zero_factor-le}

pub record Honest (e p n l : ℕ) (selectors labels witness publics transcript blinders scratch : List ℕ) : Type 0 where
  pub admissible : Admissible p n
  pub current : is_current p ≡ true
  pub circuit-right : RightCircuit p n l selectors labels
  pub publics-right : Elements p l publics
  pub witness-right : Elements p (witness_length n) witness
  pub transcript_long : length transcript ≡ transcript_length e n
  pub blinders-right : Elements p (blinder_count * e) blinders
  pub scratch_long : length scratch ≡ work_length e n
  pub satisfies : Satisfies p n (lent_constraints n selectors labels) (lent_public publics) (lent_witness n witness)

pub record Accepted (e p n l : ℕ) (selectors labels witness publics transcript challenges blinders scratch : List ℕ) : Type 0 where
  pub honest : Honest e p n l selectors labels witness publics transcript blinders scratch
  pub challenges_right : Elements p 3 challenges
  pub no_zero : zero_factor p n (lent_constraints n selectors labels) (lent_witness n witness) (get_or challenges 0 0) (get_or challenges 1 0) ≡ n

broken_gate-le : (p n : ℕ) (C : Constraints) (x v : ℕ → ℕ) → broken_gate p n C x v ≤ n
unfolding broken_gate
broken_gate-le p n C x v = first_le _ n

broken_copy-le : (n : ℕ) (C : Constraints) (v : ℕ → ℕ) → broken_copy n C v ≤ 3 * n
unfolding broken_copy
broken_copy-le n C v = first_le _ (3 * n)

-- a is the length of the blinders, where there are any, and b that of the scratch
pub behind_of : (e a b d : ℕ) → e ≤ 1 → (e ≡ 0 → a ≡ 0) → replicate e a ++ (b ∷ []) ≡ replicate e blinder_count ++ (d ∷ []) → (a ≡ blinder_count * e) × (b ≡ d)
behind_of zero a b d h none u = (none refl, cc)
behind_of (suc zero) a b d h none u = (cc, cc)
behind_of (suc (suc e)) a b d h none u = absurd (omega arith)

pub behind_right : (e a b d : ℕ) → e ≤ 1 → a ≡ blinder_count * e → b ≡ d → replicate e a ++ (b ∷ []) ≡ replicate e blinder_count ++ (d ∷ [])
behind_right zero a b d h u w = cc
behind_right (suc zero) a b d h u w = cc
behind_right (suc (suc e)) a b d h u w = absurd (omega arith)

module _ (e p n l : ℕ) (selectors labels witness publics transcript challenges blinders scratch : List ℕ) where
  abbrev long : List ℕ
  long = prove_long e selectors labels witness publics transcript challenges blinders scratch

  abbrev elements : List ℕ
  elements = selectors ++ (witness ++ (publics ++ (challenges ++ blinders)))

  abbrev buffers : List Reason
  buffers = prove_buffer_reasons e p n l selectors labels witness publics transcript challenges blinders scratch

  abbrev of_witness : List Reason
  of_witness =
      witness_reasons p n (lent_constraints n selectors labels) (lent_public publics) (lent_witness n witness) (get_or challenges 0 0) (get_or challenges 1 0)

  pub buffer_numbers : All (λ r. r.number ≢ 0) buffers
  buffer_numbers = (omega arith, (omega arith, (omega arith, (omega arith, (omega arith, (omega arith, (omega arith, tt)))))))

  pub buffers_of : (answer_of buffers).number ≡ 0
      → Lent p n l long (prove_due e n l)
      × (All (λ (a : ℕ). a < p) elements × All (λ (k : ℕ). k < 3 * n) labels × (unbound_row (lent_constraints n selectors labels) l ≡ l))
  buffers_of = lent_numbers_of p n l long (prove_due e n l) elements selectors labels (simp (length-append, length-replicate))

  -- where e is 0 there are no blinders
  pub accepted_of : e ≤ 1 → (e ≡ 0 → blinders ≡ []) → (answer_of (prove_reasons e p n l selectors labels witness publics transcript challenges blinders scratch)).number ≡ 0
      → Accepted e p n l selectors labels witness publics transcript challenges blinders scratch
  accepted_of small none is =
      let P : ℕ → Type 0 = λ a. a < p in
      let current = current_known p (buffers ++ of_witness) refl is in
      let both = both_none buffers of_witness buffer_numbers (ap (λ (a : Answer). a.number) (sym (current_answer p current (buffers ++ of_witness))) ∙ is) in
      let known = buffers_of both.0 in
      let lent = known.0 in
      let later = all_right P selectors _ known.1.0 in
      let last = all_right P witness _ later in
      let drawn = all_right P publics _ last in
      let behind = behind_of e (length blinders) (length scratch) (work_length e n) small (λ h. ap (λ (b : List ℕ). length b) (none h)) (cc lent.lengths) in
      let broken = none_applies of_witness (omega arith, (omega arith, (omega arith, tt))) both.1 in
      record {
        honest = record {
          admissible = lent.admissible;
          current = current;
          circuit-right =
              circuit_of lent.publics_few
              (record { long = cc lent.lengths; below = all_left P selectors _ known.1.0 })
              (record { long = cc lent.lengths; below = known.1.1 })
              known.1.2;
          publics-right = record { long = cc lent.lengths; below = all_left P publics _ last };
          witness-right = record { long = cc lent.lengths; below = all_left P witness _ later };
          transcript_long = cc lent.lengths;
          blinders-right = record { long = behind.0; below = all_right P challenges _ drawn };
          scratch_long = behind.1;
          satisfies = satisfied p n _ _ _ (at_end (broken_gate-le p n _ _ _) broken.0) (at_end (broken_copy-le n _ _) broken.1.0);
        };
        challenges_right = record { long = cc lent.lengths; below = all_left P challenges _ drawn };
        no_zero = at_end (zero_factor-le p n _ _ _ _) broken.1.1.0;
      }

  -- the pair aside, nothing is wrong
  module _ (small : e ≤ 1) (H : Honest e p n l selectors labels witness publics transcript blinders scratch) (drawn : Elements p 3 challenges) where
    buffers_taken : answer_of (prove_buffer_reasons e p n l selectors labels witness publics transcript challenges blinders scratch) ≡ record { number = 0; detail = 0 }
    buffers_taken =
        let P : ℕ → Type 0 = λ a. a < p in
        let R = H.circuit-right in
        let behind = behind_right e (length blinders) (length scratch) (work_length e n) small H.blinders-right.long H.scratch_long in
        lent_numbers_taken p n l long (prove_due e n l) elements selectors labels
        (record {
          admissible = H.admissible;
          publics_few = R.circuit.publics_few;
          lengths = cc (R.selectors_long, R.labels_long, H.witness-right.long, H.publics-right.long, H.transcript_long, drawn.long, behind);
        })
        (all_append P selectors _ (selectors-right R).below
        (all_append P witness _ H.witness-right.below (all_append P publics _ H.publics-right.below (all_append P challenges _ drawn.below H.blinders-right.below))))
        R

    pub refused_by_11 : zero_factor p n (lent_constraints n selectors labels) (lent_witness n witness) (get_or challenges 0 0) (get_or challenges 1 0) < n
        → (answer_of (prove_reasons e p n l selectors labels witness publics transcript challenges blinders scratch)).number ≡ 11
    refused_by_11 z =
        let whole = unbroken p n _ _ _ H.satisfies in
        let eleven : (answer_of of_witness).number ≡ 11 = rw (at_none whole.0, at_none whole.1, lt-ltb _ n z) in
        let later = refused_later buffers of_witness buffer_numbers _ _ refl (ap (λ (a : Answer). a.number) buffers_taken) refl in
        ap (λ (a : Answer). a.number) (current_answer p H.current (buffers ++ of_witness) ∙ sym later) ∙ eleven

  pub prove_taken : e ≤ 1 → Accepted e p n l selectors labels witness publics transcript challenges blinders scratch
      → answer_of (prove_reasons e p n l selectors labels witness publics transcript challenges blinders scratch) ≡ record { number = 0; detail = 0 }
  prove_taken small A =
      let whole = unbroken p n _ _ _ A.honest.satisfies in
      current_answer p A.honest.current (buffers ++ of_witness)
      ∙ both_taken buffers of_witness buffer_numbers (buffers_taken small A.honest A.challenges_right)
      (taken of_witness (at_none whole.0, (at_none whole.1, (at_none A.no_zero, tt))))

pub prove_retired : (e n l : ℕ) (selectors labels witness publics transcript challenges blinders scratch : List ℕ)
    → answer_of (prove_reasons e 97 n l selectors labels witness publics transcript challenges blinders scratch) ≡ record { number = 16; detail = 0 }
unfolding is_field is_current
prove_retired e n l selectors labels witness publics transcript challenges blinders scratch = refl
