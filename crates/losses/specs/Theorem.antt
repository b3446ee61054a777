-- What the count of `lost_gammas` is worth: for a witness that satisfies its circuit it is the number of gammas that meet 11's condition, and that `prove` and `prove_blinded`
-- refuse with 11.
--
-- lost_taken        no reason applies to 3n elements and one beta below p
-- count_zero        over any of the three primes: lent a witness that satisfies a circuit and a beta, the call's count is exactly the number of gammas with a zero factor of some D(i)
-- count_refused     over a prime that may be proved with: lent the witness of an honest prover and a beta, it is exactly the number of gammas that `prove`, and `prove_blinded`, refuses with 11, for every alpha
--
-- A call's answer is any that keeps the call's promise: LosesGammas, and Proves in RefusedBy11.
-- Assumes nothing.
use Rattle.std.specs.Prelude.{◌≡◌, refl, Bool, true, cond, List, [], ◌∷◌, ◌++◌, ℕ, ◌≤◌, ◌<◌, length, Some, None}
use Rattle.std.specs.Option.{unwrap_or}
use Rattle.std.proofs.Common.{sym, ap, ◌∙◌, subst, arith}
use Rattle.algebra.specs.Lists.{Exactly}
use Rattle.algebra.specs.Polynomial.{Elements}
use Rattle.algebra.specs.Tables.{all_append}
use Rattle.field.specs.Fields.{Admissible}
use Rattle.field.specs.Lent.{lent_numbers, lent_taken}
use Rattle.field.specs.Reasons.{Outcome, given, answer_of, is_accepted, lent_reasons, bad_element}
use Rattle.field.specs.ReasonLaws.{taken, both_taken, elements_none}
use Rattle.circuit.specs.Circuit.{Constraints, Circuit, lent_witness, Satisfies}
use Rattle.circuit.specs.Buffers.{witness_length}
use Rattle.protocol.specs.Protocol.{lost_gammas}
use Rattle.protocol.specs.Demand3.{ZeroPair}
use Rattle.protocol.proofs.Demand3.{demand_3}
use Rattle.witnesses.specs.Accepted.{Honest}
use Rattle.prover.specs.Refusals.{RefusedBy11, refusals_counted}
use Rattle.losses.specs.Losses.{lost_due, lost_reasons, LosesGammas}

pub lost_taken : {p n : ℕ} → Admissible p n → {witness challenges : List ℕ} → Elements p (witness_length n) witness → Elements p 1 challenges
    → answer_of (lost_reasons p n witness challenges) ≡ record { number = 0; detail = 0 }
lost_taken {p} {n} A {witness} {challenges} w c =
    let long : List ℕ = length witness ∷ length challenges ∷ [] in
    both_taken (lent_reasons p n 0 long (lost_due n)) (bad_element p (witness ++ challenges) ∷ []) (lent_numbers p n 0 long (lost_due n))
    (lent_taken (record { admissible = A; publics_few = omega arith; lengths = cc (w.long, c.long) }))
    (taken (bad_element p (witness ++ challenges) ∷ []) (elements_none p (witness ++ challenges) (all_append (λ (a : ℕ). a < p) witness challenges w.below c.below), tt))

module _ {p n : ℕ} (A : Admissible p n) {witness : List ℕ} (w : Elements p (witness_length n) witness) (beta : ℕ) (hβ : beta < p) (r : Outcome ℕ)
    (L : LosesGammas p n witness (beta ∷ []) r) where
  count_is : given r ≡ lost_gammas p n (lent_witness n witness) beta
  count_is =
      let drawn : Elements p 1 (beta ∷ []) = record { long = refl; below = (hβ, tt) } in
      let yes : is_accepted r.answer ≡ true = ap is_accepted (L.answer ∙ lost_taken A w drawn) in
      ap (λ o. unwrap_or o 0) (L.count ∙ ap (λ (b : Bool). cond b (Some (lost_gammas p n (lent_witness n witness) beta)) None) yes)

  pub count_zero : {l : ℕ} (C : Constraints) → Circuit p n l C → (x : ℕ → ℕ) → Satisfies p n C x (lent_witness n witness)
      → Exactly (given r) (λ gamma. ZeroPair p n C (lent_witness n witness) (beta, gamma))
  count_zero {l} C circuit x satisfies =
      subst (λ (K : ℕ). Exactly K (λ gamma. ZeroPair p n C (lent_witness n witness) (beta, gamma))) (sym count_is)
      ((demand_3 0 p n l A C circuit).lost_gammas_lem x (lent_witness n witness) satisfies beta hβ)

-- of `prove` where e is 0, and of `prove_blinded` where it is 1
pub count_refused : {e p n l : ℕ} {selectors labels witness publics transcript blinders scratch : List ℕ} → e ≤ 1
    → Honest e p n l selectors labels witness publics transcript blinders scratch
    → (beta : ℕ) → beta < p → (r : Outcome ℕ) → LosesGammas p n witness (beta ∷ []) r
    → (alpha : ℕ) → alpha < p → Exactly (given r) (λ gamma. RefusedBy11 e p n l selectors labels witness publics transcript blinders scratch alpha (beta, gamma))
count_refused {e} {p} {n} {l} {selectors} {labels} {witness} {publics} {transcript} {blinders} {scratch} small H beta hβ r L alpha hα =
    subst (λ (K : ℕ). Exactly K (λ gamma. RefusedBy11 e p n l selectors labels witness publics transcript blinders scratch alpha (beta, gamma)))
    (sym (count_is H.admissible H.witness-right beta hβ r L))
    ((refusals_counted e p n l selectors labels witness publics transcript blinders scratch alpha hα small H).gammas beta hβ)
