-- How often `prove` and `prove_blinded` send an honest prover back: the refusals by 11, counted about the calls' own answers (document 02, request 6).
--
-- THE STATEMENT
-- RefusedBy11 e        the pair (beta, gamma) is one for which some answer of the call, lent these buffers and the challenges beta, gamma, alpha, has the number 11
-- RefusalsCounted e    exactly how many gammas with each beta, and how many pairs, are refused by 11; and that the call is accepted for all others
-- THE THEOREM
-- refusals_counted     RefusalsCounted holds of buffers that are lent rightly over a prime that may be proved with, with a witness that satisfies the circuit (`Honest`), and every alpha
--
-- The number e is 1 for `prove_blinded`, and 0 for `prove`, which is lent no blinders.
-- A call's answer r is any that keeps the promise Proves. `Exactly K P` says that K things satisfy P.
-- Assumes nothing.
use Rattle.std.specs.Prelude.{◌≡◌, refl, false, List, [], ◌∷◌, ℕ, ◌≤◌, ◌<◌, eqb}
use Rattle.std.proofs.Common.{ap, ◌∙◌, arith}
use Rattle.std.proofs.Math.Decide.{dec_lt}
use Rattle.algebra.specs.Lists.{Exactly}
use Rattle.algebra.specs.Exact.{exactly_of}
use Rattle.algebra.specs.Polynomial.{Elements}
use Rattle.field.specs.Reasons.{Answer, answer_of, is_accepted}
use Rattle.circuit.specs.Circuit.{Constraints, lent_constraints, lent_witness}
use Rattle.protocol.specs.Protocol.{zero_factor, prove_reasons, lost_gammas, lost_pairs}
use Rattle.protocol.specs.Conditions.{zero_factor-le}
use Rattle.protocol.specs.Demand3.{ZeroPair, Demand3}
use Rattle.protocol.proofs.Demand3.{demand_3}
use Rattle.witnesses.specs.Accepted.{Honest, prove_taken, refused_by_11}
use Rattle.prover.specs.Promises.{Proves}

-- THE STATEMENT

-- what the call is lent, but for beta and gamma
module _ (e p n l : ℕ) (selectors labels witness publics transcript blinders scratch : List ℕ) (alpha : ℕ) where
  pub record RefusedBy11 (pair : ℕ × ℕ) : Type 0 where
    pub beta_element : pair.0 < p
    pub gamma_element : pair.1 < p
    pub r : Answer
    pub transcript' : List ℕ
    pub scratch' : List ℕ
    pub proves : Proves e p n l selectors labels witness publics transcript (pair.0 ∷ pair.1 ∷ alpha ∷ []) blinders scratch r transcript' scratch'
    pub refused : r.number ≡ 11

  pub record RefusalsCounted : Type 0 where
    -- with each beta, as many gammas as there are different numbers among wire value + beta × tag
    pub gammas : (beta : ℕ) → beta < p → Exactly (lost_gammas p n (lent_witness n witness) beta) (λ gamma. RefusedBy11 (beta, gamma))
    -- of the p × p pairs, as many as the sum of these over all beta
    pub pairs : Exactly (lost_pairs p n (lent_witness n witness)) RefusedBy11
    -- each of the other pairs: every answer is accepted
    pub others : (beta gamma : ℕ) → beta < p → gamma < p → (RefusedBy11 (beta, gamma) → ⊥) → (r : Answer) (transcript' scratch' : List ℕ)
        → Proves e p n l selectors labels witness publics transcript (beta ∷ gamma ∷ alpha ∷ []) blinders scratch r transcript' scratch' → r ≡ record { number = 0; detail = 0 }

-- THE PROOF

module _ (e p n l : ℕ) (selectors labels witness publics transcript blinders scratch : List ℕ) (alpha : ℕ) (hα : alpha < p) (small : e ≤ 1)
    (H : Honest e p n l selectors labels witness publics transcript blinders scratch) where
  abbrev C : Constraints
  C = lent_constraints n selectors labels

  abbrev v : ℕ → ℕ
  v = lent_witness n witness

  abbrev demand : Demand3 e p n l (lent_constraints n selectors labels)
  demand = demand_3 e p n l H.admissible (lent_constraints n selectors labels) H.circuit-right.circuit

  module _ (beta gamma : ℕ) (hβ : beta < p) (hγ : gamma < p) where
    abbrev challenges : List ℕ
    challenges = beta ∷ gamma ∷ alpha ∷ []

    drawn : Elements p 3 (beta ∷ gamma ∷ alpha ∷ [])
    drawn = record { long = refl; below = (hβ, (hγ, (hα, tt))) }

    abbrev answer : Answer
    answer = answer_of (prove_reasons e p n l selectors labels witness publics transcript (beta ∷ gamma ∷ alpha ∷ []) blinders scratch)

    zero_refused : zero_factor p n (lent_constraints n selectors labels) (lent_witness n witness) beta gamma < n
        → (answer_of (prove_reasons e p n l selectors labels witness publics transcript (beta ∷ gamma ∷ alpha ∷ []) blinders scratch)).number ≡ 11
    zero_refused z = refused_by_11 e p n l selectors labels witness publics transcript challenges blinders scratch small H drawn z

    nonzero_taken : (zero_factor p n (lent_constraints n selectors labels) (lent_witness n witness) beta gamma < n → ⊥)
        → answer_of (prove_reasons e p n l selectors labels witness publics transcript (beta ∷ gamma ∷ alpha ∷ []) blinders scratch) ≡ record { number = 0; detail = 0 }
    nonzero_taken h =
        prove_taken e p n l selectors labels witness publics transcript challenges blinders scratch small
        (record { honest = H; challenges_right = drawn; no_zero = omega (arith, zero_factor-le p n C v beta gamma) })

  to : (pair : ℕ × ℕ) → ZeroPair p n (lent_constraints n selectors labels) (lent_witness n witness) pair
      → RefusedBy11 e p n l selectors labels witness publics transcript blinders scratch alpha pair
  to pair z =
      let eleven = zero_refused pair.0 pair.1 z.beta_element z.gamma_element z.zero_factor_lem in
      let no : is_accepted (answer pair.0 pair.1 z.beta_element z.gamma_element) ≡ false = ap (λ (k : ℕ). eqb k 0) eleven in
      record {
        beta_element = z.beta_element;
        gamma_element = z.gamma_element;
        r = answer pair.0 pair.1 z.beta_element z.gamma_element;
        transcript' = transcript;
        scratch' = scratch;
        proves = record { answer = refl; lays = rw no; cleared = rw no };
        refused = eleven;
      }

  from : (pair : ℕ × ℕ) → RefusedBy11 e p n l selectors labels witness publics transcript blinders scratch alpha pair
      → ZeroPair p n (lent_constraints n selectors labels) (lent_witness n witness) pair
  from pair h = record { beta_element = h.beta_element; gamma_element = h.gamma_element; zero_factor_lem = go (dec_lt (zero_factor p n C v pair.0 pair.1) n) }
    where
      go : Dec (zero_factor p n C v pair.0 pair.1 < n) → zero_factor p n C v pair.0 pair.1 < n
      go (yes z) = z
      go (no z) =
          let none = ap (λ (a : Answer). a.number) (h.proves.answer ∙ nonzero_taken pair.0 pair.1 h.beta_element h.gamma_element z) in
          absurd (omega (arith, none, h.refused))

  -- THE THEOREM

  pub refusals_counted : RefusalsCounted e p n l selectors labels witness publics transcript blinders scratch alpha
  refusals_counted =
      record {
        gammas = λ beta hβ. exactly_of (demand.lost_gammas_lem _ _ H.satisfies beta hβ) (λ gamma. to (beta, gamma)) (λ gamma. from (beta, gamma));
        pairs = exactly_of (demand.lost_pairs_lem _ _ H.satisfies) to from;
        others = λ beta gamma hβ hγ none r transcript' scratch' P.
            P.answer
            ∙ nonzero_taken beta gamma hβ hγ (λ z. none (to (beta, gamma) record { beta_element = hβ; gamma_element = hγ; zero_factor_lem = z }));
      }
