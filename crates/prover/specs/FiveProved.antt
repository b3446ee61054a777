-- What five values of a blinded transcript give away (document 02, request 9), about the answers of `prove_blinded` itself: nothing.
--
-- THE STATEMENT
-- ProvesFive       the nine numbers b are elements, and some answer of `prove_blinded`, lent these buffers and b, is accepted and leaves a transcript whose a, b, c, z at
--                  zeta and z at w × zeta are the list `five`
-- THE THEOREM
-- five-proved      of buffers that `prove_blinded` takes with some nine numbers, whichever: for every zeta but 0 with zeta^n ≠ 1 and every five elements, exactly p^4 choices of
--                  the nine give these five; at zeta = 0 exactly p^5 where the last two agree, and none else
-- equally_proved   so two witnesses that satisfy a circuit, each with its public inputs, have equally many choices for any five elements
--
-- `Accepted 1` says that `prove_blinded` takes the buffers: they are lent rightly, the witness satisfies the circuit, and the pair meets no 11. Which nine it was lent does
-- not matter: zeros will do. A call's answer r is any that keeps the promise Proves. `Exactly K P`, in FiveValues, says that K things satisfy P.
-- Assumes nothing.
use Rattle.std.specs.Prelude.{◌≡◌, refl, ◌≢◌, Bool, true, cond, List, ℕ, ◌^◌, ◌%◌, ◌<◌, get_or, replicate}
use Rattle.std.proofs.Common.{sym, ap, ◌∙◌, arith}
use Rattle.std.proofs.Math.Option.{some}
use Rattle.algebra.specs.Polynomial.{Elements}
use Rattle.field.specs.Reasons.{Answer, answer_of, is_accepted}
use Rattle.circuit.specs.Circuit.{lent_constraints, lent_public, lent_witness}
use Rattle.circuit.specs.Buffers.{blinder_count, work_length, wire_part, z_part}
use Rattle.protocol.specs.Protocol.{prove_reasons}
use Rattle.protocol.specs.FiveValues.{FiveAt, LaysFive, FiveValues, EquallyMany}
use Rattle.protocol.proofs.FiveValues.{five_of_lem, five-laid, equally_many}
use Rattle.witnesses.specs.Accepted.{Accepted, prove_taken}
use Rattle.prover.specs.Promises.{proved_from, Proves}

-- THE STATEMENT

-- what `prove_blinded` is lent, but for the nine numbers
pub record ProvesFive (p n l : ℕ) (selectors labels witness publics transcript challenges scratch : List ℕ) (zeta : ℕ) (five b : List ℕ) : Type 0 where
  pub blinders : Elements p blinder_count b
  pub r : Answer
  pub transcript' : List ℕ
  pub scratch' : List ℕ
  pub proves : Proves 1 p n l selectors labels witness publics transcript challenges b scratch r transcript' scratch'
  pub accepted : is_accepted r ≡ true
  pub values : FiveAt p n (λ c. wire_part 1 n c transcript') (z_part 1 n transcript') zeta five

-- THE PROOF

module _ {p n l : ℕ} {selectors labels witness publics transcript challenges scratch some-nine : List ℕ}
    (A : Accepted 1 p n l selectors labels witness publics transcript challenges some-nine scratch) where
  -- whichever the nine, no reason applies
  taken : (b : List ℕ) → Elements p blinder_count b → is_accepted (answer_of (prove_reasons 1 p n l selectors labels witness publics transcript challenges b scratch)) ≡ true
  taken b E =
      ap is_accepted
      (prove_taken 1 p n l selectors labels witness publics transcript challenges b scratch (omega arith)
      (record {
        honest = record {
          admissible = A.honest.admissible;
          current = A.honest.current;
          circuit-right = A.honest.circuit-right;
          publics-right = A.honest.publics-right;
          witness-right = A.honest.witness-right;
          transcript_long = A.honest.transcript_long;
          blinders-right = E;
          scratch_long = A.honest.scratch_long;
          satisfies = A.honest.satisfies;
        };
        challenges_right = A.challenges_right;
        no_zero = A.no_zero;
      }))

  abbrev Lays : (zeta : ℕ) (five b : List ℕ) → Type 0
  Lays = LaysFive p n (lent_constraints n selectors labels) (lent_public publics) (lent_witness n witness) (get_or challenges 0 0) (get_or challenges 1 0) (get_or challenges 2 0)

  abbrev Gives : (zeta : ℕ) (five b : List ℕ) → Type 0
  Gives = ProvesFive p n l selectors labels witness publics transcript challenges scratch

  lays_gives : (zeta : ℕ) (five b : List ℕ) → Lays zeta five b → Gives zeta five b
  lays_gives zeta five b h =
      let yes = taken b h.blinders in
      record {
        blinders = h.blinders;
        r = answer_of (prove_reasons 1 p n l selectors labels witness publics transcript challenges b scratch);
        transcript' = h.laid;
        scratch' = replicate (work_length 1 n) 0;
        proves = record { answer = refl; lays = rw yes (sym h.laid_is); cleared = rw yes };
        accepted = yes;
        values = h.values;
      }

  gives_lays : (zeta : ℕ) (five b : List ℕ) → Gives zeta five b → Lays zeta five b
  gives_lays zeta five b h =
      record {
        blinders = h.blinders;
        laid = h.transcript';
        laid_is = sym (h.proves.lays ∙ ap (λ (yes : Bool). cond yes (proved_from 1 p n selectors labels witness publics challenges b) (some transcript)) h.accepted);
        values = h.values;
      }

  -- THE THEOREM

  pub five-proved : FiveValues p n (ProvesFive p n l selectors labels witness publics transcript challenges scratch)
  five-proved =
      five_of_lem
      (five-laid p n A.honest.admissible (lent_constraints n selectors labels) (lent_public publics) (lent_witness n witness) (get_or challenges 0 0) (get_or challenges 1 0)
      A.no_zero (get_or challenges 2 0))
      lays_gives
      gives_lays

pub equally_proved : {p n l : ℕ} {selectors labels challenges : List ℕ}
    → {witness publics transcript scratch nine : List ℕ} → Accepted 1 p n l selectors labels witness publics transcript challenges nine scratch
    → {witness' publics' transcript' scratch' nine' : List ℕ} → Accepted 1 p n l selectors labels witness' publics' transcript' challenges nine' scratch'
    → (zeta : ℕ) → zeta < p → zeta ^ n % p ≢ 1 → (five : List ℕ) → Elements p 5 five
    → EquallyMany (ProvesFive p n l selectors labels witness publics transcript challenges scratch zeta five)
    (ProvesFive p n l selectors labels witness' publics' transcript' challenges scratch' zeta five)
equally_proved A B = equally_many (five-proved A) (five-proved B)
