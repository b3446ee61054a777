-- Demand 3, stated about the answers of the calls `check_rows` and `check_point`, for every admissible p and n, and for blinded transcripts and others at once.
--
-- THE STATEMENT
-- RowsPass e            the pair (beta, gamma) is one for which some answer of `check_rows`, lent the wires' witness and the row values of some z, is Pass
-- PointAccepts e        the zeta is one for which some answer of `check_point`, lent the prepared circuit and the transcript, is Accept
-- AnswersCounted e      what the public inputs bind, how few pairs, alphas and zetas there are for a cheat, and that an honest witness gets
--                       Pass and Accept, whatever blinds it
-- THE THEOREM
-- answers_counted       AnswersCounted holds for e = 0 and e = 1, every admissible p and n, and every circuit and public inputs that are lent rightly
--
-- The number e is 1 where the transcript is blinded, and 0 where it is not: wires have n + 2e elements, z n + 3e and t 3n - 3 + 9e. The transcript's
-- length tells `check_point` which.
-- A call's answer r is any that keeps the call's promise: ChecksRows or PointChecks. `AtMost K P` says that at most K things satisfy P.
-- Assumes nothing.
use Rattle.std.specs.Prelude.{◌≡◌, refl, Bool, true, false, cond, List, [], ◌∷◌, ℕ, ◌+◌, ◌*◌, ◌-◌, ◌<◌, ◌≤◌, length, Some, None}
use Rattle.std.proofs.Common.{sym, ◌∙◌, mod-lt, arith, length-append}
use Rattle.std.proofs.Math.Option.{some}
use Rattle.algebra.specs.Lists.{AtMost}
use Rattle.algebra.specs.Polynomial.{Elements}
use Rattle.algebra.specs.PolynomialLaws.{tab_elements}
use Rattle.algebra.specs.Tables.{get_or-tab, all_get_d}
use Rattle.algebra.specs.Counting.{at_most_of}
use Rattle.field.specs.Fields.{Admissible}
use Rattle.field.specs.Primes.{field_prime}
use Rattle.field.specs.Reasons.{Answer, Outcome, answer_of, is_accepted}
use Rattle.transform.specs.Transform.{value_at, evaluation}
use Rattle.circuit.specs.Circuit.{Constraints, position, Satisfies, lent_constraints, lent_public, lent_witness, laid_witness}
use Rattle.circuit.specs.Witness.{lent_laid, laid_elements, lent_below}
use Rattle.circuit.specs.Buffers.{witness_length, wire_length, z_length, quotient_length, work_length, blinded_by}
use Rattle.circuit.specs.Parts.{blinded_of}
use Rattle.circuit.specs.Reasons.{rows_reasons}
use Rattle.circuit.specs.RightlyLent.{RightCircuit, rows_taken, point_taken}
use Rattle.protocol.specs.Protocol.{RowVerdict, pass, fails, row_verdict, z_rows, prepared, transcript, proved, zero_factor}
use Rattle.protocol.proofs.SameValues.{verdict_ext}
use Rattle.protocol.specs.Demand3.{witness_of, PassingPair, HoldingAlpha, AcceptedZeta, Demand3}
use Rattle.protocol.proofs.Demand3.{demand_3}
use Rattle.rowcheck.specs.declared.Verdict.{Verdict}
use Rattle.rowcheck.specs.declared.Verdict.TheVariants.{Pass}
use Rattle.rowcheck.specs.Promises.{verdict_of, lent_z, ChecksRows}
use Rattle.pointcheck.specs.declared.Judged.{Judged}
use Rattle.pointcheck.specs.declared.Judged.TheVariants as judged
use Rattle.pointcheck.specs.Promises.{PointChecks}
use Rattle.pointcheck.specs.Verdicts.{accept_of, answer_accept}

-- THE STATEMENT

-- a cheat's three wires, and the lent circuit and public inputs
module _ (e p n l : ℕ) (selectors labels publics : List ℕ) (wire : ℕ → List ℕ) where
  -- `check_rows`, lent the wires' witness and the values of some z at the domain points, answers Pass
  pub record RowsPass (pair : ℕ × ℕ) : Type 0 where
    pub beta_element : pair.0 < p
    pub gamma_element : pair.1 < p
    pub z : List ℕ
    pub z_elements : Elements p (z_length e n) z
    pub r : Outcome Verdict
    pub checks : ChecksRows p n l selectors labels (laid_witness n (witness_of p n wire)) publics (evaluation p n z) (pair.0 ∷ pair.1 ∷ []) r
    pub passes : r.value ≡ Some Pass

  -- `check_point`, lent the prepared circuit and the transcript of these wires, z and t, answers Accept
  pub record PointAccepts (z t : List ℕ) (pair : ℕ × ℕ) (alpha zeta : ℕ) : Type 0 where
    pub zeta_element : zeta < p
    pub scratch : List ℕ
    pub scratch' : List ℕ
    pub r : Outcome Judged
    pub checks : PointChecks p n l publics (prepared p n (lent_constraints n selectors labels)) (transcript wire z t) (pair.0 ∷ pair.1 ∷ alpha ∷ zeta ∷ []) scratch r scratch'
    pub accepts : r.value ≡ Some judged.Accept

-- the lent circuit and public inputs
pub record AnswersCounted (e p n l : ℕ) (selectors labels publics : List ℕ) : Type 0 where
  -- a witness that satisfies the circuit has the public inputs at a, in the rows below l
  pub publics-bound : (witness : List ℕ) → Elements p (witness_length n) witness
      → Satisfies p n (lent_constraints n selectors labels) (lent_public publics) (lent_witness n witness)
      → (i : ℕ) → i < l → lent_witness n witness (position n 0 i) ≡ lent_public publics i
  -- the witness of the three wires breaks a gate or gives one variable two values: at most (3n - 1) × p pairs let some z get the answer Pass
  pub few_pairs : (wire : ℕ → List ℕ) → ((c : ℕ) → c < 3 → Elements p (wire_length e n) (wire c))
      → (Satisfies p n (lent_constraints n selectors labels) (lent_public publics) (witness_of p n wire) → ⊥)
      → AtMost ((3 * n - 1) * p) (RowsPass e p n l selectors labels publics wire)
  -- any of the other pairs, and any z: at most 2 alphas let some quotient hold
  pub few_alphas : (wire : ℕ → List ℕ) → ((c : ℕ) → c < 3 → Elements p (wire_length e n) (wire c))
      → (pair : ℕ × ℕ) → pair.0 < p → pair.1 < p → (RowsPass e p n l selectors labels publics wire pair → ⊥)
      → (z : List ℕ) → Elements p (z_length e n) z
      → AtMost 2 (HoldingAlpha e p n (lent_constraints n selectors labels) (lent_public publics) wire z pair)
  -- any of the other alphas, and any t: at most 4n - 4 + 9e zetas get the answer Accept
  pub few_zetas : (wire : ℕ → List ℕ) → ((c : ℕ) → c < 3 → Elements p (wire_length e n) (wire c))
      → (pair : ℕ × ℕ) (alpha : ℕ) → alpha < p → (z : List ℕ) → Elements p (z_length e n) z
      → (HoldingAlpha e p n (lent_constraints n selectors labels) (lent_public publics) wire z pair alpha → ⊥)
      → (t : List ℕ) → Elements p (quotient_length e n) t
      → AtMost (4 * n - 4 + 9 * e) (PointAccepts e p n l selectors labels publics wire z t pair alpha)
  -- a witness that satisfies the circuit, and no zero factor of any D(i): there is a z on the rows, and the row check, lent it, answers Pass
  pub honest_rows : (witness : List ℕ) → Elements p (witness_length n) witness
      → Satisfies p n (lent_constraints n selectors labels) (lent_public publics) (lent_witness n witness)
      → (beta gamma : ℕ) → beta < p → gamma < p → zero_factor p n (lent_constraints n selectors labels) (lent_witness n witness) beta gamma ≡ n
      → (z : List ℕ) × (z_rows p n (lent_constraints n selectors labels) (lent_witness n witness) beta gamma ≡ some z)
      × ((r : Outcome Verdict) → ChecksRows p n l selectors labels witness publics z (beta ∷ gamma ∷ []) r → r.value ≡ Some Pass)
  -- the same witness, and any numbers b that blind it: there is a transcript that the prover lays, and the point check, lent it, answers Accept,
  -- for every alpha and zeta
  pub honest_point : (witness : List ℕ)
      → Satisfies p n (lent_constraints n selectors labels) (lent_public publics) (lent_witness n witness)
      → (beta gamma : ℕ) → beta < p → gamma < p → zero_factor p n (lent_constraints n selectors labels) (lent_witness n witness) beta gamma ≡ n
      → (b : List ℕ) (alpha : ℕ) → alpha < p
      → (T : List ℕ) × (proved e p n (lent_constraints n selectors labels) (lent_public publics) (lent_witness n witness) b beta gamma alpha ≡ some T)
      × ((zeta : ℕ) → zeta < p → (scratch scratch' : List ℕ) → length scratch ≡ work_length e n → (r : Outcome Judged)
      → PointChecks p n l publics (prepared p n (lent_constraints n selectors labels)) T (beta ∷ gamma ∷ alpha ∷ zeta ∷ []) scratch r scratch'
      → r.value ≡ Some judged.Accept)

-- THE ANSWERS

-- an answer that is a verdict of pass, and back
pass_of : (b : Bool) (v : RowVerdict) → cond b (Some (verdict_of v)) None ≡ Some Pass → v ≡ pass
pass_of true pass h = refl
pass_of true (fails id i) h = cc
pass_of false v h = cc

abbrev accepted : Answer
accepted = record { number = 0; detail = 0 }

answer_pass : (a : Answer) (v : RowVerdict) → a ≡ accepted → v ≡ pass → cond (is_accepted a) (Some (verdict_of v)) None ≡ Some Pass
answer_pass a v h k = rw (h, k)

lent_values : (p n : ℕ) (z : List ℕ) (i : ℕ) → i < n → lent_z (evaluation p n z) i ≡ value_at p n z i
unfolding evaluation
lent_values p n z i h = get_or-tab (value_at p n z) n i h

-- values at the domain points
evaluation_elements : (p n : ℕ) → 0 < p → (z : List ℕ) → Elements p n (evaluation p n z)
unfolding evaluation
evaluation_elements p n h z = tab_elements (value_at p n z) n (λ k l. mod-lt _ h)

module _ (e p n l : ℕ) (selectors labels publics : List ℕ) where
  abbrev C : Constraints
  C = lent_constraints n selectors labels

  abbrev x : ℕ → ℕ
  x = lent_public publics

  module _ (wire : ℕ → List ℕ) where
    abbrev lent : List ℕ
    lent = laid_witness n (witness_of p n wire)

    -- of the witness that is lent for these wires, and the lent values of z, the verdict is that of the wires and z
    same_verdict : (z : List ℕ) (beta gamma : ℕ)
        → row_verdict p n (lent_constraints n selectors labels) (lent_public publics) (lent_witness n (laid_witness n (witness_of p n wire))) (lent_z (evaluation p n z)) beta gamma
        ≡ row_verdict p n (lent_constraints n selectors labels) (lent_public publics) (witness_of p n wire) (value_at p n z) beta gamma
    same_verdict z beta gamma =
        verdict_ext p n (lent_witness n lent) (witness_of p n wire) (lent_laid n (witness_of p n wire)) C x beta gamma (lent_z (evaluation p n z)) (value_at p n z) (lent_values p n z)

    passing : (pair : ℕ × ℕ) → RowsPass e p n l selectors labels publics wire pair → PassingPair e p n (lent_constraints n selectors labels) (lent_public publics) wire pair
    passing pair h =
        record {
          beta_element = h.beta_element;
          gamma_element = h.gamma_element;
          z = h.z;
          z_elements = h.z_elements;
          z_passes =
              sym (same_verdict h.z pair.0 pair.1) ∙ pass_of (is_accepted h.r.answer) _ (sym h.checks.verdict ∙ h.passes);
        }

    -- the call takes the transcript of these wires, z and t for what it is
    same_blinding : e ≤ 1 → ((c : ℕ) → c < 3 → Elements p (wire_length e n) (wire c)) → (z : List ℕ) → Elements p (z_length e n) z
        → (t : List ℕ) → Elements p (quotient_length e n) t → blinded_by n (transcript wire z t) ≡ e
    same_blinding he ew z ez t et =
        blinded_of e n (transcript wire z t) he
        (simp length-append (omega (arith, (ew 0 (omega arith)).long, (ew 1 (omega arith)).long, (ew 2 (omega arith)).long, ez.long, et.long)))

    accepted_zeta : (z t : List ℕ) → blinded_by n (transcript wire z t) ≡ e → (pair : ℕ × ℕ) (alpha zeta : ℕ) → PointAccepts e p n l selectors labels publics wire z t pair alpha zeta
        → AcceptedZeta e p n (lent_constraints n selectors labels) (lent_public publics) wire z t pair alpha zeta
    accepted_zeta z t is pair alpha zeta h =
        record {
          zeta_element = h.zeta_element;
          accepted = rw (← is) (accept_of (is_accepted h.r.answer) _ (sym h.checks.verdict ∙ h.accepts));
        }

    -- a pair for which some z passes gets the answer Pass, the buffers being lent rightly
    answered : Admissible p n → RightCircuit p n l selectors labels → Elements p l publics → (pair : ℕ × ℕ)
        → PassingPair e p n (lent_constraints n selectors labels) (lent_public publics) wire pair → RowsPass e p n l selectors labels publics wire pair
    answered A right right_x pair h =
        let positive : 0 < p = omega (arith, (field_prime p A.one_of_three).two) in
        let values : List ℕ = evaluation p n h.z in
        let challenges : List ℕ = pair.0 ∷ pair.1 ∷ [] in
        let drawn : Elements p 2 challenges = record { long = refl; below = (h.beta_element, (h.gamma_element, tt)) } in
        let answer : Answer = answer_of (rows_reasons p n l selectors labels lent publics values challenges) in
        let verdict : RowVerdict = row_verdict p n C x (lent_witness n lent) (lent_z values) pair.0 pair.1 in
        record {
          beta_element = h.beta_element;
          gamma_element = h.gamma_element;
          z = h.z;
          z_elements = h.z_elements;
          r = record { answer = answer; value = cond (is_accepted answer) (Some (verdict_of verdict)) None };
          checks = record { answer = refl; verdict = refl };
          passes =
              answer_pass answer verdict
              (rows_taken A right right_x
              (laid_elements n (witness_of p n wire) (λ k u. mod-lt _ positive))
              (evaluation_elements p n positive h.z)
              drawn)
              (same_verdict h.z pair.0 pair.1 ∙ h.z_passes);
        }

-- THE THEOREM

module _ (e p n : ℕ) (he : e ≤ 1) (A : Admissible p n) (l : ℕ) (selectors labels publics : List ℕ) (right : RightCircuit p n l selectors labels)
    (right_x : Elements p l publics) where
  abbrev two : 1 < p
  two = (field_prime p A.one_of_three).two

  abbrev demand : Demand3 e p n l (lent_constraints n selectors labels)
  demand = demand_3 e p n l A (lent_constraints n selectors labels) right.circuit

  honest_rows : (witness : List ℕ) → Elements p (witness_length n) witness
      → Satisfies p n (lent_constraints n selectors labels) (lent_public publics) (lent_witness n witness)
      → (beta gamma : ℕ) → beta < p → gamma < p → zero_factor p n (lent_constraints n selectors labels) (lent_witness n witness) beta gamma ≡ n
      → (z : List ℕ) × (z_rows p n (lent_constraints n selectors labels) (lent_witness n witness) beta gamma ≡ some z)
      × ((r : Outcome Verdict) → ChecksRows p n l selectors labels witness publics z (beta ∷ gamma ∷ []) r → r.value ≡ Some Pass)
  honest_rows witness elements sat beta gamma hb hg nonzero =
      let K = demand.completeness (lent_public publics) (lent_witness n witness) sat beta gamma nonzero [] in
      let drawn : Elements p 2 (beta ∷ gamma ∷ []) = record { long = refl; below = (hb, (hg, tt)) } in (
        K.rows,
        K.grand.is,
        λ r checks.
            checks.verdict
            ∙ answer_pass _ _ (checks.answer ∙ rows_taken A right right_x elements K.grand.elements drawn) K.z_passes,
      )

  honest_point : (witness : List ℕ)
      → Satisfies p n (lent_constraints n selectors labels) (lent_public publics) (lent_witness n witness)
      → (beta gamma : ℕ) → beta < p → gamma < p → zero_factor p n (lent_constraints n selectors labels) (lent_witness n witness) beta gamma ≡ n
      → (b : List ℕ) (alpha : ℕ) → alpha < p
      → (T : List ℕ) × (proved e p n (lent_constraints n selectors labels) (lent_public publics) (lent_witness n witness) b beta gamma alpha ≡ some T)
      × ((zeta : ℕ) → zeta < p → (scratch scratch' : List ℕ) → length scratch ≡ work_length e n → (r : Outcome Judged)
      → PointChecks p n l publics (prepared p n (lent_constraints n selectors labels)) T (beta ∷ gamma ∷ alpha ∷ zeta ∷ []) scratch r scratch'
      → r.value ≡ Some judged.Accept)
  honest_point witness sat beta gamma hb hg nonzero b alpha ha =
      let K = demand.completeness (lent_public publics) (lent_witness n witness) sat beta gamma nonzero b in
      let long = demand.proved_long (lent_public publics) (lent_witness n witness) b beta gamma alpha _ (K.laid alpha) in (
        _,
        K.laid alpha,
        λ zeta hz scratch scratch' room r checks.
            let drawn : Elements p 4 (beta ∷ gamma ∷ alpha ∷ zeta ∷ []) = record { long = refl; below = (hb, (hg, (ha, (hz, tt)))) } in
            rw (blinded_of e n _ he long.long) at checks.verdict
            ∙ answer_accept _ _
            (checks.answer
            ∙ point_taken A e scratch he right.circuit.publics_few right_x demand.prepared_long long drawn room)
            (K.accepted alpha zeta),
      )

  pub answers_counted : AnswersCounted e p n l selectors labels publics
  answers_counted =
      record {
        publics-bound = λ witness elements sat i h.
            demand.binding _ _ sat i h (all_get_d (λ (x : ℕ). x < p) publics right_x.below i (omega (arith, right_x.long)))
            (lent_below n elements (position n 0 i) (omega (arith, right.circuit.publics_few)));
        few_pairs = λ wire elements broken.
            at_most_of ((demand.soundness _ wire elements).pairs broken) (passing e p n l selectors labels publics wire) (omega arith);
        few_alphas = λ wire elements pair hb hg none z ez.
            (demand.soundness _ wire elements).alphas pair hb hg (λ h. none (answered e p n l selectors labels publics wire A right right_x pair h)) z ez;
        few_zetas = λ wire elements pair alpha ha z ez none t et.
            at_most_of ((demand.soundness _ wire elements).zetas pair alpha ha z ez none t et)
            (accepted_zeta e p n l selectors labels publics wire z t (same_blinding e p n l selectors labels publics wire he elements z ez t et) pair alpha)
            (omega arith);
        honest_rows = honest_rows;
        honest_point = honest_point;
      }
