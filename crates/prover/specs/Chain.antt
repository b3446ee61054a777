-- The last sentence of demand 3 about the calls themselves: what `prove` and `prove_blinded` lay, `check_rows` and `check_point` take.
--
-- THE STATEMENT
-- PassesChecks e  of an accepted `prove` or `prove_blinded`: a has the public inputs at the rows' points; `check_rows`, lent the values of its z, answers Pass;
--                 `prepare`, then `check_point` at any zeta, answers Accept
-- THE THEOREM
-- passes_laid     PassesChecks holds of the transcript of the definitions, where no reason of the prover applies: there is one
-- proved_passes   PassesChecks holds of every accepted `prove` and `prove_blinded`, whichever the nine numbers
--
-- The number e is 1 for `prove_blinded`, and 0 for `prove`, which is lent no blinders.
-- A call's answer is any that keeps the call's promise: Proves, Prepares, ChecksRows, PointChecks.
-- Assumes nothing.
use Rattle.std.specs.Prelude.{◌≡◌, Bool, true, cond, List, [], ◌∷◌, ℕ, zero, suc, ◌%◌, ◌≤◌, ◌<◌, length, get_or, Some}
use Rattle.std.proofs.Common.{sym, ap, ◌∙◌, subst, mod-eq_of_lt, arith, eqb-true}
use Rattle.std.proofs.Math.Option.{some, some-injective}
use Rattle.algebra.specs.Lists.{tab}
use Rattle.algebra.specs.Polynomial.{coef, Elements}
use Rattle.algebra.specs.Tables.{tab_ext, tab-get_or, all_get_d}
use Rattle.field.specs.Fields.{Admissible}
use Rattle.field.specs.Domain.{Domain}
use Rattle.field.proofs.Domain.{domain}
use Rattle.field.specs.Reasons.{Outcome, Answer, is_accepted}
use Rattle.transform.specs.Transform.{value_at, evaluation, interpolation, scratch_length}
use Rattle.circuit.specs.Circuit.{Constraints, position, lent_constraints, lent_public, lent_witness}
use Rattle.circuit.specs.Buffers.{prepared_length, wire_length, work_length, wire_part, z_part}
use Rattle.circuit.specs.RightlyLent.{prepare_taken}
use Rattle.circuit.specs.Witness.{lent_below}
use Rattle.protocol.specs.Protocol.{z_through, wire_blinder, z_blinder, blinded, wires_of, t_of, prepared}
use Rattle.protocol.specs.Protocol as protocol
use Rattle.protocol.specs.Blinding.{wires_elements, z_elements, interpolated_at}
use Rattle.protocol.specs.Layout.{wire_part_lem, z_part_lem}
use Rattle.protocol.specs.GrandProduct.{GrandProduct, grand_product, proved-laid}
use Rattle.preparing.specs.Promises.{Prepares}
use Rattle.rowcheck.specs.declared.Verdict.{Verdict}
use Rattle.rowcheck.specs.declared.Verdict.TheVariants.{Pass}
use Rattle.rowcheck.specs.Promises.{ChecksRows}
use Rattle.pointcheck.specs.declared.Judged.{Judged}
use Rattle.pointcheck.specs.declared.Judged.TheVariants.{Accept}
use Rattle.pointcheck.specs.Promises.{PointChecks}
use Rattle.verifier.specs.Answers.{AnswersCounted, answers_counted}
use Rattle.witnesses.specs.Accepted.{Accepted, accepted_of}
use Rattle.prover.specs.Promises.{proved_from, Proves}

-- THE STATEMENT

-- the buffers that the call was lent, and the transcript that it left
pub record PassesChecks (e p n l : ℕ) (selectors labels witness publics challenges transcript' : List ℕ) : Type 0 where
  -- the values of the transcript's a at the points of the rows below l
  pub publics-bound : (i : ℕ) → i < l → value_at p n (wire_part e n 0 transcript') i ≡ lent_public publics i
  -- lent the values of the transcript's z
  pub rows_pass : (r : Outcome Verdict)
      → ChecksRows p n l selectors labels witness publics (evaluation p n (z_part e n transcript')) (get_or challenges 0 0 ∷ get_or challenges 1 0 ∷ []) r
      → r.value ≡ Some Pass
  -- whatever the written buffer and the scratches held before
  pub point-accepted : (written scratch : List ℕ) → length written ≡ prepared_length n → length scratch ≡ scratch_length n
      → (r : Answer) (written' scratch' : List ℕ) → Prepares p n l selectors labels written scratch r written' scratch'
      → (zeta : ℕ) → zeta < p → (spare spare' : List ℕ) → length spare ≡ work_length e n → (s : Outcome Judged)
      → PointChecks p n l publics written' transcript' (get_or challenges 0 0 ∷ get_or challenges 1 0 ∷ get_or challenges 2 0 ∷ zeta ∷ []) spare s spare'
      → s.value ≡ Some Accept

-- THE PROOF

accepted_number : (a : Answer) → is_accepted a ≡ true → a.number ≡ 0
accepted_number a is = eqb-true a.number 0 is

-- a blinded polynomial through given numbers has them at the rows' points
row_value : (p n : ℕ) → Admissible p n → (r : List ℕ) (u : ℕ → ℕ) (i : ℕ) → i < n → value_at p n (blinded p n r (interpolation p n u)) i ≡ u i % p
row_value zero n A r u i h = absurd (omega (arith, (domain zero n A).prime.two))
row_value (suc q) n A r u i h = (interpolated_at q n r u (domain (suc q) n A) i h).same

row_values : (p n : ℕ) → Admissible p n → (r rows : List ℕ) → Elements p n rows → evaluation p n (blinded p n r (interpolation p n (coef rows))) ≡ rows
unfolding evaluation
row_values p n A r rows E =
    tab_ext _ (coef rows) n
    (λ i h. row_value p n A r (coef rows) i h ∙ mod-eq_of_lt (all_get_d (λ (a : ℕ). a < p) rows E.below i (omega (arith, E.long))))
    ∙ ap (tab (coef rows)) (sym E.long) ∙ tab-get_or rows

module _ (e p n l : ℕ) (selectors labels witness publics transcript challenges blinders scratch : List ℕ) (small : e ≤ 1)
    (A : Accepted e p n l selectors labels witness publics transcript challenges blinders scratch) where
  abbrev C : Constraints
  C = lent_constraints n selectors labels

  abbrev beta : ℕ
  beta = get_or challenges 0 0

  abbrev gamma : ℕ
  gamma = get_or challenges 1 0

  abbrev alpha : ℕ
  alpha = get_or challenges 2 0

  abbrev v : ℕ → ℕ
  v = lent_witness n witness

  abbrev wire : ℕ → List ℕ
  wire = wires_of e p n (lent_witness n witness) blinders

  D : Domain p n
  D = domain p n A.honest.admissible

  -- z on the rows, its polynomial, t and the transcript
  grand : (z : List ℕ) × GrandProduct p n (lent_constraints n selectors labels) (lent_witness n witness) (get_or challenges 0 0) (get_or challenges 1 0) z
  grand = grand_product D C v beta gamma A.no_zero

  abbrev z : List ℕ
  z = z_through e p n blinders grand.0

  abbrev t : List ℕ
  t = t_of e p n C (lent_public publics) v blinders z beta gamma alpha

  abbrev laid : List ℕ
  laid = protocol.transcript wire z t

  is_laid : proved_from e p n selectors labels witness publics challenges blinders ≡ some laid
  is_laid = proved-laid e p n C v blinders beta gamma grand.0 grand.1.is (lent_public publics) alpha

  counted : AnswersCounted e p n l selectors labels publics
  counted = answers_counted e p n small A.honest.admissible l selectors labels publics A.honest.circuit-right A.honest.publics-right

  below : (k : ℕ) → k < 3 → get_or challenges k 0 < p
  below k h = all_get_d (λ (c : ℕ). c < p) challenges A.challenges_right.below k (omega (arith, A.challenges_right.long))

  wires_long : (c : ℕ) → c < 3 → length (wires_of e p n (lent_witness n witness) blinders c) ≡ wire_length e n
  wires_long c h = (wires_elements D e blinders v c).long

  z_lent : evaluation p n (z_part e n laid) ≡ grand.0
  z_lent =
      ap (evaluation p n) (z_part_lem e n wire z t wires_long (z_elements D e blinders (coef grand.0)).long)
      ∙ row_values p n A.honest.admissible (z_blinder e blinders) grand.0 grand.1.elements

  a_bound : (i : ℕ) → i < l → value_at p n (wire_part e n 0 laid) i ≡ lent_public publics i
  a_bound i h =
      let few = A.honest.circuit-right.circuit.publics_few in
      ap (λ (f : List ℕ). value_at p n f i) (wire_part_lem e n wire z t wires_long 0 (omega arith))
      ∙ row_value p n A.honest.admissible (wire_blinder e blinders 0) (λ i. v (position n 0 i)) i (omega arith)
      ∙ mod-eq_of_lt (lent_below n A.honest.witness-right (position n 0 i) (omega arith))
      ∙ counted.publics-bound witness A.honest.witness-right A.honest.satisfies i h

  -- the z and the transcript for which the counts speak are these
  rows_pass : (r : Outcome Verdict) → ChecksRows p n l selectors labels witness publics grand.0 (beta ∷ gamma ∷ []) r → r.value ≡ Some Pass
  rows_pass r checks =
      let H = counted.honest_rows witness A.honest.witness-right A.honest.satisfies beta gamma (below 0 (omega arith)) (below 1 (omega arith)) A.no_zero in
      H.2 r
      (subst (λ (u : List ℕ). ChecksRows p n l selectors labels witness publics u (beta ∷ gamma ∷ []) r)
      (some-injective grand.0 H.0 (sym grand.1.is ∙ H.1))
      checks)

  point-accepted : (zeta : ℕ) → zeta < p → (spare spare' : List ℕ) → length spare ≡ work_length e n → (s : Outcome Judged)
      → PointChecks p n l publics (prepared p n C) laid (beta ∷ gamma ∷ alpha ∷ zeta ∷ []) spare s spare'
      → s.value ≡ Some Accept
  point-accepted zeta hz spare spare' lp s checks =
      let H = counted.honest_point witness A.honest.satisfies beta gamma (below 0 (omega arith)) (below 1 (omega arith)) A.no_zero blinders alpha (below 2 (omega arith)) in
      H.2 zeta hz spare spare' lp s
      (subst (λ (T : List ℕ). PointChecks p n l publics (prepared p n C) T (beta ∷ gamma ∷ alpha ∷ zeta ∷ []) spare s spare')
      (some-injective laid H.0 (sym is_laid ∙ H.1))
      checks)

  of_laid : PassesChecks e p n l selectors labels witness publics challenges laid
  of_laid =
      record {
        publics-bound = a_bound;
        rows_pass = λ r checks.
            rows_pass r (subst (λ (u : List ℕ). ChecksRows p n l selectors labels witness publics u (beta ∷ gamma ∷ []) r) z_lent checks);
        point-accepted = λ written scratch lw ls r written' scratch' prepares zeta hz spare spare' lp s checks.
            let taken : is_accepted r ≡ true =
            ap is_accepted (prepares.answer ∙ prepare_taken A.honest.admissible written scratch A.honest.circuit-right lw ls) in
            let is : written' ≡ prepared p n C =
            prepares.prepares ∙ ap (λ (b : Bool). cond b (prepared p n C) written) taken in
            point-accepted zeta hz spare spare' lp s
            (subst (λ (w : List ℕ). PointChecks p n l publics w laid (beta ∷ gamma ∷ alpha ∷ zeta ∷ []) spare s spare') is checks);
      }

  pub passes_laid : (T : List ℕ) → proved_from e p n selectors labels witness publics challenges blinders ≡ some T
      → PassesChecks e p n l selectors labels witness publics challenges T
  passes_laid T is =
      subst (PassesChecks e p n l selectors labels witness publics challenges) (some-injective laid T (sym is_laid ∙ is)) of_laid

-- THE THEOREM

-- where e is 0 there are no blinders
pub proved_passes : (e p n l : ℕ) (selectors labels witness publics transcript challenges blinders scratch : List ℕ) → e ≤ 1 → (e ≡ 0 → blinders ≡ [])
    → (r : Answer) (transcript' scratch' : List ℕ)
    → Proves e p n l selectors labels witness publics transcript challenges blinders scratch r transcript' scratch' → is_accepted r ≡ true
    → PassesChecks e p n l selectors labels witness publics challenges transcript'
proved_passes e p n l selectors labels witness publics transcript challenges blinders scratch small none r transcript' scratch' P is =
    passes_laid e p n l selectors labels witness publics transcript challenges blinders scratch small
    (accepted_of e p n l selectors labels witness publics transcript challenges blinders scratch small none
    (ap (λ (a : Answer). a.number) (sym P.answer) ∙ accepted_number r is))
    transcript'
    (sym (P.lays ∙ ap (λ (b : Bool). cond b (proved_from e p n selectors labels witness publics challenges blinders) (some transcript)) is))
