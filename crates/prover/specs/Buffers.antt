-- What the inner functions ask of their buffers, and F as they speak of it.
--
-- lent_f e      F of a lent circuit that is prepared, public inputs, and a, b, c, z as they are laid
-- Ready e       e is 0 or 1; selectors, labels, public inputs, challenges and scratch are lent rightly
-- Front e       the same of labels, witness, transcript and blinders; and no factor of any D(i) is zero
-- Checked e     what a public call has checked: p and n are admissible, and both of these
-- checked_of    it has, where no reason applies
-- laid-F        F of a, b, c, z laid end to end is F of these polynomials
--
-- The number e is 1 for `prove_blinded`, and 0 for `prove`, which is lent no blinders.
-- Assumes nothing.
use Rattle.std.specs.Prelude.{◌≡◌, List, [], ◌++◌, ℕ, ◌*◌, ◌≤◌, ◌<◌, length, get_or}
use Rattle.std.proofs.Common.{sym, ap, ◌∙◌, append-nil, arith}
use Rattle.algebra.specs.Lists.{All}
use Rattle.algebra.specs.Polynomial.{Elements}
use Rattle.field.specs.Fields.{Admissible}
use Rattle.field.specs.Domain.{Domain}
use Rattle.circuit.specs.Circuit.{Constraints, lent_constraints, lent_public}
use Rattle.circuit.specs.Buffers.{selectors_length, labels_length, witness_length, z_length, transcript_length, work_length}
use Rattle.circuit.specs.RightlyLent.{selectors-right, labels_right}
use Rattle.protocol.specs.Protocol.{prepared, point_f, f_of, wires_of}
use Rattle.protocol.specs.Blinding.{wires_elements}
use Rattle.protocol.specs.Layout.{lent_F}
use Rattle.protocol.specs.Conditions.{zero-factor-labels}
use Rattle.laying.specs.Buffers.{Blinders, NoZero}
use Rattle.witnesses.specs.Accepted.{Accepted}

abbrev pub lent_f : (e p n : ℕ) (selectors labels publics laid challenges : List ℕ) → List ℕ
lent_f e p n selectors labels publics laid challenges =
    point_f e p n (prepared p n (lent_constraints n selectors labels)) (lent_public publics) laid (get_or challenges 0 0) (get_or challenges 1 0) (get_or challenges 2 0)

pub record Ready (e p n : ℕ) (selectors labels publics challenges scratch : List ℕ) : Type 0 where
  pub small : e ≤ 1
  pub elements : Elements p (selectors_length n) selectors
  pub labelled : Elements (3 * n) (labels_length n) labels
  pub publics_below : All (λ (x : ℕ). x < p) publics
  pub challenges_long : length challenges ≡ 3
  pub scratch_long : length scratch ≡ work_length e n

pub record Front (e p n : ℕ) (labels witness transcript challenges blinders scratch : List ℕ) : Type 0 where
  pub blinding : Blinders e blinders
  pub labelled : Elements (3 * n) (labels_length n) labels
  pub elements : Elements p (witness_length n) witness
  pub transcript_long : length transcript ≡ transcript_length e n
  pub challenges_long : length challenges ≡ 3
  pub scratch_long : length scratch ≡ work_length e n
  pub no_zero : NoZero p n labels witness (get_or challenges 0 0) (get_or challenges 1 0)

pub record Checked (e p n : ℕ) (selectors labels witness publics transcript challenges blinders scratch : List ℕ) : Type 0 where
  pub admissible : Admissible p n
  pub ready : Ready e p n selectors labels publics challenges scratch
  pub front : Front e p n labels witness transcript challenges blinders scratch

pub checked_of : {e p n l : ℕ} {selectors labels witness publics transcript challenges blinders scratch : List ℕ} → e ≤ 1
    → Accepted e p n l selectors labels witness publics transcript challenges blinders scratch
    → Checked e p n selectors labels witness publics transcript challenges blinders scratch
checked_of {e} {p} {n} {l} {selectors} {labels} small A =
    record {
      admissible = A.honest.admissible;
      ready = record {
        small = small;
        elements = selectors-right A.honest.circuit-right;
        labelled = labels_right A.honest.circuit-right;
        publics_below = A.honest.publics-right.below;
        challenges_long = A.challenges_right.long;
        scratch_long = A.honest.scratch_long;
      };
      front = record {
        blinding = record { small = small; long = omega (arith, A.honest.blinders-right.long) };
        labelled = labels_right A.honest.circuit-right;
        elements = A.honest.witness-right;
        transcript_long = A.honest.transcript_long;
        challenges_long = A.challenges_right.long;
        scratch_long = A.honest.scratch_long;
        no_zero = λ other. zero-factor-labels p n other selectors labels _ _ _ ∙ A.no_zero;
      };
    }

pub laid-F : {p n : ℕ} → Domain p n → (e : ℕ) (C : Constraints) (x v : ℕ → ℕ) (b z : List ℕ) → length z ≡ z_length e n → (beta gamma alpha : ℕ)
    → point_f e p n (prepared p n C) x (wires_of e p n v b 0 ++ (wires_of e p n v b 1 ++ (wires_of e p n v b 2 ++ z))) beta gamma alpha
    ≡ f_of p n C x (wires_of e p n v b) z beta gamma alpha
laid-F {p} {n} D e C x v b z lz beta gamma alpha =
    let wire : ℕ → List ℕ = wires_of e p n v b in
    ap (λ (l : List ℕ). point_f e p n (prepared p n C) x (wire 0 ++ (wire 1 ++ (wire 2 ++ l))) beta gamma alpha) (sym (append-nil z))
    ∙ lent_F D e C x wire z [] (λ c h. (wires_elements D e b v c).long) lz beta gamma alpha
