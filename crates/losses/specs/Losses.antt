-- How many gammas a beta loses, as a call (document 02, request 6): its reasons and its promise. The count itself, `lost_gammas`, stands with the protocol.
--
-- lost_due n              the lengths due: the witness, and one challenge, beta
-- lost_reasons            all reasons of `lost_gammas`, in document 01's order: 2, 3, 6, 7
-- LosesGammasWith L       what `lost_gammas` promises of its answer, where the witness is lent by the layout L
-- LosesGammas             the same by that of today
--
-- Assumes nothing.
use Rattle.std.specs.Prelude.{◌≡◌, cond, List, [], ◌∷◌, ◌++◌, ℕ, length, get_or, Some, None}
use Rattle.field.specs.Reasons.{Outcome, Reason, answer_of, is_accepted, lent_reasons, bad_element}
use Rattle.circuit.specs.Circuit.{Layout, lent_by, by_rows}
use Rattle.circuit.specs.Buffers.{witness_length}
use Rattle.protocol.specs.Protocol.{lost_gammas}

abbrev pub lost_due : ℕ → List ℕ
lost_due n = witness_length n ∷ 1 ∷ []

abbrev pub lost_reasons : (p n : ℕ) (witness challenges : List ℕ) → List Reason
lost_reasons p n witness challenges =
    lent_reasons p n 0 (length witness ∷ length challenges ∷ []) (lost_due n) ++ (bad_element p (witness ++ challenges) ∷ [])

-- refused: no count; accepted: it is that of the lent beta. All buffers are only read.
pub record LosesGammasWith (L : Layout) (p n : ℕ) (witness challenges : List ℕ) (r : Outcome ℕ) : Type 0 where
  pub answer : r.answer ≡ answer_of (lost_reasons p n witness challenges)
  pub count : r.value ≡ cond (is_accepted r.answer) (Some (lost_gammas p n (lent_by L n witness) (get_or challenges 0 0))) None

abbrev pub LosesGammas : (p n : ℕ) (witness challenges : List ℕ) (r : Outcome ℕ) → Type 0
LosesGammas = LosesGammasWith by_rows
