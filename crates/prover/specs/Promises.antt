-- What `prove` and `prove_blinded` promise: the number e is 1 for the latter, and 0 for `prove`, which is lent no blinders.
--
-- proved_from_with L e    the transcript that the prover lays for lent buffers, where there is a z; the challenges are beta, gamma, alpha in that order, and the
--                         witness is lent by the layout L
-- ProvesWith L e          refused: transcript and scratch as they came; accepted: there is a transcript, and it is laid, with zeros in the scratch
-- proved_from, Proves     the same by the layout of today
--
-- Assumes nothing.
use Rattle.std.specs.Prelude.{◌≡◌, cond, List, ℕ, get_or, replicate}
use Rattle.std.proofs.Math.Option.{Option, some}
use Rattle.field.specs.Reasons.{Answer, answer_of, is_accepted}
use Rattle.circuit.specs.Circuit.{Layout, lent_constraints, lent_public, lent_by, by_rows}
use Rattle.circuit.specs.Buffers.{work_length}
use Rattle.protocol.specs.Protocol.{proved, prove_reasons_with}

abbrev pub proved_from_with : (L : Layout) (e p n : ℕ) (selectors labels witness publics challenges blinders : List ℕ) → Option (List ℕ)
proved_from_with L e p n selectors labels witness publics challenges blinders =
    proved e p n (lent_constraints n selectors labels) (lent_public publics) (lent_by L n witness) blinders (get_or challenges 0 0) (get_or challenges 1 0) (get_or challenges 2 0)

-- selectors, labels, witness, public inputs, challenges and blinders are only read
pub record ProvesWith (L : Layout) (e p n l : ℕ) (selectors labels witness publics transcript challenges blinders scratch : List ℕ) (r : Answer)
    (transcript' scratch' : List ℕ) : Type 0 where
  pub answer : r ≡ answer_of (prove_reasons_with L e p n l selectors labels witness publics transcript challenges blinders scratch)
  pub lays : some transcript' ≡ cond (is_accepted r) (proved_from_with L e p n selectors labels witness publics challenges blinders) (some transcript)
  pub cleared : scratch' ≡ cond (is_accepted r) (replicate (work_length e n) 0) scratch

abbrev pub proved_from : (e p n : ℕ) (selectors labels witness publics challenges blinders : List ℕ) → Option (List ℕ)
proved_from = proved_from_with by_rows

abbrev pub Proves : (e p n l : ℕ) (selectors labels witness publics transcript challenges blinders scratch : List ℕ) (r : Answer) (transcript' scratch' : List ℕ)
    → Type 0
Proves = ProvesWith by_rows
