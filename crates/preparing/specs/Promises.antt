-- What `prepare` promises, and what its inner functions ask.
--
-- Prepares    refused: prepared circuit and scratch as they came; accepted: the prepared circuit of the definitions, and zeros in the scratch
-- Checked     what the call has checked: p and n are admissible, the selectors are elements, the labels below 3n, and the lengths are right
-- rows_of     the row values that preparing interpolates, end to end: the selectors, then the tags of where the permutation leads
--
-- Assumes nothing.
use Rattle.std.specs.Prelude.{◌≡◌, cond, List, ◌++◌, ℕ, ◌*◌, length, get_or, replicate}
use Rattle.algebra.specs.Lists.{tab}
use Rattle.algebra.specs.Polynomial.{Elements}
use Rattle.field.specs.Fields.{Admissible, tag}
use Rattle.field.specs.Reasons.{Answer, answer_of, is_accepted}
use Rattle.transform.specs.Transform.{scratch_length}
use Rattle.circuit.specs.Circuit.{lent_constraints, permutation}
use Rattle.circuit.specs.Buffers.{selectors_length, labels_length, prepared_length}
use Rattle.circuit.specs.Reasons.{prepare_reasons}
use Rattle.protocol.specs.Protocol.{prepared}

-- selectors and labels are only read
pub record Prepares (p n l : ℕ) (selectors labels written scratch : List ℕ) (r : Answer) (written' scratch' : List ℕ) : Type 0 where
  pub answer : r ≡ answer_of (prepare_reasons p n l selectors labels written scratch)
  pub prepares : written' ≡ cond (is_accepted r) (prepared p n (lent_constraints n selectors labels)) written
  pub cleared : scratch' ≡ cond (is_accepted r) (replicate (scratch_length n) 0) scratch

pub record Checked (p n : ℕ) (selectors labels written scratch : List ℕ) : Type 0 where
  pub admissible : Admissible p n
  pub elements : Elements p (selectors_length n) selectors
  pub labelled : Elements (3 * n) (labels_length n) labels
  pub written_length : length written ≡ prepared_length n
  pub scratch_length_lem : length scratch ≡ scratch_length n

abbrev pub rows_of : ℕ → ℕ → List ℕ → List ℕ → List ℕ
rows_of p n selectors labels = selectors ++ tab (λ k. tag p n (permutation (3 * n) (λ j. get_or labels j 0) k)) (3 * n)
