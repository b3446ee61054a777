-- From an answer with number 0 to what `permutation` has checked.
--
-- Checked n labels positions   the lengths are right, and the labels are below 3n
-- checked                      it holds where no reason applies
--
-- Assumes nothing.
use mathlib.Core.Path.{◌≡◌, refl}
use mathlib.Core.List.{List, [], ◌∷◌}
use Prim.Native.Nat.{ℕ, ◌*◌}
use native.Mathlib.Omega.{arith}
use lib.ListN.{length}
use Rattle.field.specs.Lent.{lent_numbers, lent_of}
use Rattle.field.specs.Reasons.{answer_of, lent_reasons}
use Rattle.field.specs.ReasonLaws.{none_applies, both_none, elements_of}
use Rattle.circuit.specs.Ahead.{Labels}
use Rattle.circuit.specs.Buffers.{labels_length}
use Rattle.circuit.specs.Reasons.{bad_label, permutation_due, permutation_reasons}
use Rattle.circuit.specs.RightlyLent.{labels_of}

pub record Checked (n : ℕ) (labels positions : List ℕ) : Type 0 where
  pub labels_length_lem : length labels ≡ labels_length n
  pub positions_length : length positions ≡ length labels
  pub right : Labels labels

pub checked : (p n : ℕ) (labels positions : List ℕ) → (answer_of (permutation_reasons p n labels positions)).number ≡ 0 → Checked n labels positions
checked p n labels positions e =
    let long : List ℕ = length labels ∷ length positions ∷ [] in
    let both = both_none (lent_reasons p n 0 long (permutation_due n)) (bad_label n labels ∷ []) (lent_numbers p n 0 long (permutation_due n)) e in
    let lent = lent_of p n 0 long (permutation_due n) refl both.0 in
    let labelled : length labels ≡ 3 * n = cc lent.lengths in
    record {
      labels_length_lem = labelled;
      positions_length = cc lent.lengths;
      right = labels_of n labels (record { long = labelled; below = elements_of (3 * n) labels (none_applies (bad_label n labels ∷ []) (omega arith, tt) both.1).0 }) lent.admissible;
    }
