-- From an answer with number 0 to what `check_rows` has checked.
--
-- checked          where no reason applies, all is checked
--
-- Assumes nothing.
use mathlib.Core.Path.{◌≡◌, refl}
use mathlib.Core.List.{List, [], ◌∷◌, ◌++◌}
use Prim.Native.Nat.{ℕ, ◌*◌}
use lib.ListN.{length}
use Rattle.field.specs.Reasons.{answer_of}
use Rattle.circuit.specs.Reasons.{rows_due, rows_reasons}
use Rattle.circuit.specs.RightlyLent.{labels_of, lent_numbers_of}
use Rattle.rowcheck.specs.Buffers.{Checked}

pub checked : (p n l : ℕ) (selectors labels witness publics z challenges : List ℕ)
    → (answer_of (rows_reasons p n l selectors labels witness publics z challenges)).number ≡ 0 → Checked p n selectors labels witness z challenges
checked p n l selectors labels witness publics z challenges e =
    let known =
    lent_numbers_of p n l (length selectors ∷ length labels ∷ length witness ∷ length publics ∷ length z ∷ length challenges ∷ []) (rows_due n l)
    (selectors ++ (witness ++ (publics ++ (z ++ challenges)))) selectors labels refl e in
    let lent = known.0 in
    let long : length labels ≡ 3 * n = cc lent.lengths in
    record {
      admissible = lent.admissible;
      selectors_length_lem = cc lent.lengths;
      labels_length_lem = long;
      labels_right = labels_of n labels (record { long = long; below = known.1.1 }) lent.admissible;
      witness_length_lem = cc lent.lengths;
      z_length_lem = cc lent.lengths;
      challenges_length = cc lent.lengths;
    }
