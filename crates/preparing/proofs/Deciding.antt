-- From an answer with number 0 to what the call has checked.
--
-- checked   where no reason of preparing applies, its numbers and buffers are right
--
-- Assumes nothing.
use mathlib.Core.Path.{◌≡◌, refl}
use mathlib.Core.List.{List, [], ◌∷◌}
use Prim.Native.Nat.{ℕ}
use lib.ListN.{length}
use Rattle.field.specs.Reasons.{answer_of}
use Rattle.circuit.specs.Reasons.{prepare_due, prepare_reasons}
use Rattle.circuit.specs.RightlyLent.{lent_numbers_of}
use Rattle.preparing.specs.Promises.{Checked}

pub checked : (p n l : ℕ) (selectors labels written scratch : List ℕ) → (answer_of (prepare_reasons p n l selectors labels written scratch)).number ≡ 0
    → Checked p n selectors labels written scratch
checked p n l selectors labels written scratch e =
    let all = lent_numbers_of p n l (length selectors ∷ length labels ∷ length written ∷ length scratch ∷ []) (prepare_due n) selectors selectors labels refl e in
    let lent = all.0 in
    record {
      admissible = lent.admissible;
      elements = record { long = cc lent.lengths; below = all.1.0 };
      labelled = record { long = cc lent.lengths; below = all.1.1 };
      written_length = cc lent.lengths;
      scratch_length_lem = cc lent.lengths;
    }
