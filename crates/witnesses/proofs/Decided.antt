-- From an answer with number 0 to what is checked.
--
-- checked        where no reason of the buffers applies, p, n, the lengths and the labels are checked
--
-- Assumes nothing.
use mathlib.Core.Path.{◌≡◌}
use mathlib.Core.List.{List}
use Prim.Native.Nat.{ℕ, ◌*◌}
use lib.ListN.{length}
use Rattle.field.specs.Reasons.{answer_of}
use Rattle.circuit.specs.Reasons.{prove_buffer_reasons}
use Rattle.circuit.specs.RightlyLent.{labels_of}
use Rattle.witnesses.specs.Accepted.{buffers_of}
use Rattle.witnesses.specs.Buffers.{Checked}

pub checked : (e p n l : ℕ) (selectors labels witness publics transcript challenges blinders scratch : List ℕ)
    → (answer_of (prove_buffer_reasons e p n l selectors labels witness publics transcript challenges blinders scratch)).number ≡ 0
    → Checked p n selectors labels witness challenges
checked e p n l selectors labels witness publics transcript challenges blinders scratch is =
    let known = buffers_of e p n l selectors labels witness publics transcript challenges blinders scratch is in
    let lent = known.0 in
    let long : length labels ≡ 3 * n = cc lent.lengths in
    record {
      admissible = lent.admissible;
      selectors_length_lem = cc lent.lengths;
      labels_length_lem = long;
      labels_right = labels_of n labels (record { long = long; below = known.1.1 }) lent.admissible;
      witness_length_lem = cc lent.lengths;
      challenges_length = cc lent.lengths;
    }
