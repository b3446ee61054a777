-- From an answer with number 0 to what `check_point` has checked.
--
-- checked   where no reason applies, its numbers and buffers are right
--
-- Assumes nothing.
use mathlib.Core.Path.{◌≡◌, refl}
use mathlib.Core.List.{List, [], ◌∷◌, ◌++◌}
use Prim.Native.Nat.{ℕ, ◌<◌}
use native.Mathlib.Omega.{arith}
use lib.ListN.{length}
use Rattle.algebra.specs.Lists.{All}
use Rattle.algebra.specs.Tables.{all_get_d, all_left, all_right}
use Rattle.field.specs.Lent.{lent_numbers, lent_of}
use Rattle.field.specs.Reasons.{answer_of, lent_reasons, bad_element}
use Rattle.field.specs.ReasonLaws.{none_applies, both_none, elements_of}
use Rattle.circuit.specs.Buffers.{blinded_by}
use Rattle.circuit.specs.Parts.{blinded_most}
use Rattle.circuit.specs.Reasons.{point_due, point_reasons}
use Rattle.pointcheck.specs.Buffers.{Checked}

pub checked : (p n l : ℕ) (publics prepared transcript challenges scratch : List ℕ)
    → (answer_of (point_reasons p n l publics prepared transcript challenges scratch)).number ≡ 0
    → Checked p n publics prepared transcript challenges scratch
checked p n l publics prepared transcript challenges scratch none =
    let P : ℕ → Type 0 = λ x. x < p in
    let due : List ℕ = point_due (blinded_by n transcript) n l in
    let long : List ℕ = length publics ∷ length prepared ∷ length transcript ∷ length challenges ∷ length scratch ∷ [] in
    let all : List ℕ = publics ++ (prepared ++ (transcript ++ challenges)) in
    let both = both_none (lent_reasons p n l long due) (bad_element p all ∷ []) (lent_numbers p n l long due) none in
    let lent = lent_of p n l long due refl both.0 in
    let below : All P all = elements_of p all (none_applies (bad_element p all ∷ []) (omega arith, tt) both.1).0 in
    let drawn : All P challenges = all_right P transcript challenges (all_right P prepared (transcript ++ challenges) (all_right P publics (prepared ++ (transcript ++ challenges)) below)) in
    let four : length challenges ≡ 4 = cc lent.lengths in
    record {
      readable = record { blinded = blinded_most n transcript; admissible = lent.admissible; prepared_length_lem = cc lent.lengths; transcript_length_lem = cc lent.lengths };
      publics_lent = record { admissible = lent.admissible; elements = all_left P publics (prepared ++ (transcript ++ challenges)) below };
      challenges_length = four;
      scratch_length_lem = cc lent.lengths;
      point_element = all_get_d P challenges drawn 3 (omega arith);
    }
