-- The reasons that `open` and `check_opening` share.
--
-- few         where none of them applies, the buffers are short enough to be counted
--
-- Assumes nothing.
use mathlib.Core.Path.{◌≡◌, sym, ap, ◌∙◌}
use mathlib.Core.List.{List}
use Prim.Native.Nat.{ℕ, ◌+◌, ◌≤◌}
use native.Mathlib.Omega.{arith}
use lib.ListN.{length}
use Rattle.field.specs.Primes.{rows-power}
use Rattle.field.specs.Reasons.{Answer, answer_of}
use Rattle.opening.specs.Reasons.{lent_list_reasons}
use Rattle.opening.specs.RightlyLent.{lent_list_of}

module _ (p n : ℕ) (prepared transcript list evaluations opening challenges scratch : List ℕ) {a : Answer}
    (e : a ≡ answer_of (lent_list_reasons p n prepared transcript list evaluations opening challenges scratch)) where
  pub few : a.number ≡ 0 → length prepared + length transcript + length evaluations + length opening + length challenges ≤ 65536
  few z =
      let L = lent_list_of p n prepared transcript list evaluations opening challenges scratch (sym (ap (λ (b : Answer). b.number) e) ∙ z) in
      let C = L.checked in
      omega (
        arith,
        (rows-power p n C.readable.admissible.rows).small,
        C.readable.blinded,
        C.readable.prepared_length_lem,
        C.readable.transcript_length_lem,
        C.evaluations_length,
        C.opening_length_lem,
        C.challenges_length,
        L.list_right.few,
      )
