-- What is known where no reason of a transfer applies, and the promise where one does and where none does.
--
-- Known n from to     n is at most 1,024, and both buffers have 3n numbers
-- known               an answer with number 0 means that it holds
--
-- Assumes nothing.
use mathlib.Core.Path.{◌≡◌, refl, sym, ap, ◌∙◌}
use mathlib.Core.List.{List, [], ◌∷◌}
use Prim.Native.Nat.{ℕ, ◌≤◌}
use native.Mathlib.Omega.{arith}
use lib.ListN.{length}
use borrow.Author.Tests.{not-false}
use Rattle.field.specs.Lent.{lengths_same}
use Rattle.field.specs.Reasons.{Answer, answer_of}
use Rattle.field.specs.ReasonLaws.{none_applies}
use Rattle.circuit.specs.AnyRows.{any_rows_lem}
use Rattle.circuit.specs.Buffers.{witness_length}
use Rattle.transfer.specs.Transfer.{transfer_due, transfer_reasons}

pub record Known (n : ℕ) (from to : List ℕ) : Type 0 where
  pub few : n ≤ 1024
  pub from_long : length from ≡ witness_length n
  pub to_long : length to ≡ witness_length n

module _ (n : ℕ) (from to : List ℕ) (a : Answer) (e : a ≡ answer_of (transfer_reasons n from to)) where
  pub known : a.number ≡ 0 → Known n from to
  known z =
      let none = none_applies (transfer_reasons n from to) (omega arith, (omega arith, tt)) (sym (ap (λ (b : Answer). b.number) e) ∙ z) in
      let same = lengths_same (length from ∷ length to ∷ []) (transfer_due n) refl none.1.0 in
      record { few = (any_rows_lem n (not-false _ none.0)).most; from_long = cc same; to_long = cc same }
