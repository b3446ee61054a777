-- The row at which the search stops is the first that is no public row.
use Rattle.std.proofs.Common.{arith, ◌≡◌, ◌<◌, ◌≤◌, ◌+◌, ◌*◌, ℕ, List, true, false, ap}
use Rattle.std.specs.Prelude.{not}
use Rattle.algebra.specs.Search.{first_is, first_same}
use Rattle.circuit.specs.Selectors.{is_public_at, unbound_in}
use Rattle.circuit.proofs.selectors.unbound_row.Goals as goal

found : (words : List ℕ) (start step apart l i : ℕ) → i ≤ l → ((k : ℕ) → k < i → is_public_at words apart (start + k * step) ≡ true)
    → (i < l → is_public_at words apart (start + i * step) ≡ false) → i ≡ unbound_in words start step apart l
unfolding unbound_in
found words start step apart l i h before at =
    first_same (record { low = omega arith; high = omega arith; none = λ k _ b. ap not (before k b); hit = λ b. ap not (at (omega arith)) }) (first_is _ 0 l)

pub returns-then-not-is_public_at : goal.returns-then-not-is_public_at
returns-then-not-is_public_at c = found _ _ _ _ _ _ (omega arith) c.loop-i.invariant (λ _. (cc))

pub returns : goal.returns
returns c = found _ _ _ _ _ _ (omega arith) (λ k h. c.loop-i.invariant k (omega arith)) (λ h. absurd (omega arith))
