-- The two passes over the positions, downward: what a turn makes of the slots and of the result. A turn leads from k to i = k - 1.
--
-- next_here, next_skip, next_last    the next position from i on, where i has the label, where it has not, and from past the end
-- next_permutation                   the permutation is the next position past k with the label of k
-- has_slot                           every label has a slot
-- slot_same, slot_other              a slot after a store, for a position with the label of i, and with another
-- Lowest, lowest_none, lowest_more, lowest_all   the first pass: a label's slot holds its lowest position from k on
-- ahead_more                         the second pass: a turn keeps the slots ahead
--
-- Assumes nothing.
use mathlib.Core.Path.{◌≡◌, sym, ap, ◌∙◌}
use mathlib.Core.Bool.{Bool}
use mathlib.Core.List.{List}
use Prim.Native.Nat.{ℕ, suc, ◌+◌, ◌-◌, ◌≤◌, ◌<◌}
use native.Mathlib.Nat.{sub-zero}
use native.Mathlib.Decide.{ℕ_discrete}
use native.Mathlib.Numerals.{add-one}
use native.Mathlib.Omega.{arith}
use lib.Dec.{eqb}
use lib.ListN.{length, get_or, set}
use lib.Seq.{get_or-set_same, get_or-set_other}
use borrow.Author.Tests.{lt-ltb, le-ltb, eq-eqb, ne_eqb}
use Rattle.algebra.specs.Modular.{first}
use Rattle.algebra.specs.Search.{first_stop, first_skip, first_end}
use Rattle.algebra.specs.Tables.{all_get_d}
use Rattle.circuit.specs.Circuit.{permutation}
use Rattle.circuit.specs.Ahead.{or_lowest, next_from, Ahead, Labels}

-- THE NEXT POSITION

module _ (m : ℕ) (label : ℕ → ℕ) (l : ℕ) where
  pub next_here : (i : ℕ) → i < m → label i ≡ l → next_from m label l i ≡ i
  unfolding next_from
  next_here i h e = ap (or_lowest m (first (λ j. eqb (label j) l) 0 m)) (first_stop (λ j. eqb (label j) l) m i h (eq-eqb (label i) l e)) ∙ rw (lt-ltb i m h, or_lowest)

  pub next_skip : (i k : ℕ) → i + 1 ≡ k → i < m → (label i ≡ l → ⊥) → next_from m label l i ≡ next_from m label l k
  unfolding next_from
  next_skip i k s h e = ap (or_lowest m (first (λ j. eqb (label j) l) 0 m)) (first_skip (λ j. eqb (label j) l) m i h (ne_eqb (label i) l e) ∙ rw s)

  pub next_last : next_from m label l m ≡ first (λ j. eqb (label j) l) 0 m
  unfolding next_from
  next_last = ap (or_lowest m (first (λ j. eqb (label j) l) 0 m)) (first_end (λ j. eqb (label j) l) m m (omega arith)) ∙ rw (le-ltb m m (omega arith), or_lowest)

pub next_permutation : (m : ℕ) (label : ℕ → ℕ) (i k : ℕ) → i + 1 ≡ k → next_from m label (label i) k ≡ permutation m label i
unfolding next_from permutation
next_permutation m label i k s = let e : k ≡ suc i = sym s ∙ add-one i in rw e

-- THE SLOTS

pub has_slot : {labels : List ℕ} → Labels labels → (slots : List ℕ) (i : ℕ) → length labels ≤ length slots → i < length labels → get_or labels i 0 < length slots
has_slot {labels} L slots i r h = omega (arith, all_get_d (λ l. l < length labels) labels L.below i h)

module _ (labels slots : List ℕ) (i : ℕ) (fits : get_or labels i 0 < length slots) where
  pub slot_same : (j v : ℕ) → get_or labels i 0 ≡ get_or labels j 0 → get_or (set slots (get_or labels i 0) v) (get_or labels j 0) 0 ≡ v
  slot_same j v e = rw (← e) (get_or-set_same slots (get_or labels i 0) v 0 fits)

  pub slot_other : (j v : ℕ) → (get_or labels i 0 ≡ get_or labels j 0 → ⊥) → get_or (set slots (get_or labels i 0) v) (get_or labels j 0) 0 ≡ get_or slots (get_or labels j 0) 0
  slot_other j v e = get_or-set_other slots (get_or labels i 0) (get_or labels j 0) v 0 (λ u. e (sym u))

-- the label of a position, and the test by which it is looked for
abbrev label : List ℕ → ℕ → ℕ
label labels j = get_or labels j 0

abbrev same : List ℕ → ℕ → ℕ → Bool
same labels j i = eqb (get_or labels i 0) (get_or labels j 0)

pub record Lowest (labels : List ℕ) (k : ℕ) (slots : List ℕ) : Type 0 where
  pub low : (j : ℕ) → k ≤ j → j < length labels → get_or slots (get_or labels j 0) 0 ≡ first (same labels j) k (length labels - k)

pub lowest_none : (labels slots : List ℕ) → Lowest labels (length labels) slots
lowest_none labels slots = record { low = λ j l h. absurd (omega arith) }

pub lowest_more : (labels slots : List ℕ) (i k : ℕ) → i + 1 ≡ k → i < length labels → get_or labels i 0 < length slots → Lowest labels k slots
    → Lowest labels i (set slots (get_or labels i 0) i)
lowest_more labels slots i k s h fits L = record { low = λ j l u. go j l u (ℕ_discrete (get_or labels i 0) (get_or labels j 0)) }
  where
    go : (j : ℕ) → i ≤ j → j < length labels → Dec (get_or labels i 0 ≡ get_or labels j 0)
        → get_or (set slots (get_or labels i 0) i) (get_or labels j 0) 0 ≡ first (same labels j) i (length labels - i)
    go j l u (yes e) = slot_same labels slots i fits j i e ∙ sym (first_stop (same labels j) (length labels) i h (eq-eqb _ _ e))
    go j l u (no e) =
        slot_other labels slots i fits j i e ∙ L.low j (above (ℕ_discrete i j)) u
        ∙ sym (first_skip (same labels j) (length labels) i h (ne_eqb _ _ e) ∙ rw s)
      where
        above : Dec (i ≡ j) → k ≤ j
        above (yes w) = absurd (e (ap (λ (x : ℕ). get_or labels x 0) w))
        above (no w) = omega arith

pub lowest_all : (labels slots : List ℕ) → Lowest labels 0 slots → Ahead labels (length labels) slots
lowest_all labels slots L =
    record { next = λ j h. L.low j (omega arith) h ∙ rw sub-zero (sym (next_last (length labels) (λ i. get_or labels i 0) (get_or labels j 0))) }

pub ahead_more : (labels slots : List ℕ) (i k : ℕ) → i + 1 ≡ k → i < length labels → get_or labels i 0 < length slots → Ahead labels k slots
    → Ahead labels i (set slots (get_or labels i 0) i)
ahead_more labels slots i k s h fits A = record { next = λ j u. go j u (ℕ_discrete (get_or labels i 0) (get_or labels j 0)) }
  where
    go : (j : ℕ) → j < length labels → Dec (get_or labels i 0 ≡ get_or labels j 0)
        → get_or (set slots (get_or labels i 0) i) (get_or labels j 0) 0 ≡ next_from (length labels) (label labels) (get_or labels j 0) i
    go j u (yes e) = slot_same labels slots i fits j i e ∙ sym (next_here (length labels) (label labels) (get_or labels j 0) i h e)
    go j u (no e) = slot_other labels slots i fits j i e ∙ A.next j u ∙ sym (next_skip (length labels) (label labels) (get_or labels j 0) i k s h e)
