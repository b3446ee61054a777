-- The permutation in one pass: what the slots of the labels hold while the positions are passed downward.
--
-- or_lowest m low k         k if it is below m, else low
-- next_from m label l k     the first position from k on with the label l, of m; where there is none from k on, the lowest with that label
-- Ahead labels k slots      the slot of each label that occurs holds the position that next_from gives for k
-- Labels labels             the labels of at most 3,072 positions, each below their number
--
-- Assumes nothing.
use Rattle.std.specs.Prelude.{◌≡◌, true, false, List, ℕ, ◌-◌, ◌≤◌, ◌<◌, eqb, ltb, length, get_or}
use Rattle.algebra.specs.Modular.{first}
use Rattle.algebra.specs.Lists.{All}

abbrev pub or_lowest : ℕ → ℕ → ℕ → ℕ
or_lowest m lowest higher = elim (ltb higher m) [ true ↦ higher | false ↦ lowest ]

unfoldable pub next_from : ℕ → (ℕ → ℕ) → ℕ → ℕ → ℕ
next_from m label l k = or_lowest m (first (λ j. eqb (label j) l) 0 m) (first (λ j. eqb (label j) l) k (m - k))

pub record Ahead (labels : List ℕ) (k : ℕ) (slots : List ℕ) : Type 0 where
  pub next : (j : ℕ) → j < length labels → get_or slots (get_or labels j 0) 0 ≡ next_from (length labels) (λ i. get_or labels i 0) (get_or labels j 0) k

pub record Labels (labels : List ℕ) : Type 0 where
  pub few : length labels ≤ 3072
  pub below : All (λ l. l < length labels) labels
