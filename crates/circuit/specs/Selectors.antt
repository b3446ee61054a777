-- Rows of selectors in a list of words: those of row i stand from word start + i × step on, `apart` from one another. Lent selectors, column after
-- column, are such rows (0, 1, n), and so are the lines of a table.
--
-- is_public_at words apart at            the words from `at` on, so far apart, are the selectors of a public row
-- unbound_in words start step apart l    the lowest row below l that is no public row; l where each is one
-- Spaced words start step apart l        the words have room for the selectors of l rows
-- unbound_same       where the rows are those of constraints, it is the row that 14 names
-- unbound_lent       so it is for lent selectors
--
-- Assumes nothing.
use Rattle.std.specs.Prelude.{◌≡◌, Bool, not, List, ℕ, ◌+◌, ◌*◌, ◌-◌, ◌≤◌, ◌<◌, length, get_or}
use Rattle.std.proofs.Common.{ap, arith}
use Rattle.algebra.specs.Modular.{first}
use Rattle.algebra.specs.Search.{first_ext}
use Rattle.circuit.specs.Circuit.{Constraints, position, is_public, is_public_row, lent_constraints}
use Rattle.circuit.specs.Buffers.{selector_count}
use Rattle.circuit.specs.Reasons.{unbound_row}

abbrev pub is_public_at : List ℕ → ℕ → ℕ → Bool
is_public_at words apart at =
    is_public (get_or words at 0) (get_or words (at + apart) 0) (get_or words (at + 2 * apart) 0) (get_or words (at + 3 * apart) 0) (get_or words (at + 4 * apart) 0)

unfoldable pub unbound_in : List ℕ → ℕ → ℕ → ℕ → ℕ → ℕ
unbound_in words start step apart l = first (λ i. not (is_public_at words apart (start + i * step))) 0 l

pub record Spaced (words : List ℕ) (start step apart l : ℕ) : Type 0 where
  pub short : length words ≤ 65536
  pub near : step ≤ 65536
  pub room : (i : ℕ) → i < l → start + i * step + (selector_count - 1) * apart < length words

pub unbound_same : (words : List ℕ) (start step apart l : ℕ) (C : Constraints)
    → ((i : ℕ) → i < l → is_public_at words apart (start + i * step) ≡ is_public_row C i) → unbound_in words start step apart l ≡ unbound_row C l
unfolding unbound_in unbound_row
unbound_same words start step apart l C h =
    first_ext (λ i. not (is_public_at words apart (start + i * step))) (λ i. not (is_public_row C i)) l (λ i k. ap not (h i k))

pub unbound_lent : (n l : ℕ) (selectors labels : List ℕ) → unbound_in selectors 0 1 n l ≡ unbound_row (lent_constraints n selectors labels) l
unbound_lent n l selectors labels = unbound_same selectors 0 1 n l (lent_constraints n selectors labels) row
  where
    at : (j k : ℕ) → j ≡ k → get_or selectors j 0 ≡ get_or selectors k 0
    at j k e = ap (λ (m : ℕ). get_or selectors m 0) e

    row : (i : ℕ) → i < l → is_public_at selectors n (0 + i * 1) ≡ is_public_row (lent_constraints n selectors labels) i
    row i h =
        rw (
          at (0 + i * 1) (position n 0 i) (omega arith),
          at (0 + i * 1 + n) (position n 1 i) (omega arith),
          at (0 + i * 1 + 2 * n) (position n 2 i) (omega arith),
          at (0 + i * 1 + 3 * n) (position n 3 i) (omega arith),
          at (0 + i * 1 + 4 * n) (position n 4 i) (omega arith),
        )
