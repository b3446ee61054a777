-- The witness as it is lent: there and back.
--
-- place_of             the place of a column and a row
-- place_below, position_below   a place and a position lie below 3n
-- place_position, position_place   each of the two undoes the other
-- lent_laid            what is lent so is read back
-- laid_lent            what is read so is lent back
-- laid_ext             what is lent sees the 3n positions only
-- laid_elements        wire values that are elements are lent as elements
-- lent_below           a lent witness of elements gives elements
--
-- Assumes nothing.
use Rattle.std.specs.Prelude.{◌≡◌, List, ℕ, ◌+◌, ◌*◌, ◌/◌, ◌%◌, ◌<◌, length, get_or}
use Rattle.std.proofs.Common.{sym, ap, ◌∙◌, mod-lt, div-lt_iff_lt-mul, div-add-mod', arith}
use Rattle.algebra.specs.Ends.{run_room}
use Rattle.algebra.specs.Lists.{tab}
use Rattle.algebra.specs.Polynomial.{Elements}
use Rattle.algebra.specs.PolynomialLaws.{tab_elements}
use Rattle.algebra.specs.Tables.{get_or-tab, tab_ext, tab-get_or, all_get_d}
use Rattle.circuit.specs.Buffers.{witness_length}
use Rattle.circuit.specs.Circuit.{position, witness_place, witness_position, lent_by, laid_by, by_rows, lent_witness, laid_witness}
use Rattle.circuit.specs.Positions.{position-column, position_row, by_position}

pub place_of : (n c i : ℕ) → i < n → witness_place n (position n c i) ≡ 3 * i + c
place_of n c i h = omega (arith, position_row n c i h, position-column n c i h)

pub place_below : (n k : ℕ) → k < 3 * n → witness_place n k < 3 * n
place_below n = by_position 3 n (λ k. witness_place n k < 3 * n) (λ c i g h. omega (arith, place_of n c i h))

-- column and row of the position at place j
column : (j : ℕ) → j % 3 < 3
column j = mod-lt j (omega arith)

row : (n j : ℕ) → j < 3 * n → j / 3 < n
row n j h = (div-lt_iff_lt-mul {k = 3} {x = j} {y = n} (omega arith)).1 (omega arith)

pub position_below : (n j : ℕ) → j < 3 * n → witness_position n j < 3 * n
position_below n j h = omega (arith, row n j h, run_room (j % 3) 3 n (column j))

pub place_position : (n j : ℕ) → j < 3 * n → witness_place n (witness_position n j) ≡ j
place_position n j h = omega (arith, place_of n (j % 3) (j / 3) (row n j h), div-add-mod' j 3)

pub position_place : (n k : ℕ) → k < 3 * n → witness_position n (witness_place n k) ≡ k
position_place n = by_position 3 n (λ k. witness_position n (witness_place n k) ≡ k) at
  where
    at : (c i : ℕ) → c < 3 → i < n → witness_position n (witness_place n (position n c i)) ≡ position n c i
    at c i g h =
        let place : witness_place n (position n c i) ≡ position 3 i c = omega (arith, place_of n c i h) in
        rw (place, position_row 3 i c g, position-column 3 i c g)

pub lent_laid : (n : ℕ) (v : ℕ → ℕ) (k : ℕ) → k < 3 * n → lent_witness n (laid_witness n v) k ≡ v k
unfolding lent_by laid_by by_rows
lent_laid n v k h = get_or-tab (λ j. v (witness_position n j)) (3 * n) (witness_place n k) (place_below n k h) ∙ ap v (position_place n k h)

pub laid_lent : (n : ℕ) (witness : List ℕ) → length witness ≡ witness_length n → laid_witness n (lent_witness n witness) ≡ witness
unfolding lent_by laid_by by_rows
laid_lent n witness long =
    tab_ext _ (λ j. get_or witness j 0) (3 * n) (λ j h. ap (λ (k : ℕ). get_or witness k 0) (place_position n j h))
    ∙ ap (tab (λ j. get_or witness j 0)) (sym long)
    ∙ tab-get_or witness

pub laid_ext : (n : ℕ) (u v : ℕ → ℕ) → ((k : ℕ) → k < 3 * n → u k ≡ v k) → laid_witness n u ≡ laid_witness n v
unfolding laid_by by_rows
laid_ext n u v same = tab_ext _ _ (3 * n) (λ j h. same (witness_position n j) (position_below n j h))

pub laid_elements : {p : ℕ} (n : ℕ) (v : ℕ → ℕ) → ((k : ℕ) → k < 3 * n → v k < p) → Elements p (witness_length n) (laid_witness n v)
unfolding laid_by by_rows
laid_elements n v h = tab_elements (λ j. v (witness_position n j)) (3 * n) (λ j l. h (witness_position n j) (position_below n j l))

pub lent_below : {p : ℕ} (n : ℕ) {witness : List ℕ} → Elements p (witness_length n) witness → (k : ℕ) → k < 3 * n → lent_witness n witness k < p
unfolding lent_by by_rows
lent_below {p} n {witness} e k h = all_get_d (λ (x : ℕ). x < p) witness e.below (witness_place n k) (omega (arith, place_below n k h, e.long))
