-- The circuit, its permutation and its gates (document 01, "Circuit, wiring and contents").
--
-- position n c i                  the position of column c and row i: c × n + i
-- Constraints                     the selectors of a row and the label of a position (001: the constraint system)
-- is_public q_l q_r q_o q_m q_c   these are the selectors of a public row: qL is 1, the others are 0, so that its gate is a - x
-- is_public_row C i               those of row i are
-- Circuit p n l C                 C is a circuit of n rows with l public inputs: l is at most n, the selectors of a row are elements, the label of a position
--                                 is below 3n, and the rows below l are public rows
-- lent_constraints n s l          the constraints in lent selectors and labels, column after column
-- Layout                          how a witness (document 01: the contents) is lent: place n k is where the wire value of position k stands, position_at n j is the
--                                 position whose wire value stands at place j
-- lent_by L n w k                 the wire value of position k, in a witness that is lent by the layout L
-- laid_by L n v                   the wire values v of the 3n positions, as they are lent by L
-- witness_place n k, witness_position n j   a witness is lent row by row (document 02, request 8): position k stands at 3 × row + column, and place j has column
--                                 j % 3 and row j / 3
-- by_rows                         the layout that is so
-- lent_witness n w k, laid_witness n v   a witness that is lent by it, read and laid
-- lent_public x                   the public input of a row, in lent public inputs (document 01: public numbers); 0 past their end
-- permutation m label k           where the copy permutation leads from position k (document 01: the wiring): the next higher of the m positions with
--                                 its label, from the highest to the lowest; a lone position leads to itself
-- gate p n C x v i                the gate of row i: qL×a + qR×b + qO×c + qM×a×b + qC - x
-- Satisfies p n C x v             the witness satisfies the constraints (document 01: the circuit): each gate holds, and positions of equal label agree
--
-- Assumes nothing.
use Rattle.std.specs.Prelude.{◌≡◌, Bool, true, false, ◌&&◌, List, ℕ, suc, ◌+◌, ◌*◌, ◌/◌, ◌%◌, ◌-◌, ◌≤◌, ◌<◌, pred, eqb, ltb, get_or}
use Rattle.algebra.specs.Modular.{first}
use Rattle.algebra.specs.Lists.{tab}

abbrev pub position : ℕ → ℕ → ℕ → ℕ
position n c i = c * n + i

pub record Constraints : Type 0 where
  pub q_l : ℕ → ℕ
  pub q_r : ℕ → ℕ
  pub q_o : ℕ → ℕ
  pub q_m : ℕ → ℕ
  pub q_c : ℕ → ℕ
  pub label : ℕ → ℕ

abbrev pub is_public : (q_l q_r q_o q_m q_c : ℕ) → Bool
is_public q_l q_r q_o q_m q_c = eqb q_l 1 && (eqb q_r 0 && (eqb q_o 0 && (eqb q_m 0 && eqb q_c 0)))

abbrev pub is_public_row : Constraints → ℕ → Bool
is_public_row C i = is_public (C.q_l i) (C.q_r i) (C.q_o i) (C.q_m i) (C.q_c i)

pub record Circuit (p n l : ℕ) (C : Constraints) : Type 0 where
  pub publics_few : l ≤ n
  pub selectors : (i : ℕ) → i < n → (C.q_l i < p) × (C.q_r i < p) × (C.q_o i < p) × (C.q_m i < p) × (C.q_c i < p)
  pub labels : (k : ℕ) → k < 3 * n → C.label k < 3 * n
  pub public_rows : (i : ℕ) → i < l → is_public_row C i ≡ true

abbrev pub lent_constraints : ℕ → List ℕ → List ℕ → Constraints
lent_constraints n selectors labels =
    record {
      q_l = λ i. get_or selectors (position n 0 i) 0;
      q_r = λ i. get_or selectors (position n 1 i) 0;
      q_o = λ i. get_or selectors (position n 2 i) 0;
      q_m = λ i. get_or selectors (position n 3 i) 0;
      q_c = λ i. get_or selectors (position n 4 i) 0;
      label = λ k. get_or labels k 0;
    }

pub record Layout : Type 0 where
  pub place : ℕ → ℕ → ℕ
  pub position_at : ℕ → ℕ → ℕ

unfoldable pub lent_by : Layout → ℕ → List ℕ → ℕ → ℕ
lent_by L n witness k = get_or witness (L.place n k) 0

unfoldable pub laid_by : Layout → ℕ → (ℕ → ℕ) → List ℕ
laid_by L n v = tab (λ j. v (L.position_at n j)) (3 * n)

-- a0, b0, c0, a1 and so on; position k is in column k / n and row k % n
abbrev pub witness_place : ℕ → ℕ → ℕ
witness_place n k = 3 * (k % n) + k / n

abbrev pub witness_position : ℕ → ℕ → ℕ
witness_position n j = position n (j % 3) (j / 3)

unfoldable pub by_rows : Layout
by_rows = record { place = witness_place; position_at = witness_position }

abbrev pub lent_witness : ℕ → List ℕ → ℕ → ℕ
lent_witness = lent_by by_rows

abbrev pub laid_witness : ℕ → (ℕ → ℕ) → List ℕ
laid_witness = laid_by by_rows

abbrev pub lent_public : List ℕ → ℕ → ℕ
lent_public publics i = get_or publics i 0

unfoldable pub permutation : ℕ → (ℕ → ℕ) → ℕ → ℕ
permutation m label k =
    let higher : ℕ = first (λ j. eqb (label j) (label k)) (suc k) (m - suc k) in
    elim (ltb higher m) [ true ↦ higher | false ↦ first (λ j. eqb (label j) (label k)) 0 m ]

unfoldable pub gate : ℕ → ℕ → Constraints → (ℕ → ℕ) → (ℕ → ℕ) → ℕ → ℕ
gate p n C x v i =
    let a : ℕ = v (position n 0 i) in
    let b : ℕ = v (position n 1 i) in
    let c : ℕ = v (position n 2 i) in
    (C.q_l i * a + C.q_r i * b + C.q_o i * c + C.q_m i * a * b + C.q_c i + pred p * x i) % p

pub record Satisfies (p n : ℕ) (C : Constraints) (x v : ℕ → ℕ) : Type 0 where
  pub gates : (i : ℕ) → i < n → gate p n C x v i ≡ 0
  pub copies : (j k : ℕ) → j < 3 * n → k < 3 * n → C.label j ≡ C.label k → v j ≡ v k
