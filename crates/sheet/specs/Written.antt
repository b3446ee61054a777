-- The sheet that is written from numbers, in document 01's format: the first line p,n,l; then n lines of selectors and three labels, n
-- lines of wire values, l lines of one public input, and the challenges. The numbers are given as they are lent.
--
-- column n xs row c   the number in a column and row of a buffer that is lent column after column
-- circuit_line, witness_line_with L, public_line   the numbers of one line; the witness is lent by the layout L
-- sheet_text_with L   the bytes of the sheet
-- witness_line, sheet_text   the same by the layout of today
-- Small xs            every number is below 2^32
-- Right               the numbers are below 2^32, and there are as many as are lent for n rows and l public inputs
--
-- Assumes nothing.
use Rattle.std.specs.Prelude.{◌≡◌, List, [], ◌∷◌, ◌++◌, ℕ, ◌+◌, ◌*◌, ◌<◌, length, get_or}
use Rattle.algebra.specs.Lists.{tab, All}
use Rattle.transform.specs.Parts.{laid}
use Rattle.circuit.specs.Circuit.{Layout, position, lent_by, by_rows}
use Rattle.circuit.specs.Buffers.{selector_count, selectors_length, labels_length, witness_length}
use Rattle.text.specs.Text.{line_of}
use Rattle.sheet.specs.Sheet.{challenge_count}

abbrev pub column : ℕ → List ℕ → ℕ → ℕ → ℕ
column n xs row c = get_or xs (c * n + row) 0

abbrev pub circuit_line : ℕ → List ℕ → List ℕ → ℕ → List ℕ
circuit_line n selectors labels row = tab (column n selectors row) selector_count ++ tab (column n labels row) 3

abbrev pub witness_line_with : Layout → ℕ → List ℕ → ℕ → List ℕ
witness_line_with L n witness row = tab (λ c. lent_by L n witness (position n c row)) 3

abbrev pub public_line : List ℕ → ℕ → List ℕ
public_line publics row = get_or publics row 0 ∷ []

abbrev pub sheet_text_with : (L : Layout) (p n l : ℕ) (selectors labels witness publics challenges : List ℕ) → List ℕ
sheet_text_with L p n l selectors labels witness publics challenges =
    line_of (p ∷ n ∷ l ∷ [])
    ++ (laid (λ i. line_of (circuit_line n selectors labels i)) n
    ++ (laid (λ i. line_of (witness_line_with L n witness i)) n
    ++ (laid (λ i. line_of (public_line publics i)) l
    ++ line_of challenges)))

abbrev pub witness_line : ℕ → List ℕ → ℕ → List ℕ
witness_line = witness_line_with by_rows

abbrev pub sheet_text : (p n l : ℕ) (selectors labels witness publics challenges : List ℕ) → List ℕ
sheet_text = sheet_text_with by_rows

abbrev pub Small : List ℕ → Type 0
Small xs = All (λ (x : ℕ). x < 4294967296) xs

pub record Right (p n l : ℕ) (selectors labels witness publics challenges : List ℕ) : Type 0 where
  pub first_small : Small (p ∷ n ∷ l ∷ [])
  pub selectors_small : Small selectors
  pub selectors_long : length selectors ≡ selectors_length n
  pub labels_small : Small labels
  pub labels_long : length labels ≡ labels_length n
  pub witness_small : Small witness
  pub witness_long : length witness ≡ witness_length n
  pub publics_small : Small publics
  pub publics_long : length publics ≡ l
  pub challenges_small : Small challenges
  pub challenges_long : length challenges ≡ challenge_count
