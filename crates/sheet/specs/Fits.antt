-- How long a sheet is that is written from numbers.
--
-- circuit_long   how many numbers a gate line has
-- line_long      a line of k numbers has at most field_bytes bytes for each
-- sheet_long     so has the sheet: gate lines and wire values for each row, the public inputs, the numbers of the first line and of the last
--
-- Assumes nothing.
use Rattle.std.specs.Prelude.{◌≡◌, List, [], ◌∷◌, ◌++◌, ℕ, ◌+◌, ◌*◌, ◌≤◌, ◌<◌, length}
use Rattle.std.proofs.Common.{◌∙◌, arith, length-append}
use Rattle.algebra.specs.Lists.{tab}
use Rattle.algebra.specs.Tables.{length-tab}
use Rattle.transform.specs.Parts.{laid}
use Rattle.circuit.specs.Circuit.{position, lent_witness}
use Rattle.circuit.specs.Buffers.{selector_count}
use Rattle.text.specs.Text.{line_of}
use Rattle.text.specs.Puts.{field_bytes, length_numbers}
use Rattle.sheet.specs.Sheet.{challenge_count, gate_fields}
use Rattle.sheet.specs.Written.{column, circuit_line, witness_line, public_line, sheet_text}
use Rattle.sheet.specs.LaidLines.{laid_long}

pub circuit_long : (n : ℕ) (selectors labels : List ℕ) (i : ℕ) → length (circuit_line n selectors labels i) ≡ gate_fields
circuit_long n selectors labels i = length-append (tab (column n selectors i) selector_count) (tab (column n labels i) 3) ∙ simp length-tab

pub line_long : (vs : List ℕ) (k : ℕ) → length vs ≡ k → 0 < k → length (line_of vs) ≤ field_bytes * k
line_long vs k e h = omega (arith, length_numbers vs (omega arith))

module _ (p n l : ℕ) (selectors labels witness publics challenges : List ℕ) where
  abbrev gates : List ℕ
  gates = laid (λ i. line_of (circuit_line n selectors labels i)) n

  abbrev contents : List ℕ
  contents = laid (λ i. line_of (witness_line n witness i)) n

  abbrev inputs : List ℕ
  inputs = laid (λ i. line_of (public_line publics i)) l

  pub sheet_long : length challenges ≡ challenge_count
      → length (sheet_text p n l selectors labels witness publics challenges) ≤ field_bytes * ((gate_fields + 3) * n + l + (3 + challenge_count))
  sheet_long few =
      omega (
        arith,
        length-append (line_of (p ∷ n ∷ l ∷ [])) (gates ++ (contents ++ (inputs ++ line_of challenges))),
        length-append gates (contents ++ (inputs ++ line_of challenges)),
        length-append contents (inputs ++ line_of challenges),
        length-append inputs (line_of challenges),
        length_numbers (p ∷ n ∷ l ∷ []) (omega arith),
        laid_long (λ i. line_of (circuit_line n selectors labels i)) (field_bytes * gate_fields) n (λ i h. line_long (circuit_line n selectors labels i) gate_fields (circuit_long n selectors labels i) (omega arith)),
        laid_long (λ i. line_of (witness_line n witness i)) (field_bytes * 3) n (λ i h. line_long (witness_line n witness i) 3 (length-tab (λ c. lent_witness n witness (position n c i)) 3) (omega arith)),
        laid_long (λ i. line_of (public_line publics i)) field_bytes l (λ i h. length_numbers (public_line publics i) (omega arith)),
        line_long challenges challenge_count few (omega arith),
      )
