-- What a circuit is, at document 01's worked sheet: prime 17, two rows.
--
-- selectors, labels    those of the sheet
-- public_selectors     the same with row 0 made a public row
-- Worked, worked       the sheet is a circuit with no public input and not one with 1; with row 0 made a public row it is one with 1 and not one with 2;
--                      the row that 14 names; and where the wire values of two and of four rows are lent; that these are so
--
-- Assumes nothing.
use Rattle.std.specs.Prelude.{◌≡◌, refl, List, [], ◌∷◌, ℕ}
use Rattle.std.proofs.Common.{sym, true≢false, arith}
use Rattle.algebra.specs.Lists.{tab}
use Rattle.algebra.specs.Modular.{first}
use Rattle.algebra.specs.Polynomial.{Elements}
use Rattle.circuit.specs.Circuit.{Circuit, lent_constraints, witness_place, witness_position}
use Rattle.circuit.specs.Reasons.{unbound_row}
use Rattle.circuit.specs.RightlyLent.{circuit_of}

abbrev pub selectors : List ℕ
selectors = 0 ∷ 1 ∷ 0 ∷ 1 ∷ 16 ∷ 16 ∷ 1 ∷ 0 ∷ 0 ∷ 0 ∷ []

abbrev pub public_selectors : List ℕ
public_selectors = 1 ∷ 1 ∷ 0 ∷ 1 ∷ 0 ∷ 16 ∷ 0 ∷ 0 ∷ 0 ∷ 0 ∷ []

abbrev pub labels : List ℕ
labels = 0 ∷ 2 ∷ 1 ∷ 2 ∷ 2 ∷ 3 ∷ []

pub record Worked : Type 0 where
  pub sheet : Circuit 17 2 0 (lent_constraints 2 selectors labels)
  pub not_public : Circuit 17 2 1 (lent_constraints 2 selectors labels) → ⊥
  pub one_public : Circuit 17 2 1 (lent_constraints 2 public_selectors labels)
  pub not_two : Circuit 17 2 2 (lent_constraints 2 public_selectors labels) → ⊥
  pub both_named : unbound_row (lent_constraints 2 selectors labels) 2 ≡ 0
  pub second_named : unbound_row (lent_constraints 2 public_selectors labels) 2 ≡ 1
  pub row_l_free : unbound_row (lent_constraints 2 public_selectors labels) 1 ≡ 1
  -- a0, b0, c0, a1, b1, c1: the positions 0, 2, 4, 1, 3, 5
  pub two_places : tab (witness_place 2) 6 ≡ 0 ∷ 3 ∷ 1 ∷ 4 ∷ 2 ∷ 5 ∷ []
  pub two_positions : tab (witness_position 2) 6 ≡ 0 ∷ 2 ∷ 4 ∷ 1 ∷ 3 ∷ 5 ∷ []
  pub four_places : tab (witness_place 4) 12 ≡ 0 ∷ 3 ∷ 6 ∷ 9 ∷ 1 ∷ 4 ∷ 7 ∷ 10 ∷ 2 ∷ 5 ∷ 8 ∷ 11 ∷ []
  pub four_positions : tab (witness_position 4) 12 ≡ 0 ∷ 4 ∷ 8 ∷ 1 ∷ 5 ∷ 9 ∷ 2 ∷ 6 ∷ 10 ∷ 3 ∷ 7 ∷ 11 ∷ []

labelled : Elements 6 6 labels
labelled =
    record { long = refl; below = (omega arith, (omega arith, (omega arith, (omega arith, (omega arith, (omega arith, tt)))))) }

below_17 : Elements 17 10 selectors
below_17 =
    record {
      long = refl;
      below = (omega arith, (omega arith, (omega arith, (omega arith, (omega arith, (omega arith, (omega arith, (omega arith, (omega arith, (omega arith, tt))))))))));
    }

public_below_17 : Elements 17 10 public_selectors
public_below_17 =
    record {
      long = refl;
      below = (omega arith, (omega arith, (omega arith, (omega arith, (omega arith, (omega arith, (omega arith, (omega arith, (omega arith, (omega arith, tt))))))))));
    }

pub worked : Worked
unfolding tab first unbound_row
worked =
    record {
      sheet = (circuit_of {n = 2} {l = 0} (omega arith) below_17 labelled refl).circuit;
      not_public = λ K. true≢false (sym (K.public_rows 0 (omega arith)));
      one_public = (circuit_of {n = 2} {l = 1} (omega arith) public_below_17 labelled refl).circuit;
      not_two = λ K. true≢false (sym (K.public_rows 1 (omega arith)));
      both_named = refl;
      second_named = refl;
      row_l_free = refl;
      two_places = refl;
      two_positions = refl;
      four_places = refl;
      four_positions = refl;
    }
