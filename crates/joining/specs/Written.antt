-- The joined sheet as a text: it fits, and reading it gives the joined numbers back.
--
-- joined_fits      the joined sheet has at most 65,536 bytes
-- joined_accepted, joined_new   reading it is accepted, and so is taking it as a new sheet
-- joined_back      and gives the joined numbers
-- joined_plain     it has no line of blinders
--
-- Assumes nothing.
use Rattle.std.specs.Prelude.{◌≡◌, ◌⊎◌, true, false, List, [], ℕ, ◌*◌, ◌/◌, ◌%◌, ◌≤◌, ◌<◌, length}
use Rattle.std.proofs.Common.{◌∙◌, inl, inr, mod-lt, div-lt_iff_lt-mul, arith, length-append}
use Rattle.algebra.specs.Ends.{run_room}
use Rattle.algebra.specs.Lists.{All}
use Rattle.algebra.specs.Polynomial.{Elements}
use Rattle.algebra.specs.Tables.{length-tab, all_append, all_get_d, all_of}
use Rattle.field.specs.Fields.{is_current}
use Rattle.field.specs.Primes.{by_field, rows-power}
use Rattle.circuit.specs.Circuit.{position, lent_witness}
use Rattle.circuit.specs.Buffers.{witness_length}
use Rattle.circuit.specs.RightlyLent.{RightCircuit, selectors-right, labels_right}
use Rattle.circuit.specs.Witness.{laid_elements, lent_below}
use Rattle.sheet.specs.Sheet.{sheet_p, is_blinded, read_answer, new_answer}
use Rattle.sheet.specs.Deciding.{new_same}
use Rattle.sheet.specs.Written.{Small, Right}
use Rattle.sheet.specs.Fits.{sheet_long}
use Rattle.sheet.specs.ReadBack.{SheetBack, sheet_back, Admitted, sheet_taken}
use Rattle.joining.specs.Joining.{Numbers, on_sheet, text_of, source_row, joined_at, from_row, joined_numbers, joined_length}
use Rattle.joining.specs.Rows.{Below, source_below}
use Rattle.joining.specs.Deciding.{Joinable}
use Rattle.joining.specs.Satisfaction.{joined_circuit}

-- elements of a prime below 2^32 are below 2^32
small : (p : ℕ) (xs : List ℕ) → p ≤ 4294967296 → All (λ (x : ℕ). x < p) xs → Small xs
small p xs h a = all_of (λ (x : ℕ). x < 4294967296) xs (λ i k. omega (arith, all_get_d (λ (x : ℕ). x < p) xs a i k))

module _ (A B : Numbers) (joinable : Joinable A B) where
  abbrev J : Numbers
  J = joined_numbers A B

  prime_small : A.p ≤ 4294967296
  prime_small = by_field (λ p. p ≤ 4294967296) (omega arith) (omega arith) (omega arith) A.p joinable.admissible.one_of_three

  one_few : A.l ≤ A.n
  one_few = joinable.one.circuit-right.circuit.publics_few

  two_few : B.l ≤ A.n
  two_few = omega (arith, joinable.two.circuit-right.circuit.publics_few, joinable.same_n)

  some : 0 < A.n
  some = omega (arith, (rows-power A.p (2 * A.n) joinable.admissible.rows).least)

  circuit-right : RightCircuit J.p J.n J.l J.selectors J.labels
  circuit-right = record { selectors_long = length-tab _ _; labels_long = length-tab _ _; circuit = joined_circuit A B joinable }

  -- a wire value of either sheet
  value_below : (c : ℕ) → c < 3 → (t : ℕ ⊎ ℕ) → Below A.n t
      → from_row (λ r. lent_witness A.n A.witness (position A.n c r)) (λ r. lent_witness A.n B.witness (position A.n c r)) t < A.p
  value_below c h (inl r) b = lent_below A.n joinable.one.witness-right (position A.n c r) (omega (arith, run_room c 3 A.n h))
  value_below c h (inr r) b =
      lent_below A.n two (position A.n c r) (omega (arith, run_room c 3 A.n h))
    where
      two : Elements A.p (witness_length A.n) B.witness
      two = rw (joinable.same_p, joinable.same_n) joinable.two.witness-right

  witness-right : Elements J.p (witness_length J.n) J.witness
  unfolding joined_at
  witness-right =
      laid_elements (2 * A.n) (joined_at A.n A.l B.l (lent_witness A.n A.witness) (lent_witness A.n B.witness))
      (λ k h. value_below (k / (2 * A.n)) ((div-lt_iff_lt-mul {x = k} {y = 3} (omega (arith, some))).1 h) (source_row A.n A.l B.l (k % (2 * A.n))) (source_below A.n A.l B.l one_few two_few (k % (2 * A.n)) (mod-lt k (omega (arith, some)))))

  publics-right : Elements J.p J.l J.publics
  publics-right =
      record {
        long = omega (arith, length-append A.publics B.publics, joinable.one.publics-right.long, joinable.two.publics-right.long);
        below = all_append (λ (x : ℕ). x < A.p) A.publics B.publics joinable.one.publics-right.below (rw joinable.same_p joinable.two.publics-right.below);
      }

  pub joined_fits : length (text_of J) ≤ joined_length
  joined_fits =
      omega (arith, sheet_long J.p J.n J.l J.selectors J.labels J.witness J.publics J.challenges joinable.one.challenges_right.long, one_few, two_few, joinable.few)

  right : Right J.p J.n J.l J.selectors J.labels J.witness J.publics J.challenges
  right =
      record {
        first_small = (omega (arith, by_field (λ p. p < 4294967296) (omega arith) (omega arith) (omega arith) A.p joinable.admissible.one_of_three), (omega (arith, joinable.few), (omega (arith, one_few, two_few, joinable.few), tt)));
        selectors_small = small A.p J.selectors prime_small (selectors-right circuit-right).below;
        selectors_long = circuit-right.selectors_long;
        labels_small = small (3 * (2 * A.n)) J.labels (omega (arith, joinable.few)) (labels_right circuit-right).below;
        labels_long = circuit-right.labels_long;
        witness_small = small A.p J.witness prime_small witness-right.below;
        witness_long = witness-right.long;
        publics_small = small A.p J.publics prime_small publics-right.below;
        publics_long = publics-right.long;
        challenges_small = small A.p J.challenges prime_small joinable.one.challenges_right.below;
        challenges_long = joinable.one.challenges_right.long;
      }

  back : SheetBack (text_of J) J.p J.n J.l J.selectors J.labels J.witness J.publics J.challenges
  back = sheet_back J.p J.n J.l J.selectors J.labels J.witness J.publics J.challenges right

  admitted : Admitted (text_of J) J.p J.n J.l J.selectors J.labels J.witness J.publics J.challenges
  admitted =
      record {
        short = joined_fits;
        one_of_three = joinable.admissible.one_of_three;
        rows = joinable.admissible.rows;
        few = joinable.few;
        circuit-right = circuit-right;
        witness_below = witness-right.below;
        publics_below = publics-right.below;
        challenges_below = joinable.one.challenges_right.below;
      }

  pub joined_accepted : read_answer (text_of J) ≡ record { number = 0; detail = 0 }
  joined_accepted = sheet_taken (text_of J) J.p J.n J.l J.selectors J.labels J.witness J.publics J.challenges back admitted

  -- its prime is that of the first sheet
  current : is_current (sheet_p (text_of J)) ≡ true
  current = rw back.p_is joinable.current

  pub joined_new : new_answer (text_of J) ≡ record { number = 0; detail = 0 }
  joined_new = new_same (text_of J) [] current ∙ joined_accepted

  pub joined_back : on_sheet (text_of J) ≡ J
  joined_back =
      rw (back.p_is, back.n_is, back.l_is, back.selectors_are, back.labels_are, back.witness_is, back.publics_are, back.challenges_are)

  pub joined_plain : is_blinded (text_of J) J.n J.l ≡ false
  joined_plain = back.none_blinded
