-- Two sheets joined to one (document 02, "Joining two deposits").
--
-- THE JOINED SHEET
-- Numbers                the numbers of a sheet: p, n and l, and the five buffers as they are lent
-- on_sheet_with L s      those that stand on the sheet s, the witness being lent by the layout L
-- text_of_with L N       the sheet that is written from them
-- constraints_of N, public_of N, witness_of N   their constraints, public inputs and wire values
-- Satisfied N            the wire values satisfy the constraints with the public inputs
-- source_row n l m i     which row stands at row i of the joined sheet, of two sheets of n rows with l and m public inputs: row r of the first (inl r), or
--                        row r of the second (inr r). The public rows of the first, those of the second, the other rows of the first, those of the second
-- from_row f g s         f of a row of the first, g of a row of the second
-- from_second n l m k    position k of the joined sheet comes from the second
-- joined_at n l m f g k  the number at position k of the joined sheet, f and g giving those at the positions of the first and of the second
-- joined_numbers_with L A B     the numbers of the joined sheet: the labels of the second are raised by 3n, the challenges are those of the first
-- joined_text_with L one two    the joined sheet
-- joined_length          the length of the buffer that it is written into
-- REASONS
-- join_due               the lengths due of the two sheets, which have whatever lengths they have, and of the written buffer
-- other_shape            15: the prime or n differ
-- pair_reasons           15, and 3 where the doubled n is too great
-- join_reasons_with L    of `join`: those of the first sheet as a new one, with 6 for the written buffer among them; those of the second; those of the pair
-- THE PROMISE
-- JoinsWith L            refused: no length, and the buffer as it came; accepted: the length of the joined sheet, and in the buffer that sheet, and zeros behind it
-- BY THE LAYOUT OF TODAY
-- on_sheet, text_of, joined_numbers, joined_text, join_reasons, Joins   the same, row by row
--
-- Assumes nothing.
use Rattle.std.specs.Prelude.{◌≡◌, ◌⊎◌, Bool, true, false, cond, not, ◌&&◌, List, [], ◌∷◌, ◌++◌, ℕ, ◌+◌, ◌*◌, ◌-◌, ◌/◌, ◌%◌, eqb, ltb, length, get_or, replicate, Some, None}
use Rattle.std.proofs.Common.{inl, inr}
use Rattle.algebra.specs.Lists.{tab}
use Rattle.field.specs.Reasons.{Outcome, Reason, answer_of, is_accepted, bad_rows, bad_lengths}
use Rattle.circuit.specs.Circuit.{Constraints, Layout, position, lent_constraints, lent_by, laid_by, by_rows, lent_witness, lent_public, Satisfies}
use Rattle.circuit.specs.Buffers.{selectors_length, labels_length, witness_length}
use Rattle.sheet.specs.Sheet.{sheet_rows, challenge_count, sheet_p, sheet_n, sheet_l, on_selectors, on_labels, on_witness_with, on_publics, on_challenges, new_reasons_with}
use Rattle.sheet.specs.Written.{sheet_text_with}

-- THE JOINED SHEET

pub record Numbers : Type 0 where
  pub p : ℕ
  pub n : ℕ
  pub l : ℕ
  pub selectors : List ℕ
  pub labels : List ℕ
  pub witness : List ℕ
  pub publics : List ℕ
  pub challenges : List ℕ

abbrev pub on_sheet_with : Layout → List ℕ → Numbers
on_sheet_with L s =
    record {
      p = sheet_p s;
      n = sheet_n s;
      l = sheet_l s;
      selectors = tab (on_selectors s (sheet_n s) (sheet_l s)) (selectors_length (sheet_n s));
      labels = tab (on_labels s (sheet_n s) (sheet_l s)) (labels_length (sheet_n s));
      witness = tab (on_witness_with L s (sheet_n s) (sheet_l s)) (witness_length (sheet_n s));
      publics = tab (on_publics s (sheet_n s) (sheet_l s)) (sheet_l s);
      challenges = tab (on_challenges s (sheet_n s) (sheet_l s)) challenge_count;
    }

abbrev pub text_of_with : Layout → Numbers → List ℕ
text_of_with L N = sheet_text_with L N.p N.n N.l N.selectors N.labels N.witness N.publics N.challenges

abbrev pub constraints_of : Numbers → Constraints
constraints_of N = lent_constraints N.n N.selectors N.labels

abbrev pub public_of : Numbers → ℕ → ℕ
public_of N = lent_public N.publics

abbrev pub witness_of : Numbers → ℕ → ℕ
witness_of N = lent_witness N.n N.witness

abbrev pub Satisfied : Numbers → Type 0
Satisfied N = Satisfies N.p N.n (constraints_of N) (public_of N) (witness_of N)

unfoldable pub source_row : (n l m i : ℕ) → ℕ ⊎ ℕ
source_row n l m i =
    cond (ltb i l) (inl i) (cond (ltb i (l + m)) (inr (i - l)) (cond (ltb i (n + m)) (inl (i - m)) (inr (i - n))))

abbrev pub from_row : {A : Type 0} → (ℕ → A) → (ℕ → A) → ℕ ⊎ ℕ → A
from_row f g (inl r) = f r
from_row f g (inr r) = g r

-- position k is in column k / 2n and row k % 2n
abbrev pub from_second : (n l m k : ℕ) → Bool
from_second n l m k = from_row (λ r. false) (λ r. true) (source_row n l m (k % (2 * n)))

-- a row goes with its columns
unfoldable pub joined_at : (n l m : ℕ) (f g : ℕ → ℕ) → ℕ → ℕ
joined_at n l m f g k =
    let c : ℕ = k / (2 * n) in
    from_row (λ r. f (position n c r)) (λ r. g (position n c r)) (source_row n l m (k % (2 * n)))

abbrev pub joined_numbers_with : Layout → Numbers → Numbers → Numbers
joined_numbers_with L A B =
    let n : ℕ = A.n in
    let at : (f g : ℕ → ℕ) → ℕ → ℕ = joined_at n A.l B.l in
    record {
      p = A.p;
      n = 2 * n;
      l = A.l + B.l;
      selectors = tab (at (λ k. get_or A.selectors k 0) (λ k. get_or B.selectors k 0)) (selectors_length (2 * n));
      labels = tab (at (λ k. get_or A.labels k 0) (λ k. 3 * n + get_or B.labels k 0)) (labels_length (2 * n));
      witness = laid_by L (2 * n) (at (lent_by L n A.witness) (lent_by L n B.witness));
      publics = A.publics ++ B.publics;
      challenges = A.challenges;
    }

abbrev pub joined_text_with : Layout → List ℕ → List ℕ → List ℕ
joined_text_with L one two = text_of_with L (joined_numbers_with L (on_sheet_with L one) (on_sheet_with L two))

abbrev pub joined_length : ℕ
joined_length = 65536

-- REASONS

abbrev pub join_due : ℕ → ℕ → List ℕ
join_due one two = one ∷ two ∷ joined_length ∷ []

abbrev pub other_shape : (p n p' n' : ℕ) → Reason
other_shape p n p' n' = record { number = 15; detail = 0; applies = not (eqb p p' && eqb n n') }

abbrev pub pair_reasons : (p n p' n' : ℕ) → List Reason
pair_reasons p n p' n' = other_shape p n p' n' ∷ bad_rows p (2 * n) sheet_rows ∷ []

-- `joined` is the length of the written buffer
abbrev pub join_reasons_with : (L : Layout) (one two : List ℕ) (joined : ℕ) → List Reason
join_reasons_with L one two joined =
    new_reasons_with L one (bad_lengths (length one ∷ length two ∷ joined ∷ []) (join_due (length one) (length two)) ∷ [])
    ++ (new_reasons_with L two [] ++ pair_reasons (sheet_p one) (sheet_n one) (sheet_p two) (sheet_n two))

-- THE PROMISE

pub record JoinsWith (L : Layout) (one two joined : List ℕ) (r : Outcome ℕ) (joined' : List ℕ) : Type 0 where
  pub answer : r.answer ≡ answer_of (join_reasons_with L one two (length joined))
  pub long : r.value ≡ cond (is_accepted r.answer) (Some (length (joined_text_with L one two))) None
  pub written : joined' ≡ cond (is_accepted r.answer) (joined_text_with L one two ++ replicate (joined_length - length (joined_text_with L one two)) 0) joined

-- BY THE LAYOUT OF TODAY

abbrev pub on_sheet : List ℕ → Numbers
on_sheet = on_sheet_with by_rows

abbrev pub text_of : Numbers → List ℕ
text_of = text_of_with by_rows

abbrev pub joined_numbers : Numbers → Numbers → Numbers
joined_numbers = joined_numbers_with by_rows

abbrev pub joined_text : List ℕ → List ℕ → List ℕ
joined_text = joined_text_with by_rows

abbrev pub join_reasons : (one two : List ℕ) (joined : ℕ) → List Reason
join_reasons = join_reasons_with by_rows

abbrev pub Joins : (one two joined : List ℕ) (r : Outcome ℕ) (joined' : List ℕ) → Type 0
Joins = JoinsWith by_rows
