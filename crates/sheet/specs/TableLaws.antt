-- A table that holds all lines of a sheet has its numbers, as they are lent.
--
-- on_position_lem   the wire value of a column and a row, in the witness as it is lent, is the field of that column on the line of that row
-- selectors_same, labels_same, witness_same, publics_same, challenges_same, blinders_same   number k of each kind
-- elements_same, selectors_list_same, labels_list_same   the elements end to end, the selectors and the labels
-- drawn_same        challenges and blinders, as they are laid in one buffer
-- elements_long     how many elements the table has
-- unbound-table     selector s of row i is word s of line i + 1, so the row of a line that is no public row is the one that 14 names
--
-- Assumes nothing.
use Rattle.std.specs.Prelude.{◌≡◌, refl, List, ◌++◌, length, get_or, replicate}
use Rattle.std.proofs.Common.{sym, ap, ap₂, ◌∙◌, div-lt_iff_lt-mul, mod-eq_of_lt, div-one, arith, length-append}
use Prim.Native.Nat.{ℕ, suc, ◌+◌, ◌*◌, ◌-◌, ◌/◌, ◌%◌, ◌≤◌, ◌<◌}
use Rattle.std.proofs.Math.Nat.{mod-lt, div-eq_of_lt, mod-one}
use Rattle.algebra.specs.Ends.{run_room}
use Rattle.algebra.specs.Lists.{tab}
use Rattle.algebra.specs.Tables.{length-tab, get_or-tab, tab_ext}
use Rattle.circuit.specs.Circuit.{position, witness_position, is_public_row, lent_constraints, laid_by, by_rows, lent_witness}
use Rattle.circuit.specs.Buffers.{blinder_count, selector_count, selectors_length, labels_length, witness_length}
use Rattle.circuit.specs.Positions.{position-column, position_row}
use Rattle.circuit.specs.Witness.{lent_laid}
use Rattle.circuit.specs.Reasons.{unbound_row}
use Rattle.circuit.specs.Selectors.{is_public_at, unbound_in, unbound_same}
use Rattle.sheet.specs.Sheet.{challenge_count, label_field, fields_due, plain_lines, lines_due, number_of, sheet_blinded, on_selectors, on_labels, on_position, on_witness, on_publics, on_challenges, on_blinders, blinders_on, drawn_on, sheet_elements}
use Rattle.sheet.specs.Due.{due_circuit, due_witness, due_publics, due_challenges, due_blinders, blinded_most}
use Rattle.sheet.specs.Table.{line_words, table_place, selectors_block, place_in, Full, HeldAll, selectors_in, labels_in, witness_in, publics_in, challenges_in, blinders_in, table_elements, table_drawn}

pub on_position_lem : (s : List ℕ) (n l c i : ℕ) → c < 3 → i < n → lent_witness n (tab (on_witness s n l) (witness_length n)) (position n c i) ≡ number_of s n l (n + suc i) c
unfolding laid_by by_rows
on_position_lem s n l c i g h =
    lent_laid n (on_position s n l) (position n c i) (omega (arith, run_room c 3 n g))
    ∙ ap₂ (λ (r c : ℕ). number_of s n l (n + suc r) c) (position_row n c i h) (position-column n c i h)

module _ (s : List ℕ) (n l : ℕ) (t : List ℕ) (full : Full n l t) (held : HeldAll s n l t) where
  abbrev e : ℕ
  e = sheet_blinded s n l

  row : (k : ℕ) → k % n < n
  row k = mod-lt k full.some

  column : (k c : ℕ) → k < c * n → k / n < c
  column k c h = (div-lt_iff_lt-mul {x = k} {y = c} full.some).1 h

  -- the word at a place that is field j of line i
  word : (place i j : ℕ) → place ≡ table_place i j → 0 < i → i < lines_due e n l → j < fields_due n l i → get_or t place 0 ≡ number_of s n l i j
  word place i j e g h f = ap (λ (m : ℕ). get_or t m 0) e ∙ held.number i j g h f

  pub selectors_same : (k : ℕ) → k < selectors_length n → selectors_in t n k ≡ on_selectors s n l k
  selectors_same k h =
      let a = row k in
      let b = column k selector_count h in
      word _ (suc (k % n)) (k / n) (omega arith) (omega arith) (omega arith) (omega (arith, due_circuit n l (suc (k % n)) (omega arith) (omega arith)))

  pub labels_same : (k : ℕ) → k < labels_length n → labels_in t n k ≡ on_labels s n l k
  labels_same k h =
      let a = row k in
      let b = column k 3 h in
      word _ (suc (k % n)) (label_field + k / n) (omega arith) (omega arith) (omega arith) (omega (arith, due_circuit n l (suc (k % n)) (omega arith) (omega arith)))

  -- column and row of the position at place j of the witness are j % 3 and j / 3
  pub witness_same : (j : ℕ) → j < witness_length n → witness_in t n j ≡ on_witness s n l j
  unfolding by_rows
  witness_same j h =
      let k : ℕ = witness_position n j in
      let a : j / 3 < n = (div-lt_iff_lt-mul {k = 3} {x = j} {y = n} (omega arith)).1 (omega arith) in
      let b : j % 3 < 3 = mod-lt j (omega arith) in
      let r : k % n ≡ j / 3 = position_row n (j % 3) (j / 3) a in
      let c : k / n ≡ j % 3 = position-column n (j % 3) (j / 3) a in
      word _ (n + suc (k % n)) (k / n) (omega arith) (omega arith) (omega arith) (omega (arith, due_witness n l (n + suc (k % n)) (omega arith) (omega arith)))

  pub publics_same : (k : ℕ) → k < l → publics_in t n l k ≡ on_publics s n l k
  publics_same k h =
      let a : k % 1 ≡ 0 = mod-one k in
      let b : k / 1 ≡ k = div-one k in
      word _ (n + n + suc k) 0 (omega arith) (omega arith) (omega arith) (omega (arith, due_publics n l (n + n + suc k) (omega arith) (omega arith)))

  pub challenges_same : (k : ℕ) → k < challenge_count → challenges_in t n l k ≡ on_challenges s n l k
  challenges_same k h =
      let a : k % challenge_count ≡ k = mod-eq_of_lt h in
      let b : k / challenge_count ≡ 0 = div-eq_of_lt h in
      word _ (n + n + l + 1) k (omega arith) (omega arith) (omega arith) (omega (arith, due_challenges n l (n + n + l + 1) refl))

  -- where there are any, one line is there
  pub blinders_same : (k : ℕ) → k < blinder_count * e → blinders_in t e n l k ≡ on_blinders s n l k
  blinders_same k h =
      let most = blinded_most s n l in
      let g : k < blinder_count = omega arith in
      let a : k % blinder_count ≡ k = mod-eq_of_lt g in
      let b : k / blinder_count ≡ 0 = div-eq_of_lt g in
      word _ (plain_lines n l) k (omega arith) (omega arith) (omega arith) (omega (arith, due_blinders n l (plain_lines n l) (omega arith)))

  pub selectors_list_same : tab (selectors_in t n) (selectors_length n) ≡ tab (on_selectors s n l) (selectors_length n)
  selectors_list_same = tab_ext (selectors_in t n) (on_selectors s n l) (selectors_length n) selectors_same

  challenges_list_same : tab (challenges_in t n l) challenge_count ≡ tab (on_challenges s n l) challenge_count
  challenges_list_same = tab_ext (challenges_in t n l) (on_challenges s n l) challenge_count challenges_same

  blinders_list_same : tab (blinders_in t e n l) (blinder_count * e) ≡ blinders_on s n l
  blinders_list_same = tab_ext (blinders_in t e n l) (on_blinders s n l) (blinder_count * e) blinders_same

  pub drawn_same : table_drawn e n l t ≡ drawn_on s n l
  drawn_same =
      ap₂ (λ (a b : List ℕ). a ++ (b ++ replicate (blinder_count - blinder_count * e) 0)) challenges_list_same blinders_list_same

  pub elements_same : table_elements e n l t ≡ sheet_elements s n l
  elements_same =
      ap₂ (λ (a b : List ℕ). a ++ b) selectors_list_same
      (ap₂ (λ (a b : List ℕ). a ++ b) (tab_ext (witness_in t n) (on_witness s n l) (witness_length n) witness_same)
      (ap₂ (λ (a b : List ℕ). a ++ b) (tab_ext (publics_in t n l) (on_publics s n l) l publics_same)
      (ap₂ (λ (a b : List ℕ). a ++ b) challenges_list_same blinders_list_same)))

  pub labels_list_same : tab (labels_in t n) (labels_length n) ≡ tab (on_labels s n l) (labels_length n)
  labels_list_same = tab_ext (labels_in t n) (on_labels s n l) (labels_length n) labels_same

pub elements_long : (e n l : ℕ) (t : List ℕ) → length (table_elements e n l t) ≡ selectors_length n + witness_length n + l + challenge_count + blinder_count * e
elements_long e n l t =
    simp (length-append, length-tab) (omega arith)

module _ (n : ℕ) (t : List ℕ) where
  selector_word : (s i : ℕ) → s < selector_count → i < n → get_or t (table_place (suc i) s) 0 ≡ get_or (tab (selectors_in t n) (selectors_length n)) (position n s i) 0
  selector_word s i h k =
      let place : table_place (suc i) s ≡ place_in (selectors_block n) (position n s i) =
      omega (arith, position_row n s i k, position-column n s i k) in
      ap (λ (m : ℕ). get_or t m 0) place
      ∙ sym (get_or-tab (selectors_in t n) (selectors_length n) (position n s i) (omega (arith, run_room s selector_count n h)))

  pub unbound-table : (l : ℕ) (labels : List ℕ) → l ≤ n
      → unbound_in t (table_place 1 0) line_words 1 l ≡ unbound_row (lent_constraints n (tab (selectors_in t n) (selectors_length n)) labels) l
  unbound-table l labels few = unbound_same t (table_place 1 0) line_words 1 l (lent_constraints n (tab (selectors_in t n) (selectors_length n)) labels) row
    where
      at : (s i k : ℕ) → s < selector_count → i < l → k ≡ table_place (suc i) s → get_or t k 0 ≡ get_or (tab (selectors_in t n) (selectors_length n)) (position n s i) 0
      at s i k h g e = ap (λ (m : ℕ). get_or t m 0) e ∙ selector_word s i h (omega arith)

      row : (i : ℕ) → i < l
          → is_public_at t 1 (table_place 1 0 + i * line_words) ≡ is_public_row (lent_constraints n (tab (selectors_in t n) (selectors_length n)) labels) i
      row i h =
          rw (
            at 0 i (table_place 1 0 + i * line_words) (omega arith) h (omega arith),
            at 1 i (table_place 1 0 + i * line_words + 1) (omega arith) h (omega arith),
            at 2 i (table_place 1 0 + i * line_words + 2 * 1) (omega arith) h (omega arith),
            at 3 i (table_place 1 0 + i * line_words + 3 * 1) (omega arith) h (omega arith),
            at 4 i (table_place 1 0 + i * line_words + 4 * 1) (omega arith) h (omega arith),
          )
