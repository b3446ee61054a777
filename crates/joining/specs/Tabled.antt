-- The tables of two sheets hold the lines of the joined sheet.
--
-- OF ONE SHEET s, WITH A TABLE t THAT HOLDS ITS LINES
-- gate_line, contents_line, public_line_lem, challenges_line   the lines of the table are the numbers of the sheet, its labels raised
-- label_few          its labels are below 3n
-- OF TWO SHEETS THAT CAN BE JOINED
-- tables             the tables are what the functions ask
-- table_text_lem     the text that is put from the tables is the joined sheet
-- found_tables, found_text   both, by the numbers p, n, l and m of a pair that was decided
--
-- Assumes nothing.
use Rattle.std.specs.Prelude.{◌≡◌, ◌⊎◌, List, [], ◌∷◌, ◌++◌, ℕ, suc, ◌+◌, ◌*◌, ◌-◌, ◌≤◌, ◌<◌, length, get_or}
use Rattle.std.proofs.Common.{sym, ap₂, ◌∙◌, inl, inr, append_assoc, zero-add, mod-eq_of_lt, div-one, arith, get_or-append-add, lt-ltb, le-ltb}
use Rattle.std.proofs.Math.Path.{ap}
use Rattle.std.proofs.Math.Nat.{div-eq_of_lt, mod-one}
use Rattle.std.proofs.Math.ListN.{get_or-append}
use Rattle.algebra.specs.Ends.{run_room}
use Rattle.algebra.specs.Lists.{tab}
use Rattle.algebra.specs.Tables.{get_or-tab, tab_ext, tab-add}
use Rattle.field.specs.Primes.{rows-power}
use Rattle.transform.specs.Parts.{laid}
use Rattle.circuit.specs.Circuit.{position, lent_witness}
use Rattle.circuit.specs.Buffers.{selector_count, selectors_length, labels_length}
use Rattle.circuit.specs.Positions.{position-column, position_row}
use Rattle.circuit.specs.Witness.{lent_laid}
use Rattle.text.specs.Text.{line_of}
use Rattle.sheet.specs.Sheet.{challenge_count, label_field, gate_fields, sheet_p, sheet_n, sheet_l, on_selectors, on_labels, on_publics, on_challenges}
use Rattle.sheet.specs.Due.{due_witness}
use Rattle.sheet.specs.Table.{table_length, table_place, column_block, publics_block, challenges_block, place_in, in_table, Full, HeldAll}
use Rattle.sheet.specs.TableLaws.{on_position_lem, selectors_same, labels_same, publics_same, challenges_same}
use Rattle.sheet.specs.LaidLines.{laid_split, laid_same}
use Rattle.sheet.specs.Written.{circuit_line, witness_line, public_line}
use Rattle.joining.specs.declared.reasons.Pair.{Pair}
use Rattle.joining.specs.Joining.{Numbers, on_sheet, source_row, from_row, joined_numbers, joined_text}
use Rattle.joining.specs.Rows.{Below, source_below, joined_position, joined_word}
use Rattle.joining.specs.Lines.{number_in, line_in, row_in, Tables, public_in, table_text}
use Rattle.joining.specs.Deciding.{Filled, Joinable, Known}

-- a number before the field of the labels, and one from there on
unraised : (raise : ℕ) (t : List ℕ) (i j : ℕ) → j < label_field → number_in raise t i j ≡ get_or t (table_place i j) 0
unraised raise t i j h = rw (lt-ltb j label_field h)

raised : (raise : ℕ) (t : List ℕ) (i j : ℕ) → number_in raise t i (label_field + j) ≡ raise + get_or t (table_place i (label_field + j)) 0
raised raise t i j = rw (le-ltb (label_field + j) label_field (omega arith))

-- OF ONE SHEET

module _ (s t : List ℕ) (full : Full (sheet_n s) (sheet_l s) t) (held : HeldAll s (sheet_n s) (sheet_l s) t) where
  abbrev n : ℕ
  n = sheet_n s

  abbrev l : ℕ
  l = sheet_l s

  -- the word of a block that is lent column after column, from this line and this field on
  word : (line field count c i place : ℕ) → i < n → place ≡ table_place (line + i) (field + c)
      → get_or t place 0 ≡ in_table t (column_block n line field count) (position n c i)
  word line field count c i place h e = ap (λ (k : ℕ). get_or t k 0) (omega (arith, position_row n c i h, position-column n c i h))

  selector_word : (c i : ℕ) → c < selector_count → i < n → get_or t (table_place (1 + i) c) 0 ≡ get_or (on_sheet s).selectors (position n c i) 0
  selector_word c i h k =
      let room : position n c i < selectors_length n = omega (arith, run_room c selector_count n h) in
      word 1 0 (selectors_length n) c i (table_place (1 + i) c) k (omega arith) ∙ selectors_same s n l t full held (position n c i) room
      ∙ sym (get_or-tab (on_selectors s n l) (selectors_length n) (position n c i) room)

  label_word : (c i : ℕ) → c < 3 → i < n → get_or t (table_place (1 + i) (label_field + c)) 0 ≡ get_or (on_sheet s).labels (position n c i) 0
  label_word c i h k =
      let room : position n c i < labels_length n = omega (arith, run_room c 3 n h) in
      word 1 label_field (labels_length n) c i (table_place (1 + i) (label_field + c)) k (omega arith) ∙ labels_same s n l t full held (position n c i) room
      ∙ sym (get_or-tab (on_labels s n l) (labels_length n) (position n c i) room)

  wire_word : (c i : ℕ) → c < 3 → i < n → get_or t (table_place (n + 1 + i) c) 0 ≡ lent_witness n (on_sheet s).witness (position n c i)
  wire_word c i h k =
      let place : table_place (n + 1 + i) c ≡ table_place (n + suc i) c = omega arith in
      ap (λ (m : ℕ). get_or t m 0) place
      ∙ held.number (n + suc i) c (omega arith) (omega arith) (omega (arith, due_witness n l (n + suc i) (omega arith) (omega arith)))
      ∙ sym (on_position_lem s n l c i h k)

  public_word : (k : ℕ) → k < l → get_or t (table_place (n + n + 1 + k) 0) 0 ≡ get_or (on_sheet s).publics k 0
  public_word k h =
      let place : table_place (n + n + 1 + k) 0 ≡ place_in (publics_block n l) k = omega (arith, mod-one k, div-one k) in
      ap (λ (m : ℕ). get_or t m 0) place ∙ publics_same s n l t full held k h ∙ sym (get_or-tab (on_publics s n l) l k h)

  challenge_word : (k : ℕ) → k < challenge_count → get_or t (table_place (n + n + l + 1) k) 0 ≡ on_challenges s n l k
  challenge_word k h =
      let place : table_place (n + n + l + 1) k ≡ place_in (challenges_block n l) k = omega (arith, mod-eq_of_lt h, div-eq_of_lt h) in
      ap (λ (m : ℕ). get_or t m 0) place ∙ challenges_same s n l t full held k h

  -- THE LINES

  pub gate_line : (raise i : ℕ) → i < n
      → line_in raise t (1 + i) gate_fields
      ≡ tab (λ c. get_or (on_sheet s).selectors (position n c i) 0) selector_count ++ tab (λ c. raise + get_or (on_sheet s).labels (position n c i) 0) 3
  gate_line raise i h =
      tab-add (number_in raise t (1 + i)) label_field 3
      ∙ ap₂ (λ (a b : List ℕ). a ++ b)
      (tab_ext _ _ selector_count (λ c g. unraised raise t (1 + i) c g ∙ selector_word c i g h))
      (tab_ext _ _ 3 (λ c g. raised raise t (1 + i) c ∙ ap (λ (a : ℕ). raise + a) (label_word c i g h)))

  pub contents_line : (raise i : ℕ) → i < n → line_in raise t (n + 1 + i) 3 ≡ tab (λ c. lent_witness n (on_sheet s).witness (position n c i)) 3
  contents_line raise i h = tab_ext _ _ 3 (λ c g. unraised raise t (n + 1 + i) c (omega arith) ∙ wire_word c i g h)

  pub public_line_lem : (k : ℕ) → k < l → public_in n t k ≡ public_line (on_sheet s).publics k
  unfolding tab
  public_line_lem k h = ap (λ (a : ℕ). a ∷ []) (public_word k h)

  pub challenges_line : line_in 0 t (n + n + l + 1) challenge_count ≡ (on_sheet s).challenges
  challenges_line = tab_ext _ _ challenge_count (λ k h. unraised 0 t (n + n + l + 1) k (omega arith) ∙ challenge_word k h)

  pub label_few : Filled (on_sheet s) → (i j : ℕ) → i < n → label_field ≤ j → j < gate_fields → get_or t (table_place (1 + i) j) 0 < 3 * n
  label_few F i j h f g =
      let c : ℕ = j - label_field in
      let q : j ≡ label_field + c = omega arith in
      rw (q, label_word c i (omega arith) h) (F.circuit-right.circuit.labels (position n c i) (omega (arith, run_room c 3 n (omega arith))))

-- OF TWO SHEETS

module _ (one two : List ℕ) (joinable : Joinable (on_sheet one) (on_sheet two)) (t u : List ℕ) (one_long : length t ≡ table_length) (two_long : length u ≡ table_length)
    (one_held : HeldAll one (sheet_n one) (sheet_l one) t) (two_held : HeldAll two (sheet_n two) (sheet_l two) u) where
  abbrev rows : ℕ
  rows = sheet_n one

  abbrev ones : ℕ
  ones = sheet_l one

  abbrev twos : ℕ
  twos = sheet_l two

  some : 0 < rows
  some = omega (arith, (rows-power (sheet_p one) (2 * rows) joinable.admissible.rows).least)

  one_few : ones ≤ rows
  one_few = joinable.one.circuit-right.circuit.publics_few

  two_few : twos ≤ rows
  two_few = omega (arith, joinable.two.circuit-right.circuit.publics_few, joinable.same_n)

  one_full : Full rows ones t
  one_full = record { some = some; few = omega (arith, joinable.few); publics = one_few; long = one_long }

  two_full : Full (sheet_n two) twos u
  two_full =
      record {
        some = omega (arith, some, joinable.same_n);
        few = omega (arith, joinable.few, joinable.same_n);
        publics = omega (arith, two_few, joinable.same_n);
        long = two_long;
      }

  pub tables : Tables rows ones twos t u
  tables =
      record {
        few = joinable.few;
        one_few = one_few;
        two_few = two_few;
        one_long = one_long;
        two_long = two_long;
        one_labels = label_few one t one_full one_held joinable.one;
        two_labels = rw joinable.same_n (label_few two u two_full two_held joinable.two);
      }

  abbrev J : Numbers
  J = joined_numbers (on_sheet one) (on_sheet two)

  -- the lines of the second sheet, by the n of the first
  two_gate : (i : ℕ) → i < rows
      → line_in (3 * rows) u (1 + i) gate_fields
      ≡ tab (λ c. get_or (on_sheet two).selectors (position rows c i) 0) selector_count ++ tab (λ c. 3 * rows + get_or (on_sheet two).labels (position rows c i) 0) 3
  two_gate i h =
      gate_line two u two_full two_held (3 * rows) i (omega (arith, joinable.same_n))
      ∙ ap (λ (n : ℕ). tab (λ c. get_or (on_sheet two).selectors (position n c i) 0) selector_count ++ tab (λ c. 3 * rows + get_or (on_sheet two).labels (position n c i) 0) 3) (sym joinable.same_n)

  two_contents : (i : ℕ) → i < rows → line_in (3 * rows) u (rows + 1 + i) 3 ≡ tab (λ c. lent_witness rows (on_sheet two).witness (position rows c i)) 3
  two_contents i h =
      ap (λ (n : ℕ). line_in (3 * rows) u (n + 1 + i) 3) joinable.same_n
      ∙ contents_line two u two_full two_held (3 * rows) i (omega (arith, joinable.same_n))
      ∙ ap (λ (n : ℕ). tab (λ c. lent_witness n (on_sheet two).witness (position n c i)) 3) (sym joinable.same_n)

  two_public_lem : (i : ℕ) → i < twos → public_in rows u i ≡ public_line (on_sheet two).publics i
  two_public_lem i h = ap (λ (n : ℕ). public_in n u i) joinable.same_n ∙ public_line_lem two u two_full two_held i h

  -- the lines of the joined sheet, by the row that each comes from
  gate_same : (i : ℕ) → i < 2 * rows → row_in rows ones twos 1 gate_fields t u i ≡ circuit_line (2 * rows) J.selectors J.labels i
  gate_same i h =
      go (source_row rows ones twos i) (source_below rows ones twos one_few two_few i h)
      ∙ sym (ap₂ (λ (a b : List ℕ). a ++ b)
      (tab_ext _ _ selector_count (λ c g. joined_word rows ones twos selector_count (λ k. get_or (on_sheet one).selectors k 0) (λ k. get_or (on_sheet two).selectors k 0) c i g h))
      (tab_ext _ _ 3 (λ c g. joined_word rows ones twos 3 (λ k. get_or (on_sheet one).labels k 0) (λ k. 3 * rows + get_or (on_sheet two).labels k 0) c i g h)))
    where
      go : (s : ℕ ⊎ ℕ) → Below rows s
          → from_row (λ r. line_in 0 t (1 + r) gate_fields) (λ r. line_in (3 * rows) u (1 + r) gate_fields) s
          ≡ tab (λ c. from_row (λ r. get_or (on_sheet one).selectors (position rows c r) 0) (λ r. get_or (on_sheet two).selectors (position rows c r) 0) s) selector_count
          ++ tab (λ c. from_row (λ r. get_or (on_sheet one).labels (position rows c r) 0) (λ r. 3 * rows + get_or (on_sheet two).labels (position rows c r) 0) s) 3
      go (inl r) b = gate_line one t one_full one_held 0 r b ∙ simp zero-add
      go (inr r) b = two_gate r b

  contents_same : (i : ℕ) → i < 2 * rows → row_in rows ones twos (rows + 1) 3 t u i ≡ witness_line (2 * rows) J.witness i
  contents_same i h =
      go (source_row rows ones twos i) (source_below rows ones twos one_few two_few i h)
      ∙ sym (tab_ext _ _ 3 (λ c g.
      lent_laid (2 * rows) _ (position (2 * rows) c i) (omega (arith, run_room c 3 (2 * rows) g))
      ∙ joined_position rows ones twos (lent_witness rows (on_sheet one).witness) (lent_witness rows (on_sheet two).witness) c i h))
    where
      go : (s : ℕ ⊎ ℕ) → Below rows s
          → from_row (λ r. line_in 0 t (rows + 1 + r) 3) (λ r. line_in (3 * rows) u (rows + 1 + r) 3) s
          ≡ tab (λ c. from_row (λ r. lent_witness rows (on_sheet one).witness (position rows c r)) (λ r. lent_witness rows (on_sheet two).witness (position rows c r)) s) 3
      go (inl r) b = contents_line one t one_full one_held 0 r b
      go (inr r) b = two_contents r b

  publics_same_lines : laid (λ i. line_of (public_in rows t i)) ones ++ laid (λ i. line_of (public_in rows u i)) twos
      ≡ laid (λ i. line_of (public_line J.publics i)) (ones + twos)
  publics_same_lines =
      sym (laid_split (λ i. line_of (public_line J.publics i)) ones twos
      ∙ ap₂ (λ (a b : List ℕ). a ++ b)
      (laid_same _ _ ones (λ i h. ap line_of (ap (λ (a : ℕ). a ∷ []) (get_or-append (on_sheet one).publics (on_sheet two).publics 0 i (omega (arith, joinable.one.publics-right.long))) ∙ sym (public_line_lem one t one_full one_held i h))))
      (laid_same _ _ twos (λ i h. ap line_of (ap (λ (a : ℕ). a ∷ []) (behind i) ∙ sym (two_public_lem i h)))))
    where
      behind : (i : ℕ) → get_or J.publics (ones + i) 0 ≡ get_or (on_sheet two).publics i 0
      behind i =
          ap (λ (k : ℕ). get_or J.publics (k + i) 0) (sym joinable.one.publics-right.long) ∙ get_or-append-add (on_sheet one).publics (on_sheet two).publics i 0

  pub table_text_lem : table_text (sheet_p one) rows ones twos t u ≡ joined_text one two
  table_text_lem =
      ap (λ (a : List ℕ). line_of (sheet_p one ∷ (2 * rows) ∷ (ones + twos) ∷ []) ++ a)
      (ap₂ (λ (a b : List ℕ). a ++ b) (laid_same _ _ (2 * rows) (λ i h. ap line_of (gate_same i h)))
      (ap₂ (λ (a b : List ℕ). a ++ b) (laid_same _ _ (2 * rows) (λ i h. ap line_of (contents_same i h)))
      (sym (append_assoc (laid (λ i. line_of (public_in rows t i)) ones) (laid (λ i. line_of (public_in rows u i)) twos) _)
      ∙ ap₂ (λ (a b : List ℕ). a ++ b) publics_same_lines (ap line_of (challenges_line one t one_full one_held)))))

-- THE SAME, BY THE NUMBERS THAT WERE FOUND

module _ (one two : List ℕ) (joinable : Joinable (on_sheet one) (on_sheet two)) (r : Pair) (t u : List ℕ) (known : Known one two r t u) (one_long : length t ≡ table_length)
    (two_long : length u ≡ table_length) where
  pub found_tables : Tables r.n r.l r.m t u
  found_tables = rw (known.n_is, known.l_is, known.m_is) (tables one two joinable t u one_long two_long known.one_held known.two_held)

  pub found_text : table_text r.p r.n r.l r.m t u ≡ joined_text one two
  found_text =
      rw (known.p_is, known.n_is, known.l_is, known.m_is) (table_text_lem one two joinable t u one_long two_long known.one_held known.two_held)
