-- What is written is read back: the sheet written from numbers below 2^32, as many as are lent for its n and l, is a sheet in form with no line of
-- blinders, and its reading gives those numbers.
--
-- SheetBack            what is read off the text s
-- sheet_back           THE THEOREM, for the text of the numbers
-- sheet_line           the numbers of line i of that text
-- Admitted             what the reasons ask of the numbers: p and n are admissible on a sheet, selectors and labels are a circuit, elements are below p
-- sheet_taken          a sheet that reads so, of at most 65,536 bytes, is accepted
--
-- Assumes nothing.
use Rattle.std.specs.Prelude.{◌≡◌, Bool, true, false, cond, List, [], ◌∷◌, ◌++◌, eqb, leb, ltb, length}
use Rattle.std.proofs.Math.Path.{refl, ap}
use Rattle.std.proofs.Common.{sym, ap₂, subst, ◌∙◌, mod-lt, div-lt_iff_lt-mul, div-add-mod', get_or-append-add}
use Prim.Native.Nat.{ℕ, zero, suc, ◌+◌, ◌*◌, ◌-◌, ◌/◌, ◌%◌, ◌≤◌, ◌<◌}
use native.Mathlib.Omega.{arith}
use Rattle.std.proofs.Math.ListN.{get_or, get_or-append}
use borrow.Author.Tests.{ne_eqb, le-leb, lt-leb, le-ltb}
use Rattle.algebra.specs.Lists.{tab, All}
use Rattle.algebra.specs.Tables.{length-tab, get_or-tab, tab_ext, tab-get_or, all_append, all_tab}
use Rattle.field.specs.Fields.{is_field, is_rows}
use Rattle.field.specs.ReasonLaws.{elements_none}
use Rattle.transform.specs.Parts.{laid}
use Rattle.circuit.specs.Circuit.{position, witness_place, witness_position, lent_constraints, lent_by, by_rows, lent_witness}
use Rattle.circuit.specs.Buffers.{selector_count, selectors_length, labels_length, witness_length}
use Rattle.circuit.specs.Reasons.{unbound_row}
use Rattle.circuit.specs.Witness.{position_below, place_position}
use Rattle.circuit.specs.RightlyLent.{RightCircuit, selectors-right, labels_right, at_none, bound}
use Rattle.text.specs.Text.{is_line_at, line_of}
use Rattle.sheet.specs.Sheet.{sheet_rows, challenge_count, label_field, fields_due, plain_lines, lines_due, line_at, number_of, sheet_p, sheet_n, sheet_l, is_blinded, bad_line, is_extra, on_selectors, on_labels, on_witness, on_publics, on_challenges, blinders_on, sheet_elements, read_answer}
use Rattle.sheet.specs.Written.{column, circuit_line, witness_line, public_line, sheet_text, Small, Right}
use Rattle.sheet.specs.Due.{picked}
use Rattle.sheet.specs.Fits.{circuit_long}
use Rattle.sheet.specs.LaidLines.{laid_split, laid_same, laid_one, in_form, reads, no_blinders, no_bad, no_extra}

pub record SheetBack (s : List ℕ) (p n l : ℕ) (selectors labels witness publics challenges : List ℕ) : Type 0 where
  pub in_form : is_line_at s 0 3 ≡ true
  pub p_is : sheet_p s ≡ p
  pub n_is : sheet_n s ≡ n
  pub l_is : sheet_l s ≡ l
  pub none_blinded : is_blinded s n l ≡ false
  pub none_bad : bad_line s n l ≡ plain_lines n l
  pub none_extra : is_extra s n l ≡ false
  pub selectors_are : tab (on_selectors s n l) (selectors_length n) ≡ selectors
  pub labels_are : tab (on_labels s n l) (labels_length n) ≡ labels
  pub witness_is : tab (on_witness s n l) (witness_length n) ≡ witness
  pub publics_are : tab (on_publics s n l) l ≡ publics
  pub challenges_are : tab (on_challenges s n l) challenge_count ≡ challenges

-- a word of a list of numbers below 2^32, and 0 behind its end
word_small : (xs : List ℕ) (k : ℕ) → Small xs → get_or xs k 0 < 4294967296
word_small [] k a = omega arith
word_small (x ∷ xs) zero a = a.0
word_small (x ∷ xs) (suc k) a = word_small xs k a.1

length_pick : (b : Bool) (x y : List ℕ) (k m : ℕ) → length x ≡ k → length y ≡ m → length (cond b x y) ≡ cond b k m
length_pick true x y k m p q = p
length_pick false x y k m p q = q

module _ (p n l : ℕ) (selectors labels witness publics challenges : List ℕ) where
  unfoldable pub sheet_line : ℕ → List ℕ
  sheet_line i =
      cond (eqb i 0) (p ∷ n ∷ l ∷ [])
      (cond (leb i n) (circuit_line n selectors labels (i - 1))
      (cond (leb i (n + n)) (witness_line n witness (i - (n + 1)))
      (cond (leb i (n + n + l)) (public_line publics (i - (n + n + 1))) challenges)))

  line_first : sheet_line 0 ≡ p ∷ n ∷ l ∷ []
  unfolding sheet_line
  line_first = refl

  line_circuit : (i row : ℕ) → i ≡ 1 + row → row < n → sheet_line i ≡ circuit_line n selectors labels row
  unfolding sheet_line
  line_circuit i row e h =
      let q : i - 1 ≡ row = omega arith in
      rw (ne_eqb i 0 (λ u. omega arith), le-leb i n (omega arith), q)

  line_witness : (i row : ℕ) → i ≡ n + 1 + row → row < n → sheet_line i ≡ witness_line n witness row
  unfolding sheet_line
  line_witness i row e h =
      let q : i - (n + 1) ≡ row = omega arith in
      rw (ne_eqb i 0 (λ u. omega arith), lt-leb i n (omega arith), le-leb i (n + n) (omega arith), q)

  line_public : (i row : ℕ) → i ≡ n + n + 1 + row → row < l → sheet_line i ≡ public_line publics row
  unfolding sheet_line
  line_public i row e h =
      let q : i - (n + n + 1) ≡ row = omega arith in
      rw (ne_eqb i 0 (λ u. omega arith), lt-leb i n (omega arith), lt-leb i (n + n) (omega arith), le-leb i (n + n + l) (omega arith), q)

  line_last : (i : ℕ) → i ≡ n + n + l + 1 → sheet_line i ≡ challenges
  unfolding sheet_line
  line_last i e =
      rw (ne_eqb i 0 (λ u. omega arith), lt-leb i n (omega arith), lt-leb i (n + n) (omega arith), lt-leb i (n + n + l) (omega arith))

  -- the text is the lines, laid end to end
  text_lines : sheet_text p n l selectors labels witness publics challenges ≡ laid (λ i. line_of (sheet_line i)) (plain_lines n l)
  text_lines =
      let q : plain_lines n l ≡ 1 + (n + (n + (l + 1))) = omega arith in
      sym (ap (laid f) q
      ∙ laid_split f 1 (n + (n + (l + 1)))
      ∙ ap₂ (λ (a b : List ℕ). a ++ b) (laid_one f ∙ ap line_of line_first)
      (laid_split (λ i. f (1 + i)) n (n + (l + 1))
      ∙ ap₂ (λ (a b : List ℕ). a ++ b) (laid_same _ _ n (λ i h. ap line_of (line_circuit (1 + i) i refl h)))
      (laid_split (λ i. f (1 + (n + i))) n (l + 1)
      ∙ ap₂ (λ (a b : List ℕ). a ++ b) (laid_same _ _ n (λ i h. ap line_of (line_witness (1 + (n + i)) i (omega arith) h)))
      (laid_split (λ i. f (1 + (n + (n + i)))) l 1
      ∙ ap₂ (λ (a b : List ℕ). a ++ b) (laid_same _ _ l (λ i h. ap line_of (line_public (1 + (n + (n + i))) i (omega arith) h)))
      (laid_one (λ i. f (1 + (n + (n + (l + i))))) ∙ ap line_of (line_last (1 + (n + (n + (l + 0)))) (omega arith)))))))
    where
      f : ℕ → List ℕ
      f i = line_of (sheet_line i)

  module _ (right : Right p n l selectors labels witness publics challenges) where
    line_small : (i : ℕ) → Small (sheet_line i)
    unfolding sheet_line lent_by by_rows
    line_small i =
        picked Small (eqb i 0) right.first_small
        (picked Small (leb i n)
        (all_append (λ (x : ℕ). x < 4294967296) (tab (column n selectors (i - 1)) selector_count) (tab (column n labels (i - 1)) 3)
        (all_tab (λ (x : ℕ). x < 4294967296) (column n selectors (i - 1)) selector_count (λ c h. word_small selectors (c * n + (i - 1)) right.selectors_small))
        (all_tab (λ (x : ℕ). x < 4294967296) (column n labels (i - 1)) 3 (λ c h. word_small labels (c * n + (i - 1)) right.labels_small)))
        (picked Small (leb i (n + n))
        (all_tab (λ (x : ℕ). x < 4294967296) _ 3 (λ c h. word_small witness (witness_place n (position n c (i - (n + 1)))) right.witness_small))
        (picked Small (leb i (n + n + l)) (word_small publics (i - (n + n + 1)) right.publics_small, tt) right.challenges_small)))

    line_long : (i : ℕ) → i < plain_lines n l → length (sheet_line i) ≡ fields_due n l i
    unfolding sheet_line fields_due
    line_long i h =
        rw (le-leb i (n + n + l + 1) (omega arith))
        (length_pick (eqb i 0) _ _ _ _ refl
        (length_pick (leb i n) _ _ _ _ (circuit_long n selectors labels (i - 1))
        (length_pick (leb i (n + n)) _ _ _ _ (length-tab _ 3)
        (length_pick (leb i (n + n + l)) _ _ _ _ refl right.challenges_long))))

    -- number j of line i, in the text as lines
    abbrev lines : List ℕ
    lines = laid (λ i. line_of (sheet_line i)) (plain_lines n l)

    number : (i j : ℕ) (vs : List ℕ) → i < plain_lines n l → sheet_line i ≡ vs → j < length vs → number_of lines n l i j ≡ get_or vs j 0
    number i j vs h e g =
        reads n l (plain_lines n l) sheet_line line_small line_long i j h (omega (arith, line_long i h, ap length e))
        ∙ ap (λ (xs : List ℕ). get_or xs j 0) e

    back_column : (xs : List ℕ) (k : ℕ) → column n xs (k % n) (k / n) ≡ get_or xs k 0
    back_column xs k = ap (λ (m : ℕ). get_or xs m 0) (div-add-mod' k n)

    rows : (k c : ℕ) → k < c * n → 0 < n
    rows k c h = go n h
      where
        go : (n : ℕ) → k < c * n → 0 < n
        go zero h = absurd (omega arith)
        go (suc n) h = omega arith

    row : (k c : ℕ) → k < c * n → k % n < n
    row k c h = mod-lt k (rows k c h)

    col : (k c : ℕ) → k < c * n → k / n < c
    col k c h = (div-lt_iff_lt-mul {x = k} {y = c} (rows k c h)).1 h

    selectors_back : (k : ℕ) → k < selectors_length n → on_selectors lines n l k ≡ get_or selectors k 0
    selectors_back k h =
        let a = row k selector_count h in
        let b = col k selector_count h in
        number (suc (k % n)) (k / n) (circuit_line n selectors labels (k % n)) (omega arith) (line_circuit (suc (k % n)) (k % n) (omega arith) a) (omega (arith, circuit_long n selectors labels (k % n)))
        ∙ get_or-append (tab (column n selectors (k % n)) selector_count) (tab (column n labels (k % n)) 3) 0 (k / n) (omega (arith, length-tab (column n selectors (k % n)) selector_count))
        ∙ get_or-tab (column n selectors (k % n)) selector_count (k / n) b
        ∙ back_column selectors k

    labels_back : (k : ℕ) → k < labels_length n → on_labels lines n l k ≡ get_or labels k 0
    labels_back k h =
        let a = row k 3 h in
        let b = col k 3 h in
        number (suc (k % n)) (label_field + k / n) (circuit_line n selectors labels (k % n)) (omega arith) (line_circuit (suc (k % n)) (k % n) (omega arith) a) (omega (arith, circuit_long n selectors labels (k % n)))
        ∙ ap (λ (m : ℕ). get_or (circuit_line n selectors labels (k % n)) (m + k / n) 0) (sym (length-tab (column n selectors (k % n)) selector_count))
        ∙ get_or-append-add (tab (column n selectors (k % n)) selector_count) (tab (column n labels (k % n)) 3) (k / n) 0
        ∙ get_or-tab (column n labels (k % n)) 3 (k / n) b
        ∙ back_column labels k

    -- the position k at place j: its column and row are those of a line, and its wire value stands at place j again
    witness_back : (j : ℕ) → j < witness_length n → on_witness lines n l j ≡ get_or witness j 0
    unfolding lent_by by_rows
    witness_back j h =
        let k : ℕ = witness_position n j in
        let below : k < 3 * n = position_below n j h in
        let a = row k 3 below in
        let b = col k 3 below in
        number (n + suc (k % n)) (k / n) (witness_line n witness (k % n)) (omega arith) (line_witness (n + suc (k % n)) (k % n) (omega arith) a) (omega (arith, length-tab (λ c. lent_witness n witness (position n c (k % n))) 3))
        ∙ get_or-tab (λ c. lent_witness n witness (position n c (k % n))) 3 (k / n) b
        ∙ ap (lent_witness n witness) (div-add-mod' k n)
        ∙ ap (λ (m : ℕ). get_or witness m 0) (place_position n j h)

    publics_back : (k : ℕ) → k < l → on_publics lines n l k ≡ get_or publics k 0
    publics_back k h =
        number (n + n + suc k) 0 (public_line publics k) (omega arith) (line_public (n + n + suc k) k (omega arith) h) (omega arith)

    challenges_back : (k : ℕ) → k < challenge_count → on_challenges lines n l k ≡ get_or challenges k 0
    challenges_back k h =
        number (n + n + l + 1) k challenges (omega arith) (line_last (n + n + l + 1) refl) (omega (arith, right.challenges_long))

    list_back : (f : ℕ → ℕ) (xs : List ℕ) (m : ℕ) → length xs ≡ m → ((k : ℕ) → k < m → f k ≡ get_or xs k 0) → tab f m ≡ xs
    list_back f xs m e h = tab_ext f (λ k. get_or xs k 0) m h ∙ ap (tab (λ k. get_or xs k 0)) (sym e) ∙ tab-get_or xs

    first_line : is_line_at lines 0 3 ≡ true
    unfolding line_at fields_due
    first_line = in_form n l (plain_lines n l) sheet_line line_small line_long 0 (omega arith)

    first_word : (j : ℕ) → j < 3 → number_of lines n l 0 j ≡ get_or (p ∷ n ∷ l ∷ []) j 0
    first_word j h = number 0 j (p ∷ n ∷ l ∷ []) (omega arith) line_first (omega arith)

    of_lines : SheetBack lines p n l selectors labels witness publics challenges
    unfolding line_at number_of
    of_lines =
        record {
          in_form = first_line;
          p_is = first_word 0 (omega arith);
          n_is = first_word 1 (omega arith);
          l_is = first_word 2 (omega arith);
          none_blinded = no_blinders n l (plain_lines n l) sheet_line line_small line_long refl;
          none_bad = no_bad n l (plain_lines n l) sheet_line line_small line_long refl;
          none_extra = no_extra n l (plain_lines n l) sheet_line line_small line_long refl;
          selectors_are = list_back (on_selectors lines n l) selectors (selectors_length n) right.selectors_long selectors_back;
          labels_are = list_back (on_labels lines n l) labels (labels_length n) right.labels_long labels_back;
          witness_is = list_back (on_witness lines n l) witness (witness_length n) right.witness_long witness_back;
          publics_are = list_back (on_publics lines n l) publics l right.publics_long publics_back;
          challenges_are = list_back (on_challenges lines n l) challenges challenge_count right.challenges_long challenges_back;
        }

    pub sheet_back : SheetBack (sheet_text p n l selectors labels witness publics challenges) p n l selectors labels witness publics challenges
    sheet_back = subst (λ (s : List ℕ). SheetBack s p n l selectors labels witness publics challenges) (sym text_lines) of_lines

-- TAKEN

pub record Admitted (s : List ℕ) (p n l : ℕ) (selectors labels witness publics challenges : List ℕ) : Type 0 where
  pub short : length s ≤ 65536
  pub one_of_three : is_field p ≡ true
  pub rows : is_rows p n ≡ true
  pub few : n ≤ sheet_rows
  pub circuit-right : RightCircuit p n l selectors labels
  pub witness_below : All (λ (x : ℕ). x < p) witness
  pub publics_below : All (λ (x : ℕ). x < p) publics
  pub challenges_below : All (λ (x : ℕ). x < p) challenges

module _ (s : List ℕ) (p n l : ℕ) (selectors labels witness publics challenges : List ℕ) (back : SheetBack s p n l selectors labels witness publics challenges)
    (taken : Admitted s p n l selectors labels witness publics challenges) where
  no_blinding : blinders_on s n l ≡ []
  unfolding tab
  no_blinding = rw back.none_blinded

  lent_labels_below : All (λ (x : ℕ). x < 3 * n) (tab (on_labels s n l) (labels_length n))
  lent_labels_below = rw back.labels_are (labels_right taken.circuit-right).below

  none_unbound : ltb (unbound_row (lent_constraints n (tab (on_selectors s n l) (selectors_length n)) (tab (on_labels s n l) (labels_length n))) l) l ≡ false
  none_unbound = rw (back.selectors_are, back.labels_are) (at_none (bound taken.circuit-right.circuit))

  pub sheet_taken : read_answer s ≡ record { number = 0; detail = 0 }
  sheet_taken =
      rw (back.p_is, back.n_is, back.l_is)
      (rw (
        le-ltb 65536 (length s) taken.short,
        back.in_form,
        taken.one_of_three,
        taken.rows,
        le-ltb sheet_rows n taken.few,
        le-ltb n l taken.circuit-right.circuit.publics_few,
        back.none_bad,
        back.none_extra,
        elements_none p (sheet_elements s n l) elements_below,
        elements_none (3 * n) (tab (on_labels s n l) (labels_length n)) lent_labels_below,
        none_unbound,
        back.none_blinded,
        le-ltb (plain_lines n l) (lines_due 0 n l) (omega arith),
      ))
    where
      elements_below : All (λ (x : ℕ). x < p) (sheet_elements s n l)
      elements_below =
          rw (back.selectors_are, back.witness_is, back.publics_are, back.challenges_are, no_blinding)
          (all_append (λ (x : ℕ). x < p) selectors (witness ++ (publics ++ (challenges ++ []))) (selectors-right taken.circuit-right).below
          (all_append (λ (x : ℕ). x < p) witness (publics ++ (challenges ++ [])) taken.witness_below
          (all_append (λ (x : ℕ). x < p) publics (challenges ++ []) taken.publics_below (all_append (λ (x : ℕ). x < p) challenges [] taken.challenges_below tt))))
