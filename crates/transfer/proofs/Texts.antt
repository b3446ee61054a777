-- What is printed and written, as it was before request 8 of document 02.
--
-- DEPOSITS
-- TextAsBefore t' t    two texts are the same, or both refuse with 7
-- refused_as_before    of answers as they were before, the lines of their refusals
-- work_as_before       the text of a sheet's numbers, with a witness in either layout
-- text_as_before       the text of a sheet
-- JOINED SHEETS
-- ReadsBack L          what is laid by the layout L is read back
-- wires_on s           the wire values on the sheet s, by positions
-- joined_as_before     the joined sheet, of two sheets that can be joined
--
-- Assumes nothing.
use Rattle.std.specs.Prelude.{◌≡◌, refl, ◌⊎◌, Bool, true, false, cond, length, get_or, take, replicate}
use Rattle.std.proofs.Common.{sym, ap, ap₂, ◌∙◌, inl, inr, true≢false, arith}
use Rattle.std.proofs.Math.Path.{subst}
use mathlib.Core.List.{List, [], ◌∷◌, ◌++◌}
use Rattle.std.proofs.Math.Option.{Option, none, some}
use Prim.Native.Nat.{ℕ, ◌+◌, ◌*◌, ◌≤◌, ◌<◌}
use Rattle.std.proofs.Math.Decide.{ℕ_discrete}
use Rattle.algebra.specs.Ends.{run_room}
use Rattle.algebra.specs.Lists.{tab}
use Rattle.algebra.specs.Tables.{length-tab, get_or-tab, tab_ext}
use Rattle.field.specs.Reasons.{Answer, is_accepted, current_only}
use Rattle.transform.specs.Parts.{laid}
use Rattle.circuit.specs.Circuit.{Layout, position, lent_constraints, lent_public, lent_by, laid_by, by_rows, lent_witness}
use Rattle.circuit.specs.Buffers.{witness_length, transcript_length, work_length}
use Rattle.circuit.specs.Witness.{lent_laid}
use Rattle.protocol.proofs.SameValues.{proved_ext}
use Rattle.text.specs.Text.{line_of, refused_text}
use Rattle.sheet.specs.Sheet.{sheet_p, sheet_n, sheet_l, sheet_blinded, on_position, on_witness_with, blinders_on, first_reasons, line_reasons, new_answer_with, new_answer}
use Rattle.sheet.specs.Written.{circuit_line, witness_line_with, public_line}
use Rattle.sheet.specs.LaidLines.{laid_same}
use Rattle.joining.specs.Joining.{Numbers, source_row, from_row, joined_at, on_sheet_with, joined_numbers_with, joined_text_with, joined_text}
use Rattle.joining.specs.Rows.{Below, source_below, joined_position}
use Rattle.archive.specs.Printed.{proved_text, work_answer_with, work_transcript_with, work_text_with, work_answer, work_transcript, work_text}
use Rattle.archive.specs.Deposit.{deposit_text_with, deposit_text}
use Rattle.transfer.specs.Transfer.{to_rows}
use Rattle.transfer.specs.Columns.{by_columns, columns_read, AsBefore, RefusesElement}
use Rattle.transfer.proofs.AsBefore.{accepted_same}
use Rattle.transfer.proofs.Reasons.{same_values, prove_as_before, read_transferred, numbers_as_before}

-- DEPOSITS

abbrev pub TextAsBefore : List ℕ → List ℕ → Type 0
TextAsBefore text' text = (text' ≡ text) ⊎ (RefusesElement text' × RefusesElement text)

refused_as_before : (a b : Answer) → AsBefore a b → TextAsBefore (refused_text a.number a.detail) (refused_text b.number b.detail)
refused_as_before a b s = go (ℕ_discrete a.number 7)
  where
    go : Dec (a.number ≡ 7) → TextAsBefore (refused_text a.number a.detail) (refused_text b.number b.detail)
    go (yes e) = inr (record { detail = a.detail; is = rw e }, record { detail = b.detail; is = rw (sym s.number ∙ e) })
    go (no h) = inl (ap₂ refused_text s.number (s.detail h))

module _ (e p n l : ℕ) (selectors labels columns publics challenges blinders : List ℕ) (long : length columns ≡ witness_length n) where
  abbrev now : Answer
  now = work_answer e p n l selectors labels (to_rows n columns) publics challenges blinders

  abbrev then : Answer
  then = work_answer_with by_columns e p n l selectors labels columns publics challenges blinders

  answers : AsBefore now then
  unfolding work_answer_with
  answers =
      prove_as_before p n columns long e l selectors labels publics (replicate (transcript_length e n) 0) (take 3 challenges) blinders (replicate (work_length e n) 0)

  transcripts : work_transcript e p n l selectors labels (to_rows n columns) publics challenges blinders ≡ work_transcript_with by_columns e p n l selectors labels columns publics challenges blinders
  transcripts =
      ap₂ (λ b o. cond b o none) (accepted_same answers)
      (proved_ext p n (lent_witness n (to_rows n columns)) (lent_by by_columns n columns) (same_values n columns) (lent_constraints n selectors labels) (lent_public publics) e blinders (get_or challenges 0 0) (get_or challenges 1 0) (get_or challenges 2 0))

  pub work_as_before : TextAsBefore (work_text e p n l selectors labels (to_rows n columns) publics challenges blinders) (work_text_with by_columns e p n l selectors labels columns publics challenges blinders)
  unfolding work_text_with
  work_as_before =
      subst (λ o. TextAsBefore (print now (work_transcript e p n l selectors labels (to_rows n columns) publics challenges blinders)) (print then o)) transcripts (go (work_transcript e p n l selectors labels (to_rows n columns) publics challenges blinders))
    where
      print : Answer → Option (List ℕ) → List ℕ
      print a o =
          elim o [
            | none ↦ refused_text a.number a.detail
            | some T ↦
                proved_text e p n (lent_constraints n selectors labels) (lent_public publics) T (get_or challenges 0 0) (get_or challenges 1 0) (get_or challenges 2 0) (get_or challenges 3 0)
          ]

      go : (o : Option (List ℕ)) → TextAsBefore (print now o) (print then o)
      go none = refused_as_before now then answers
      go (some T) = inl refl

whichever : (b c : Bool) → b ≡ c → {taken' taken refused' refused : List ℕ} → TextAsBefore taken' taken → TextAsBefore refused' refused
    → TextAsBefore (cond b taken' refused') (cond c taken refused)
whichever true true e t r = t
whichever true false e t r = absurd (true≢false e)
whichever false true e t r = absurd (true≢false (sym e))
whichever false false e t r = r

pub text_as_before : (s : List ℕ) → TextAsBefore (deposit_text s) (deposit_text_with by_columns s)
unfolding deposit_text_with
text_as_before s =
    whichever (is_accepted (new_answer s)) (is_accepted (new_answer_with by_columns s)) (accepted_same answers)
    (rw (read_transferred s n l) (work_as_before (sheet_blinded s n l) (sheet_p s) n l _ _ (columns_read s n l) _ _ (blinders_on s n l) (length-tab (on_witness_with by_columns s n l) (witness_length n))))
    (refused_as_before (new_answer s) (new_answer_with by_columns s) answers)
  where
    n : ℕ
    n = sheet_n s

    l : ℕ
    l = sheet_l s

    answers : AsBefore (new_answer s) (new_answer_with by_columns s)
    answers = numbers_as_before s (sheet_p s) n l (current_only (sheet_p s) (first_reasons s ++ line_reasons s n l)) []

-- JOINED SHEETS

abbrev ReadsBack : Layout → Type 0
ReadsBack L = (n : ℕ) (v : ℕ → ℕ) (k : ℕ) → k < 3 * n → lent_by L n (laid_by L n v) k ≡ v k

columns_back : ReadsBack by_columns
unfolding lent_by laid_by by_columns
columns_back n v k h = get_or-tab v (3 * n) k h

abbrev wires_on : List ℕ → ℕ → ℕ
wires_on s = on_position s (sheet_n s) (sheet_l s)

module _ (one two : List ℕ) (same_n : sheet_n one ≡ sheet_n two) (few : sheet_l one ≤ sheet_n one) (few' : sheet_l two ≤ sheet_n one) where
  abbrev n : ℕ
  n = sheet_n one

  abbrev l : ℕ
  l = sheet_l one

  abbrev m : ℕ
  m = sheet_l two

  abbrev J : Layout → Numbers
  J L = joined_numbers_with L (on_sheet_with L one) (on_sheet_with L two)

  -- a line of wire values has those of the row that it comes from, whatever the layout
  contents : (L : Layout) → ReadsBack L → (i : ℕ) → i < 2 * n
      → witness_line_with L (2 * n) (J L).witness i
      ≡ tab (λ c. from_row (λ r. wires_on one (position n c r)) (λ r. wires_on two (position n c r)) (source_row n l m i)) 3
  unfolding laid_by
  contents L back i h =
      tab_ext _ _ 3
      (λ c g.
      back (2 * n) (joined_at n l m (lent one) (lent two)) (position (2 * n) c i) (omega (arith, run_room c 3 (2 * n) g))
      ∙ joined_position n l m (lent one) (lent two) c i h
      ∙ value c g (source_row n l m i) (source_below n l m few few' i h))
    where
      lent : List ℕ → ℕ → ℕ
      lent s = lent_by L n (on_sheet_with L s).witness

      value : (c : ℕ) → c < 3 → (t : ℕ ⊎ ℕ) → Below n t
          → from_row (λ r. lent one (position n c r)) (λ r. lent two (position n c r)) t
          ≡ from_row (λ r. wires_on one (position n c r)) (λ r. wires_on two (position n c r)) t
      value c g (inl r) b = back n (wires_on one) (position n c r) (omega (arith, run_room c 3 n g))
      value c g (inr r) b =
          ap (λ (k : ℕ). lent_by L k (on_sheet_with L two).witness (position n c r)) same_n
          ∙ back (sheet_n two) (wires_on two) (position n c r) (omega (arith, run_room c 3 n g))

  pub joined_as_before : joined_text one two ≡ joined_text_with by_columns one two
  joined_as_before =
      ap (λ (lines : List ℕ). line_of (sheet_p one ∷ (2 * n) ∷ (l + m) ∷ []) ++ (laid (λ i. line_of (circuit_line (2 * n) (J by_rows).selectors (J by_rows).labels i)) (2 * n) ++ (lines ++ (laid (λ i. line_of (public_line (J by_rows).publics i)) (l + m) ++ line_of (J by_rows).challenges))))
      (laid_same _ _ (2 * n) (λ i h. ap line_of (contents by_rows lent_laid i h ∙ sym (contents by_columns columns_back i h))))
