-- The reasons of `read` in parts, and what is known where none applies.
--
-- lines_bad, lines_extra, lines_right   the reason of the lines behind the first: one is out of form; one is extra; neither
-- front_bad, rest_bad   which line is out of form: one up to the challenges; none of these, so it is looked for behind them
-- blinded_at       whether a line of blinders is there, by where that of the challenges ends
-- table_reasons    the reasons of the numbers, read off the table
-- full_of          the table has room for the lines of the n and l that the reasons leave
-- begun            what reading the lines behind the first asks
-- roomy            the lent buffers have the lengths due, where the reason of the lengths does not apply
--
-- Assumes nothing.
use Rattle.std.specs.Prelude.{◌≡◌, refl, Bool, List, [], ◌∷◌, ℕ, suc, ◌≤◌, ◌<◌, ltb, length}
use Rattle.std.proofs.Common.{sym, ap, ◌∙◌, arith, lt-ltb, le-ltb}
use Rattle.field.specs.Lent.{Shape, lengths_same}
use Rattle.field.specs.Primes.{rows-power}
use Rattle.field.specs.Reasons.{answer_of, bad_lengths}
use Rattle.field.specs.ReasonLaws.{none_applies}
use Rattle.sheet.specs.Sheet.{sheet_rows, plain_lines, lines_due, line_at, is_blinded, sheet_blinded, bad_from, bad_line, line_reasons, sheet_due, sheet_lengths, sheet_numbers}
use Rattle.sheet.specs.Table.{table_length, HeldAll, Full, Begins, Room}
use Rattle.sheet.specs.Deciding.{table_numbers, Opened}
use Rattle.sheet.proofs.LineLaws.{bad_before, bad_behind, second_start, held_none}
use Rattle.sheet.specs.TableLaws.{elements_same, selectors_list_same, labels_list_same}

-- THE LINES BEHIND THE FIRST

module _ (s : List ℕ) (n l bad : ℕ) (is : bad ≡ bad_line s n l) where
  abbrev due : ℕ
  due = lines_due (sheet_blinded s n l) n l

  pub lines_bad : bad < due → record { number = 5; detail = suc bad } ≡ answer_of (line_reasons s n l)
  lines_bad h = rw (lt-ltb (bad_line s n l) due (omega arith)) (ap (λ (d : ℕ). record { number = 5; detail = suc d }) is)

  pub lines_extra : due ≤ bad → line_at s n l due < length s → record { number = 5; detail = suc bad } ≡ answer_of (line_reasons s n l)
  lines_extra h k =
      rw (le-ltb (bad_line s n l) due (omega arith), lt-ltb (line_at s n l due) (length s) k)
      (ap (λ (d : ℕ). record { number = 5; detail = suc d }) is)

  pub lines_right : due ≤ bad → length s ≤ line_at s n l due → record { number = 0; detail = 0 } ≡ answer_of (line_reasons s n l)
  lines_right h k = rw (le-ltb (bad_line s n l) due (omega arith), le-ltb (line_at s n l due) (length s) k)

pub blinded_at : (s : List ℕ) (n l at : ℕ) (b : Bool) → at ≡ line_at s n l (plain_lines n l) → b ≡ ltb at (length s) → b ≡ is_blinded s n l
unfolding is_blinded
blinded_at s n l at b e f = f ∙ ap (λ (k : ℕ). ltb k (length s)) e

module _ (s : List ℕ) (n l bad : ℕ) where
  pub front_bad : bad ≡ bad_from s n l 1 (plain_lines n l) → bad < plain_lines n l → bad ≡ bad_line s n l
  unfolding bad_line
  front_bad e h = e ∙ sym (bad_before s n l 1 (plain_lines n l) (lines_due (sheet_blinded s n l) n l) (omega arith) (omega arith))

  pub rest_bad : bad_from s n l 1 (plain_lines n l) ≡ plain_lines n l → (e : ℕ) → e ≡ sheet_blinded s n l → bad ≡ bad_from s n l (plain_lines n l) (lines_due e n l)
      → bad ≡ bad_line s n l
  unfolding bad_line
  rest_bad none e f is =
      is ∙ ap (λ (e : ℕ). bad_from s n l (plain_lines n l) (lines_due e n l)) f
      ∙ sym (bad_behind s n l 1 (plain_lines n l) (lines_due (sheet_blinded s n l) n l) (omega arith) (omega arith) none)

pub table_reasons : (s : List ℕ) (p n l : ℕ) (t : List ℕ) → Full n l t → HeldAll s n l t
    → answer_of (table_numbers (sheet_blinded s n l) p n l t) ≡ answer_of (sheet_numbers s p n l)
table_reasons s p n l t full held =
    rw (elements_same s n l t full held, selectors_list_same s n l t full held, labels_list_same s n l t full held)

-- WHAT IS KNOWN

pub full_of : {p n l : ℕ} (t : List ℕ) → Shape p n l sheet_rows → length t ≡ table_length → Full n l t
full_of {p} {n} t shape long =
    record {
      some = omega (arith, (rows-power p n shape.admissible.rows).least);
      few = shape.few;
      publics = shape.publics_few;
      long = long;
    }

module _ (s : List ℕ) (p n l at : ℕ) (opened : Opened s p n l at) where
  pub begun : (t : List ℕ) → Shape p n l sheet_rows → length t ≡ table_length → Begins s n l 1 at t
  begun t shape long =
      record {
        full = full_of t shape long;
        short = opened.short;
        behind_first = omega arith;
        starts = opened.starts ∙ second_start s n l;
        within = opened.within;
        held = held_none s n l t;
      }

pub roomy : (s selectors labels witness publics challenges : List ℕ)
    → (answer_of (sheet_lengths s (length selectors) (length labels) (length witness) (length publics) (length challenges) ∷ [])).number ≡ 0
    → Room selectors labels witness publics challenges
roomy s selectors labels witness publics challenges e =
    let long : List ℕ = length s ∷ length selectors ∷ length labels ∷ length witness ∷ length publics ∷ length challenges ∷ [] in
    let same : long ≡ sheet_due (length s) = lengths_same long (sheet_due (length s)) refl (none_applies (bad_lengths long (sheet_due (length s)) ∷ []) (omega arith, tt) e).0 in
    record {
      selectors_long = cc same;
      labels_long = cc same;
      witness_long = cc same;
      publics_long = cc same;
      challenges_long = cc same;
    }
