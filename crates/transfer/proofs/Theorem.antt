-- The theorems that specs/Theorem lists, with their proofs.
-- Assumes nothing.
use Rattle.std.specs.Prelude.{◌≡◌, refl, ◌⊎◌, Bool, cond, length, get_or, Option, Some, None}
use Rattle.std.specs.Option.{unwrap_or}
use Rattle.std.proofs.Common.{sym, ap, ap₂, ◌∙◌, inl, inr, arith, eqb-true}
use Rattle.std.proofs.Math.Bool.{true, false}
use mathlib.Core.List.{List, [], ◌∷◌, ◌++◌}
use Rattle.std.proofs.Math.Option.{some}
use Prim.Native.Nat.{ℕ, ◌-◌, ◌≤◌}
use Rattle.std.proofs.Math.ListN.{take, drop, replicate}
use Rattle.std.proofs.Math.Seq.{take_at, drop_at}
use Rattle.algebra.specs.Lists.{tab}
use Rattle.algebra.specs.Tables.{length-tab}
use Rattle.field.specs.Reasons.{Outcome, given, Answer, Reason, is_accepted, bad_lengths, lent_reasons, current_only}
use Rattle.circuit.specs.Circuit.{Constraints, lent_constraints, lent_public, lent_by, laid_by, lent_witness}
use Rattle.circuit.specs.Buffers.{witness_length, work_length}
use Rattle.circuit.specs.Reasons.{circuit_reasons, rows_due}
use Rattle.protocol.proofs.SameValues.{verdict_ext, proved_ext, lost_ext}
use Rattle.rowcheck.specs.declared.Verdict.{Verdict}
use Rattle.rowcheck.specs.Promises.{verdict_of, lent_z, ChecksRows}
use Rattle.prover.specs.Promises.{Proves}
use Rattle.losses.specs.Losses.{lost_due, LosesGammas}
use Rattle.sheet.specs.declared.Sheet.{Sheet}
use Rattle.sheet.specs.Sheet.{sheet_of, sheet_rows, sheet_p, sheet_n, sheet_l, on_witness_with, on_witness, padded, first_reasons, line_reasons, sheet_lengths, new_reasons_with, new_reasons}
use Rattle.sheet.specs.Promises.{Reads}
use Rattle.joining.specs.Joining.{joined_text_with, joined_text, joined_length, join_due, pair_reasons, Joins}
use Rattle.joining.specs.Deciding.{joinable_of}
use Rattle.archive.specs.Printed.{text_length}
use Rattle.archive.specs.Deposit.{deposit_text_with, deposit_text, Deposits}
use Rattle.transfer.specs.Transfer.{to_rows}
use Rattle.transfer.specs.Columns.{by_columns, ChecksRowsByColumns, ProvesByColumns, LosesGammasByColumns, columns_read, ReadsByColumns, DepositsByColumns, JoinsByColumns, AsBefore, RefusesElement}
use Rattle.transfer.proofs.AsBefore.{accepted_same, as_then, as_transferred}
use Rattle.transfer.proofs.Reasons.{same_values, same_long, prove_as_before, read_transferred, numbers_as_before}
use Rattle.transfer.proofs.Texts.{TextAsBefore, text_as_before, joined_as_before}
use Rattle.transfer.specs.Theorem.{rows_given, RowsAsBefore, ProofAsBefore, CountAsBefore, ReadAsBefore, DepositAsBefore, JoinAsBefore}

-- CALLS THAT ARE LENT A WITNESS

module _ (p n : ℕ) (columns : List ℕ) (long : length columns ≡ witness_length n) where
  abbrev rows : List ℕ
  rows = to_rows n columns

  module _ (l : ℕ) (selectors labels publics challenges : List ℕ) where
    abbrev C : Constraints
    C = lent_constraints n selectors labels

    abbrev beta : ℕ
    beta = get_or challenges 0 0

    abbrev gamma : ℕ
    gamma = get_or challenges 1 0

    pub rows_as_before : (z : List ℕ) (r' r : Outcome Verdict)
        → ChecksRows p n l selectors labels (to_rows n columns) publics z challenges r' → ChecksRowsByColumns p n l selectors labels columns publics z challenges r
        → RowsAsBefore r' r
    rows_as_before z r' r new old =
        record {
          answer = answers;
          verdict =
              new.verdict
              ∙ ap₂ (λ b v. cond b (Some (verdict_of v)) None) (accepted_same answers)
              (verdict_ext p n (lent_witness n rows) (lent_by by_columns n columns) (same_values n columns) C (lent_public publics) beta gamma (lent_z z) (lent_z z) (λ i h. refl))
              ∙ sym old.verdict;
        }
      where
        answers : AsBefore r'.answer r.answer
        answers =
            rw (new.answer, old.answer, same_long p n columns long)
            (as_transferred p n columns long selectors (publics ++ (z ++ challenges))
            (lent_reasons p n l (length selectors ∷ length labels ∷ length columns ∷ length publics ∷ length z ∷ length challenges ∷ []) (rows_due n l))
            (circuit_reasons n l selectors labels))

    pub proof_as_before : (e : ℕ) (transcript blinders scratch : List ℕ) (r' : Answer) (transcript' scratch' : List ℕ) (r : Answer) (transcript'' scratch'' : List ℕ)
        → Proves e p n l selectors labels (to_rows n columns) publics transcript challenges blinders scratch r' transcript' scratch'
        → ProvesByColumns e p n l selectors labels columns publics transcript challenges blinders scratch r transcript'' scratch''
        → ProofAsBefore r' transcript' scratch' r transcript'' scratch''
    proof_as_before e transcript blinders scratch r' transcript' scratch' r transcript'' scratch'' new old =
        record {
          answer = answers;
          laid = cc laid;
          cleared = new.cleared ∙ ap (λ b. cond b (replicate (work_length e n) 0) scratch) (accepted_same answers) ∙ sym old.cleared;
        }
      where
        answers : AsBefore r' r
        answers = rw (new.answer, old.answer) (prove_as_before p n columns long e l selectors labels publics transcript challenges blinders scratch)

        laid : some transcript' ≡ some transcript''
        laid =
            new.lays
            ∙ ap₂ (λ b o. cond b o (some transcript)) (accepted_same answers)
            (proved_ext p n (lent_witness n rows) (lent_by by_columns n columns) (same_values n columns) C (lent_public publics) e blinders beta gamma (get_or challenges 2 0))
            ∙ sym old.lays

  pub count_as_before : (challenges : List ℕ) (r' r : Outcome ℕ) → LosesGammas p n (to_rows n columns) challenges r' → LosesGammasByColumns p n columns challenges r
      → CountAsBefore r' r
  count_as_before challenges r' r new old =
      record {
        answer = answers;
        count =
            new.count
            ∙ ap₂ (λ b k. cond b (Some k) None) (accepted_same answers)
            (lost_ext p n (lent_witness n rows) (lent_by by_columns n columns) (same_values n columns) (get_or challenges 0 0))
            ∙ sym old.count;
      }
    where
      answers : AsBefore r'.answer r.answer
      answers =
          rw (new.answer, old.answer, same_long p n columns long)
          (as_transferred p n columns long [] challenges (lent_reasons p n 0 (length columns ∷ length challenges ∷ []) (lost_due n)) [])

-- READING

module _ (s selectors labels witness publics challenges : List ℕ) where
  abbrev n : ℕ
  n = sheet_n s

  abbrev l : ℕ
  l = sheet_l s

  -- what the former promise lays, taken apart and transferred
  laid_now : (b : Bool) (m : ℕ) (witness' : List ℕ) → m ≡ cond b (sheet_n s) 0
      → witness' ≡ cond b (padded (witness_length sheet_rows) (on_witness_with by_columns s (sheet_n s) (sheet_l s)) (witness_length (sheet_n s))) witness
      → cond b (padded (witness_length sheet_rows) (on_witness s (sheet_n s) (sheet_l s)) (witness_length (sheet_n s))) witness
      ≡ to_rows m (take (witness_length m) witness') ++ drop (witness_length m) witness'
  unfolding laid_by tab
  laid_now true m witness' e f =
      let zeros : List ℕ = replicate (witness_length sheet_rows - witness_length n) 0 in
      let front : take (witness_length n) (columns_read s n l ++ zeros) ≡ columns_read s n l = take_at (columns_read s n l) zeros (witness_length n) (length-tab (on_witness_with by_columns s n l) (witness_length n)) in
      let behind : drop (witness_length n) (columns_read s n l ++ zeros) ≡ zeros = drop_at (columns_read s n l) zeros (witness_length n) (length-tab (on_witness_with by_columns s n l) (witness_length n)) in
      rw (e, f, front, behind, read_transferred s n l)
  laid_now false m witness' e f = rw (e, f)

  rows_are : (b : Bool) (o : Option Sheet) → o ≡ cond b (Some (sheet_of s)) None → rows_given (record { answer = record { number = 0; detail = 0 }; value = o }) ≡ cond b (sheet_n s) 0
  rows_are true o e = rw e
  rows_are false o e = rw e

  pub read_as_before : (r' : Outcome Sheet) (selectors' labels' witness' publics' challenges' : List ℕ) (r : Outcome Sheet) (selectors'' labels'' witness'' publics'' challenges'' : List ℕ)
      → Reads s selectors labels witness publics challenges r' selectors' labels' witness' publics' challenges'
      → ReadsByColumns s selectors labels witness publics challenges r selectors'' labels'' witness'' publics'' challenges''
      → ReadAsBefore r' selectors' labels' witness' publics' challenges' r selectors'' labels'' witness'' publics'' challenges''
  read_as_before r' selectors' labels' witness' publics' challenges' r selectors'' labels'' witness'' publics'' challenges'' new old =
      record {
        answer = answers;
        sheet = new.value ∙ rw same (sym old.value);
        selectors-laid = new.selectors-laid ∙ rw same (sym old.selectors-laid);
        labels-laid = new.labels-laid ∙ rw same (sym old.labels-laid);
        witness-laid = new.witness-laid ∙ rw same (laid_now (is_accepted r.answer) (rows_given r) witness'' (rows_are (is_accepted r.answer) r.value old.value) old.witness-laid);
        publics-laid = new.publics-laid ∙ rw same (sym old.publics-laid);
        challenges_laid = new.challenges_laid ∙ rw same (sym old.challenges_laid);
      }
    where
      answers : AsBefore r'.answer r.answer
      answers =
          rw (new.answer, old.answer)
          (numbers_as_before s (sheet_p s) n l
          (first_reasons s ++ (line_reasons s n l ++ (sheet_lengths s (length selectors) (length labels) (length witness) (length publics) (length challenges) ∷ []))) [])

      same : is_accepted r'.answer ≡ is_accepted r.answer
      same = accepted_same answers

-- DEPOSITS

-- a text that is printed into a buffer stands in front
refuses : (text zeros : List ℕ) (k : ℕ) (buffer : List ℕ) → k ≡ length text → buffer ≡ text ++ zeros → RefusesElement text → RefusesElement (take k buffer)
refuses text zeros k buffer e f R = record { detail = R.detail; is = rw (e, f, take_at text zeros (length text) refl) R.is }

pub deposit_as_before : (s text : List ℕ) (r' : Outcome ℕ) (text' : List ℕ) (r : Outcome ℕ) (text'' : List ℕ)
    → Deposits s text r' text' → DepositsByColumns s text r text'' → DepositAsBefore r' text' r text''
deposit_as_before s text r' text' r text'' new old =
    record {
      answer = answers;
      printed = go (is_accepted r'.answer) (text_as_before s) new.long new.prints (rw same old.long) (rw same old.prints);
    }
  where
    answers : r'.answer ≡ r.answer
    answers = new.answer ∙ sym old.answer

    same : is_accepted r'.answer ≡ is_accepted r.answer
    same = ap is_accepted answers

    go : (b : Bool) → TextAsBefore (deposit_text s) (deposit_text_with by_columns s)
        → r'.value ≡ cond b (Some (length (deposit_text s))) None → text' ≡ cond b (deposit_text s ++ replicate (text_length - length (deposit_text s)) 0) text
        → r.value ≡ cond b (Some (length (deposit_text_with by_columns s))) None
        → text'' ≡ cond b (deposit_text_with by_columns s ++ replicate (text_length - length (deposit_text_with by_columns s)) 0) text
        → ((r'.value ≡ r.value) × (text' ≡ text'')) ⊎ (RefusesElement (take (given r') text') × RefusesElement (take (given r) text''))
    go true (inl t) e' f' e f = inl (e' ∙ rw t (sym e), f' ∙ rw t (sym f))
    go true (inr t) e' f' e f = inr (refuses _ _ _ _ (ap (λ o. unwrap_or o 0) e') f' t.0, refuses _ _ _ _ (ap (λ o. unwrap_or o 0) e) f t.1)
    go false t e' f' e f = inl (e' ∙ sym e, f' ∙ sym f)

-- JOINED SHEETS

module _ (one two joined : List ℕ) (r' : Outcome ℕ) (joined' : List ℕ) (r : Outcome ℕ) (joined'' : List ℕ) (new : Joins one two joined r' joined')
    (old : JoinsByColumns one two joined r joined'') where
  -- 6, for the length of the written buffer
  abbrev lengths : List Reason
  lengths = bad_lengths (length one ∷ length two ∷ length joined ∷ []) (join_due (length one) (length two)) ∷ []

  abbrev of_pair : List Reason
  of_pair = pair_reasons (sheet_p one) (sheet_n one) (sheet_p two) (sheet_n two)

  -- the first sheet's numbers by columns, and then the second's too
  answers : AsBefore r'.answer r.answer
  answers =
      rw (new.answer, old.answer)
      (as_then
      (numbers_as_before one (sheet_p one) (sheet_n one) (sheet_l one)
      (current_only (sheet_p one) (first_reasons one ++ (line_reasons one (sheet_n one) (sheet_l one) ++ lengths)))
      (new_reasons two [] ++ of_pair))
      (numbers_as_before two (sheet_p two) (sheet_n two) (sheet_l two)
      (new_reasons_with by_columns one lengths ++ current_only (sheet_p two) (first_reasons two ++ line_reasons two (sheet_n two) (sheet_l two)))
      of_pair))

  texts : is_accepted r'.answer ≡ true → joined_text one two ≡ joined_text_with by_columns one two
  texts e =
      let joinable = joinable_of one two (length joined) (ap (λ (a : Answer). a.number) (sym new.answer) ∙ eqb-true r'.answer.number 0 e) in
      let few : sheet_l two ≤ sheet_n one = omega (arith, joinable.two.circuit-right.circuit.publics_few, joinable.same_n) in
      joined_as_before one two joinable.same_n joinable.one.circuit-right.circuit.publics_few few

  -- whatever is made of the joined sheet, where it is written
  written : {A : Type 0} (f : List ℕ → A) (other : A)
      → cond (is_accepted r'.answer) (f (joined_text one two)) other ≡ cond (is_accepted r.answer) (f (joined_text_with by_columns one two)) other
  written {A} f other =
      go (is_accepted r'.answer) refl ∙ ap (λ (b : Bool). cond b (f (joined_text_with by_columns one two)) other) (accepted_same answers)
    where
      go : (b : Bool) → is_accepted r'.answer ≡ b → cond b (f (joined_text one two)) other ≡ cond b (f (joined_text_with by_columns one two)) other
      go true e = ap f (texts e)
      go false e = refl

  pub join_as_before : JoinAsBefore r' joined' r joined''
  join_as_before =
      record {
        answer = answers;
        long = new.long ∙ written (λ text. Some (length text)) None ∙ sym old.long;
        written = new.written ∙ written (λ text. text ++ replicate (joined_length - length text) 0) joined ∙ sym old.written;
      }
