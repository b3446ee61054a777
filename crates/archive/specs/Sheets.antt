-- What `read` leaves for the prover, and the text of a deposit from it.
--
-- Right s          what a sheet that is read has: admissible p and n, at most 256 rows, at most n public inputs, elements as challenges
-- right_of         a new sheet with answer number 0 has it
-- prime_text       the text of a sheet that is turned down at its first line, by 1, 2 or 16
-- retired_text     of a sheet over 97 whose first line is in form, the text is refused,16,0, whatever stands behind
-- READ INTO ARRAYS OF THE LENGTHS THAT ARE DUE
-- Arrays           the arrays that are lent have these lengths
-- read_answer_lem  the answer is that of the definitions, of a sheet whose prime may be proved with
-- right            a sheet that is read without a refusal has what Right says
-- rows_few, publics_few   n and l are at most 256
-- sheet_workable   the prover can be lent the numbers
-- sheet_text_lem, unread_text   the text of the numbers that are read, and of a refusal, is the text of the deposit
-- DEPOSITS
-- refused_deposit, made_deposit   the promise of `deposit`, where it is turned down and where not
-- text_long        where it is not turned down, the buffer has the text's length
--
-- Assumes nothing.
use Rattle.std.specs.Prelude.{◌≡◌, refl, ◌≢◌, Bool, true, false, cond, List, [], ◌∷◌, ◌++◌, ℕ, ◌*◌, ◌-◌, ◌≤◌, ◌<◌, length, take, drop, replicate, Some, None}
use Rattle.std.proofs.Common.{sym, ap₂, ◌∙◌, arith, take_at, drop_at}
use Rattle.std.proofs.Math.Path.{ap}
use Rattle.std.proofs.Math.Bool.{true, false}
use borrow.Author.Tests.{eq-eqb, eqb-true, ne_eqb}
use Rattle.algebra.specs.Lists.{tab}
use Rattle.algebra.specs.Polynomial.{Elements}
use Rattle.algebra.specs.Tables.{length-tab, all_left, all_right}
use Rattle.field.specs.Fields.{is_current, Admissible}
use Rattle.field.specs.Primes.{rows-power}
use Rattle.field.specs.Lent.{lengths_same, lengths_none}
use Rattle.field.specs.Reasons.{Answer, Outcome, answer_of, is_accepted, bad_lengths}
use Rattle.field.specs.ReasonLaws.{none_applies}
use Rattle.circuit.specs.Buffers.{blinder_count, selectors_length, labels_length, witness_length}
use Rattle.text.specs.Text.{refused_text}
use Rattle.sheet.specs.Sheet.{sheet_rows, challenge_count, drawn_count, sheet_p, sheet_n, sheet_l, sheet_blinded, sheet_of, on_selectors, on_labels, on_witness, on_publics, on_challenges, on_blinders, blinders_on, drawn_on, padded, bad_first, sheet_due, new_answer}
use Rattle.sheet.specs.Due.{blinded_most, blinded_lines}
use Rattle.sheet.specs.Deciding.{prime_line, taken_of, own_answer, new_refused, new_same, new_of, new_retired}
use Rattle.sheet.specs.declared.Sheet.{Sheet}
use Rattle.sheet.specs.Promises.{Reads}
use Rattle.archive.specs.Printed.{text_length, work_text}
use Rattle.archive.specs.Work.{Workable}
use Rattle.archive.specs.Deposit.{deposit_text_with, deposit_text, deposit_due, deposit_reasons, Deposits}

pub record Right (s : List ℕ) : Type 0 where
  pub admissible : Admissible (sheet_p s) (sheet_n s)
  pub few_rows : sheet_n s ≤ sheet_rows
  pub few_publics : sheet_l s ≤ sheet_n s
  pub challenges_right : Elements (sheet_p s) challenge_count (tab (on_challenges s (sheet_n s) (sheet_l s)) challenge_count)

pub right_of : (s : List ℕ) → (new_answer s).number ≡ 0 → Right s
right_of s e =
    let n : ℕ = sheet_n s in
    let l : ℕ = sheet_l s in
    let P : ℕ → Type 0 = λ a. a < sheet_p s in
    let taken = (taken_of s [] tt (new_of s [] e).1).0 in
    record {
      admissible = taken.shape.admissible;
      few_rows = taken.shape.few;
      few_publics = taken.shape.publics_few;
      challenges_right = record {
        long = length-tab (on_challenges s n l) challenge_count;
        below =
            all_left P (tab (on_challenges s n l) challenge_count) _
            (all_right P (tab (on_publics s n l) l) _
            (all_right P (tab (on_witness s n l) (witness_length n)) _ (all_right P (tab (on_selectors s n l) (selectors_length n)) _ taken.elements)));
      };
    }

pub prime_text : (s : List ℕ) (a : Answer) → a ≡ answer_of (prime_line s) → a.number ≢ 0 → refused_text a.number a.detail ≡ deposit_text s
unfolding deposit_text_with
prime_text s a e h =
    let is : a ≡ new_answer s = new_refused s [] a e h in
    let no : is_accepted (new_answer s) ≡ false = ap is_accepted (sym is) ∙ ne_eqb a.number 0 h in
    rw (no, is)

pub retired_text : (s : List ℕ) → (bad_first s).applies ≡ false → sheet_p s ≡ 97 → deposit_text s ≡ refused_text 16 0
unfolding deposit_text_with
retired_text s h e = rw (new_retired s [] h e)

-- READ INTO ARRAYS OF THE LENGTHS THAT ARE DUE

take-padded : (m : ℕ) (f : ℕ → ℕ) (k : ℕ) → take k (padded m f k) ≡ tab f k
take-padded m f k = take_at (tab f k) (replicate (m - k) 0) k (length-tab f k)

pub record Arrays (selectors labels witness publics drawn : List ℕ) : Type 0 where
  pub selectors_long : selectors_length sheet_rows ≡ length selectors
  pub labels_long : labels_length sheet_rows ≡ length labels
  pub witness_long : witness_length sheet_rows ≡ length witness
  pub publics_long : sheet_rows ≡ length publics
  pub drawn_long : drawn_count ≡ length drawn

module _ (s selectors labels witness publics drawn : List ℕ) (r : Outcome Sheet) (selectors' labels' witness' publics' drawn' : List ℕ)
    (R : Reads s selectors labels witness publics drawn r selectors' labels' witness' publics' drawn')
    (L : Arrays selectors labels witness publics drawn) (current : is_current (sheet_p s) ≡ true) where
  pub read_answer_lem : r.answer ≡ new_answer s
  read_answer_lem =
      R.answer
      ∙ rw (sym L.selectors_long, sym L.labels_long, sym L.witness_long, sym L.publics_long, sym L.drawn_long)
      (own_answer s (bad_lengths (sheet_due (length s)) (sheet_due (length s)) ∷ []) (omega arith, tt) (rw (lengths_none {long = sheet_due (length s)} refl)))
      ∙ sym (new_same s [] current)

  -- what is read, where anything is
  module _ (found : Sheet) (e : r.value ≡ Some found) where
    both : (is_accepted r.answer ≡ true) × (found ≡ sheet_of s)
    both = go (is_accepted r.answer) (sym e ∙ R.value)
      where
        go : (b : Bool) → Some found ≡ cond b (Some (sheet_of s)) None → (b ≡ true) × (found ≡ sheet_of s)
        go true i = (refl, cc)
        go false i = cc

    accepted : is_accepted r.answer ≡ true
    accepted = both.0

    pub right : Right s
    right = right_of s (ap (λ (a : Answer). a.number) (sym read_answer_lem) ∙ eqb-true r.answer.number 0 accepted)

    p_read : found.p ≡ sheet_p s
    p_read = ap (λ (x : Sheet). x.p) both.1

    n_read : found.n ≡ sheet_n s
    n_read = ap (λ (x : Sheet). x.n) both.1

    l_read : found.l ≡ sheet_l s
    l_read = ap (λ (x : Sheet). x.l) both.1

    -- how many lines of blinders there are
    abbrev lines : ℕ
    lines = cond found.blinded 1 0

    lines_read : lines ≡ sheet_blinded s (sheet_n s) (sheet_l s)
    lines_read = blinded_lines s (sheet_n s) (sheet_l s) lines found.blinded (ap (λ (x : Sheet). x.blinded) both.1) refl

    drawn_read : drawn' ≡ drawn_on s (sheet_n s) (sheet_l s)
    drawn_read = R.challenges_laid ∙ rw accepted

    challenges_read : take challenge_count drawn' ≡ tab (on_challenges s (sheet_n s) (sheet_l s)) challenge_count
    challenges_read = ap (take challenge_count) drawn_read ∙ take_at (tab (on_challenges s (sheet_n s) (sheet_l s)) challenge_count) _ challenge_count (length-tab (on_challenges s (sheet_n s) (sheet_l s)) challenge_count)

    blinders_read : take (blinder_count * lines) (drop challenge_count drawn') ≡ blinders_on s (sheet_n s) (sheet_l s)
    blinders_read =
        ap₂ (λ (k : ℕ) (d : List ℕ). take (blinder_count * k) (drop challenge_count d)) lines_read drawn_read
        ∙ ap (take (blinder_count * sheet_blinded s (sheet_n s) (sheet_l s)))
        (drop_at (tab (on_challenges s (sheet_n s) (sheet_l s)) challenge_count) _ challenge_count (length-tab (on_challenges s (sheet_n s) (sheet_l s)) challenge_count))
        ∙ take-padded blinder_count (on_blinders s (sheet_n s) (sheet_l s)) (blinder_count * sheet_blinded s (sheet_n s) (sheet_l s))

    pub rows_few : found.n ≤ 256
    rows_few = omega (arith, n_read, right.few_rows)

    pub publics_few : found.l ≤ 256
    publics_few = omega (arith, l_read, right.few_rows, right.few_publics)

    pub sheet_workable : (text : List ℕ) → length text ≡ text_length → Workable (cond found.blinded 1 0) found.p found.n (take challenge_count drawn') (take (blinder_count * cond found.blinded 1 0) (drop challenge_count drawn')) text
    sheet_workable text t =
        record {
          blinded = omega (arith, lines_read, blinded_most s (sheet_n s) (sheet_l s));
          unblinded = λ none. ap (λ (k : ℕ). take (blinder_count * k) (drop challenge_count drawn')) none;
          some = omega (arith, n_read, (rows-power (sheet_p s) (sheet_n s) right.admissible.rows).least);
          few = rows_few;
          challenges_right = rw (p_read, challenges_read) right.challenges_right;
          room = t;
        }

    pub sheet_text_lem : work_text (cond found.blinded 1 0) found.p found.n found.l (take (selectors_length found.n) selectors') (take (labels_length found.n) labels') (take (witness_length found.n) witness') (take found.l publics') (take challenge_count drawn') (take (blinder_count * cond found.blinded 1 0) (drop challenge_count drawn'))
        ≡ deposit_text s
    unfolding deposit_text_with
    sheet_text_lem =
        let selectors-read : selectors' ≡ padded (selectors_length sheet_rows) (on_selectors s (sheet_n s) (sheet_l s)) (selectors_length (sheet_n s)) = R.selectors-laid ∙ rw accepted in
        let labels-read : labels' ≡ padded (labels_length sheet_rows) (on_labels s (sheet_n s) (sheet_l s)) (labels_length (sheet_n s)) = R.labels-laid ∙ rw accepted in
        let witness-read : witness' ≡ padded (witness_length sheet_rows) (on_witness s (sheet_n s) (sheet_l s)) (witness_length (sheet_n s)) = R.witness-laid ∙ rw accepted in
        let publics-read : publics' ≡ padded sheet_rows (on_publics s (sheet_n s) (sheet_l s)) (sheet_l s) = R.publics-laid ∙ rw accepted in
        let yes : is_accepted (new_answer s) ≡ true = ap is_accepted (sym read_answer_lem) ∙ accepted in
        rw (
          p_read,
          n_read,
          l_read,
          selectors-read,
          labels-read,
          witness-read,
          publics-read,
          challenges_read,
          blinders_read,
          lines_read,
          take-padded (selectors_length sheet_rows) (on_selectors s (sheet_n s) (sheet_l s)) (selectors_length (sheet_n s)),
          take-padded (labels_length sheet_rows) (on_labels s (sheet_n s) (sheet_l s)) (labels_length (sheet_n s)),
          take-padded (witness_length sheet_rows) (on_witness s (sheet_n s) (sheet_l s)) (witness_length (sheet_n s)),
          take-padded sheet_rows (on_publics s (sheet_n s) (sheet_l s)) (sheet_l s),
          yes,
        )

  pub unread_text : r.answer.number ≢ 0 → refused_text r.answer.number r.answer.detail ≡ deposit_text s
  unfolding deposit_text_with
  unread_text h =
      let no : is_accepted (new_answer s) ≡ false = ap is_accepted (sym read_answer_lem) ∙ ne_eqb r.answer.number 0 h in
      rw (no, read_answer_lem)

-- DEPOSITS

pub refused_deposit : (s text : List ℕ) (a : Answer) → a ≡ answer_of (deposit_reasons s text) → a.number ≢ 0
    → Deposits s text record { answer = a; value = None } text
refused_deposit s text a e h = record { answer = e; long = rw (ne_eqb a.number 0 h); prints = rw (ne_eqb a.number 0 h) }

pub text_long : (s text : List ℕ) (a : Answer) → a ≡ answer_of (deposit_reasons s text) → a.number ≡ 0 → length text ≡ text_length
text_long s text a e h =
    let none = none_applies (deposit_reasons s text) (omega arith, tt) (sym (ap (λ (b : Answer). b.number) e) ∙ h) in
    cc (lengths_same (length s ∷ length text ∷ []) (deposit_due (length s)) refl none.0)

pub made_deposit : (s text : List ℕ) (a : Answer) (end : ℕ) (text' last : List ℕ) → a ≡ answer_of (deposit_reasons s text) → a.number ≡ 0
    → length text' ≡ length text → end ≡ length (deposit_text s) → last ≡ deposit_text s ++ replicate (length text' - length (deposit_text s)) 0
    → Deposits s text record { answer = a; value = Some end } last
made_deposit s text a end text' last e h k at f =
    let left : length text' ≡ text_length = omega (arith, text_long s text a e h) in
    record {
      answer = e;
      long = rw (eq-eqb a.number 0 h) (ap Some at);
      prints = f ∙ rw (eq-eqb a.number 0 h, left);
    }
