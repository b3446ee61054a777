-- Every text of a deposit fits into the buffer that is lent for it.
--
-- text_fits      the text of any sheet has at most text_length bytes
-- deposit_fits   so has what `deposit` answers
--
-- Assumes nothing.
use Rattle.std.specs.Prelude.{◌≡◌, refl, Bool, true, false, cond, List, [], ◌∷◌, ℕ, ◌≤◌, length, get_or, Some, None}
use Rattle.std.proofs.Math.Option.{Option, none, some}
use Rattle.std.proofs.Common.{arith, length-append, eqb-true}
use Rattle.algebra.specs.Polynomial.{Elements}
use Rattle.field.specs.Primes.{rows-power}
use Rattle.field.specs.Domain.{Domain}
use Rattle.field.proofs.Domain.{domain}
use Rattle.field.specs.Reasons.{Answer, Outcome, given, is_accepted}
use Rattle.circuit.specs.Circuit.{Constraints, lent_constraints, lent_public, lent_witness}
use Rattle.circuit.specs.Buffers.{transcript_length}
use Rattle.protocol.specs.Protocol.{PointVerdict, accept, reject, point_verdict, prepared, proved}
use Rattle.protocol.specs.Layout.{proved_elements}
use Rattle.text.specs.Text.{refused_word, refused_text}
use Rattle.text.specs.Puts.{length_line}
use Rattle.archive.specs.Printed.{verdict_text, transcript_text, text_length, proved_text, work_answer, work_text_with, work_text}
use Rattle.archive.specs.Lines.{transcript_fits}
use Rattle.sheet.specs.Sheet.{sheet_n, sheet_l, new_answer}
use Rattle.sheet.specs.Due.{blinded_most}
use Rattle.archive.specs.Deposit.{deposit_text_with, deposit_text, Deposits}
use Rattle.archive.specs.Sheets.{right_of}

either_fits : (b : Bool) (x y : List ℕ) → (b ≡ true → length x ≤ text_length) → length y ≤ text_length → length (cond b x y) ≤ text_length
either_fits true x y h k = h refl
either_fits false x y h k = k

refused_fits : (number detail : ℕ) → length (refused_text number detail) ≤ text_length
refused_fits number detail = omega (arith, length_line refused_word (number ∷ detail ∷ []))

verdict_long : (v : PointVerdict) → length (verdict_text v) ≡ 7
verdict_long accept = refl
verdict_long reject = refl

proved_fits : (e p n : ℕ) (C : Constraints) (x : ℕ → ℕ) (T : List ℕ) (beta gamma alpha zeta : ℕ) → e ≤ 1 → n ≤ 256 → length T ≡ transcript_length e n
    → length (proved_text e p n C x T beta gamma alpha zeta) ≤ text_length
proved_fits e p n C x T beta gamma alpha zeta small few long =
    let verdict : PointVerdict = point_verdict e p n (prepared p n C) x T beta gamma alpha zeta in
    omega (arith, length-append (transcript_text e n T) (verdict_text verdict), transcript_fits e n small few T long, verdict_long verdict)

work_fits : {p n : ℕ} → Domain p n → (e l : ℕ) (selectors labels witness publics challenges blinders : List ℕ) → e ≤ 1 → 1 ≤ n → n ≤ 256
    → length (work_text e p n l selectors labels witness publics challenges blinders) ≤ text_length
unfolding work_text_with
work_fits {p} {n} D e l selectors labels witness publics challenges blinders small some-rows few =
    go (is_accepted r) (proved e p n C x v blinders beta gamma alpha) (λ T. proved_elements D e C x v blinders beta gamma alpha T some-rows)
  where
    r : Answer
    r = work_answer e p n l selectors labels witness publics challenges blinders

    C : Constraints
    C = lent_constraints n selectors labels

    x : ℕ → ℕ
    x = lent_public publics

    v : ℕ → ℕ
    v = lent_witness n witness

    beta : ℕ
    beta = get_or challenges 0 0

    gamma : ℕ
    gamma = get_or challenges 1 0

    alpha : ℕ
    alpha = get_or challenges 2 0

    with : List ℕ → List ℕ
    with T = proved_text e p n C x T beta gamma alpha (get_or challenges 3 0)

    go : (b : Bool) (o : Option (List ℕ)) → ((T : List ℕ) → o ≡ some T → Elements p (transcript_length e n) T)
        → length {A = ℕ} (elim (cond b o none) [ none ↦ refused_text r.number r.detail | some T ↦ with T ]) ≤ text_length
    go false o h = refused_fits r.number r.detail
    go true none h = refused_fits r.number r.detail
    go true (some T) h = proved_fits e p n C x T beta gamma alpha (get_or challenges 3 0) small few (h T refl).long

pub text_fits : (s : List ℕ) → length (deposit_text s) ≤ text_length
unfolding deposit_text_with
text_fits s =
    either_fits (is_accepted (new_answer s)) _ _
    (λ e.
    let R = right_of s (eqb-true (new_answer s).number 0 e) in
    work_fits (domain _ _ R.admissible) _ _ _ _ _ _ _ _ (blinded_most s (sheet_n s) (sheet_l s)) (omega (arith, (rows-power _ _ R.admissible.rows).least)) R.few_rows)
    (refused_fits _ _)

pub deposit_fits : (s text : List ℕ) (r : Outcome ℕ) (text' : List ℕ) → Deposits s text r text' → given r ≤ text_length
deposit_fits s text r text' D = go (is_accepted r.answer) D.long
  where
    go : (b : Bool) → r.value ≡ cond b (Some (length (deposit_text s))) None → given r ≤ text_length
    go true e = rw e (text_fits s)
    go false e = rw e (omega arith)
