-- The printed text of a deposit (document 01, "The sheet"), in bytes.
--
-- LINES
-- accept_word, reject_word  the words `accept`, `reject`
-- letter_line c vs          the line of a polynomial: its letter and its coefficients
-- verdict_text v            the line of a point verdict
-- judged_text v             the same for the enum of `check_point`
-- transcript_text e         the lines of a, b, c, z, t of a lent transcript
-- text_length               the length of the lent buffer
-- THE TEXT OF A DEPOSIT
-- proved_text e             the lines of a transcript and of the verdict on it, of constraints, public inputs and beta, gamma, alpha, zeta
-- work_answer_with L e      the prover's answer for a sheet's numbers, the witness being lent by the layout L
-- work_transcript_with L e  the transcript that it lays for them; none if refused
-- work_text_with L e        proved_text of it, or the refusal
-- work_answer, work_transcript, work_text  the same by the layout of today
--
-- The number e is 1 where the transcript is blinded, by the sheet's blinders, and 0 where it is not.
-- Assumes nothing.
use Rattle.std.specs.Prelude.{cond, List, [], ◌∷◌, ◌++◌, ℕ, get_or, take, replicate}
use Rattle.std.proofs.Math.Option.{Option, none, some}
use Rattle.field.specs.Reasons.{Answer, answer_of, is_accepted}
use Rattle.circuit.specs.Circuit.{Constraints, Layout, lent_constraints, lent_public, lent_by, by_rows}
use Rattle.circuit.specs.Buffers.{transcript_length, work_length, wire_part, z_part, t_part}
use Rattle.protocol.specs.Protocol.{prepared, proved, PointVerdict, accept, reject, point_verdict, prove_reasons_with}
use Rattle.pointcheck.specs.declared.Judged.{Judged}
use Rattle.pointcheck.specs.declared.Judged.TheVariants.{Accept, Reject}
use Rattle.text.specs.Text.{line_text, refused_text}

-- LINES

abbrev pub accept_word : List ℕ
accept_word = 97 ∷ 99 ∷ 99 ∷ 101 ∷ 112 ∷ 116 ∷ []

abbrev pub reject_word : List ℕ
reject_word = 114 ∷ 101 ∷ 106 ∷ 101 ∷ 99 ∷ 116 ∷ []

abbrev pub letter_line : ℕ → List ℕ → List ℕ
letter_line c vs = line_text (c ∷ []) vs

abbrev pub verdict_text : PointVerdict → List ℕ
verdict_text accept = accept_word ++ (10 ∷ [])
verdict_text reject = reject_word ++ (10 ∷ [])

-- the same of the answer's enum
abbrev pub judged_text : Judged → List ℕ
judged_text Accept = verdict_text accept
judged_text Reject = verdict_text reject

abbrev pub text_length : ℕ
text_length = 20480

-- of a lent transcript: a, b, c, z, t
abbrev pub transcript_text : ℕ → ℕ → List ℕ → List ℕ
transcript_text e n transcript =
    letter_line 97 (wire_part e n 0 transcript) ++ (letter_line 98 (wire_part e n 1 transcript) ++ letter_line 99 (wire_part e n 2 transcript))
    ++ (letter_line 122 (z_part e n transcript) ++ letter_line 116 (t_part e n transcript))

-- THE TEXT OF A DEPOSIT

-- a, b, c, z and t, and the point verdict on them
abbrev pub proved_text : ℕ → ℕ → ℕ → Constraints → (ℕ → ℕ) → List ℕ → ℕ → ℕ → ℕ → ℕ → List ℕ
proved_text e p n C x transcript beta gamma alpha zeta =
    transcript_text e n transcript ++ verdict_text (point_verdict e p n (prepared p n C) x transcript beta gamma alpha zeta)

-- the prover's answer for a sheet's numbers; the other two buffers have the lengths that are due
unfoldable pub work_answer_with : (L : Layout) (e p n l : ℕ) (selectors labels witness publics challenges blinders : List ℕ) → Answer
work_answer_with L e p n l selectors labels witness publics challenges blinders =
    answer_of
    (prove_reasons_with L e p n l selectors labels witness publics (replicate (transcript_length e n) 0) (take 3 challenges) blinders (replicate (work_length e n) 0))

abbrev pub work_transcript_with : (L : Layout) (e p n l : ℕ) (selectors labels witness publics challenges blinders : List ℕ) → Option (List ℕ)
work_transcript_with L e p n l selectors labels witness publics challenges blinders =
    cond (is_accepted (work_answer_with L e p n l selectors labels witness publics challenges blinders))
    (proved e p n (lent_constraints n selectors labels) (lent_public publics) (lent_by L n witness) blinders (get_or challenges 0 0) (get_or challenges 1 0) (get_or challenges 2 0))
    none

unfoldable pub work_text_with : (L : Layout) (e p n l : ℕ) (selectors labels witness publics challenges blinders : List ℕ) → List ℕ
work_text_with L e p n l selectors labels witness publics challenges blinders =
    let r : Answer = work_answer_with L e p n l selectors labels witness publics challenges blinders in
    elim (work_transcript_with L e p n l selectors labels witness publics challenges blinders) [
      | none ↦ refused_text r.number r.detail
      | some transcript ↦
          proved_text e p n (lent_constraints n selectors labels) (lent_public publics) transcript (get_or challenges 0 0) (get_or challenges 1 0) (get_or challenges 2 0) (get_or challenges 3 0)
    ]

abbrev pub work_answer : (e p n l : ℕ) (selectors labels witness publics challenges blinders : List ℕ) → Answer
work_answer = work_answer_with by_rows

abbrev pub work_transcript : (e p n l : ℕ) (selectors labels witness publics challenges blinders : List ℕ) → Option (List ℕ)
work_transcript = work_transcript_with by_rows

abbrev pub work_text : (e p n l : ℕ) (selectors labels witness publics challenges blinders : List ℕ) → List ℕ
work_text = work_text_with by_rows
