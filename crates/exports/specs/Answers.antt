-- How an answer is handed to a caller in C or Rust: as words at the start of a lent buffer.
--
-- over words buffer     the words over the start of a buffer, as many as it has room for; the rest of the buffer as it was
-- answer_words r        number and detail
-- outcome_words behind r   number, detail, and the words behind them: those of what the call gives, which is nothing where it is turned down
-- nothing_behind o      no words
-- no_element            a word that is no element of any field: the greatest
-- no_element_lem        it is not below p
-- is_there i            1 where there is an inverse, 0 where there is none
-- inverse_word i        the inverse; no_element where there is none
-- inverse_behind o      whether there is an inverse, and the inverse; there is none where the call is turned down
-- inverted_words r      number, detail, whether there is an inverse, and the inverse
-- identity_word id      the word of a failing identity: 2 gate, 3 start, 4 step
-- verdict_word v        the word of a row verdict: 0 none, 1 pass, or that of the identity that fails
-- verdict_row v         the row that fails; 0 where none does
-- row_behind v          the word of the verdict and its row
-- row_words r           number, detail, the word of the verdict and its row
-- judged_word v         the word of a point verdict: 0 none, 1 accept, 2 reject
-- point_behind v        the word of the verdict
-- point_words r         number, detail and the word of the verdict
-- said_word b           1 for yes, 0 for no
-- sheet_behind s        p, n, l and whether there was a line of blinders; all four 0 where there is no sheet
-- sheet_words r         number, detail, p, n, l and whether there was a line of blinders
-- count_behind k        a count or a length; 0 where there is none
-- count_words r k       number, detail and a count or a length
-- counted_words r       with the count of lost gammas
-- deposited_words r     with the length of the text
-- joined_words r        with the length of the joined sheet
-- Handed words promise buffer buffer'   the call was made, its answer keeps the call's own promise, and its words stand in the buffer
--
-- Assumes nothing.
use Rattle.std.specs.Prelude.{◌≡◌, List, [], ◌∷◌, ◌++◌, Bool, true, cond, ℕ, ◌≤◌, Option, None, Some}
use Rattle.std.specs.Option.{unwrap_or}
use Rattle.std.proofs.Common.{arith}
use Rattle.field.specs.Fields.{is_field}
use Rattle.field.specs.Primes.{by_field}
use Rattle.field.specs.Reasons.{Answer, Outcome, given}
use Rattle.rowcheck.specs.declared.Identity.{Identity}
use Rattle.rowcheck.specs.declared.Identity.TheVariants.{Gate, Start, Step}
use Rattle.rowcheck.specs.declared.Verdict.{Verdict}
use Rattle.rowcheck.specs.declared.Verdict.TheVariants.{Pass, Fails}
use Rattle.pointcheck.specs.declared.Judged.{Judged}
use Rattle.pointcheck.specs.declared.Judged.TheVariants.{Accept, Reject}
use Rattle.sheet.specs.declared.Sheet.{Sheet}

abbrev pub over : List ℕ → List ℕ → List ℕ
over [] buffer = buffer
over (x ∷ words) [] = []
over (x ∷ words) (y ∷ buffer) = x ∷ over words buffer

abbrev pub answer_words : Answer → List ℕ
answer_words r = r.number ∷ r.detail ∷ []

abbrev pub outcome_words : {A : Type 0} → (Option A → List ℕ) → Outcome A → List ℕ
outcome_words behind r = answer_words r.answer ++ behind r.value

abbrev pub nothing_behind : Option Unit → List ℕ
nothing_behind o = []

abbrev pub no_element : ℕ
no_element = 4294967295

pub no_element_lem : (p : ℕ) → is_field p ≡ true → p ≤ no_element
no_element_lem = by_field (λ p. p ≤ no_element) (omega arith) (omega arith) (omega arith)

abbrev pub is_there : Option ℕ → ℕ
is_there None = 0
is_there (Some y) = 1

abbrev pub inverse_word : Option ℕ → ℕ
inverse_word None = no_element
inverse_word (Some y) = y

abbrev pub inverse_behind : Option (Option ℕ) → List ℕ
inverse_behind o = is_there (unwrap_or o None) ∷ inverse_word (unwrap_or o None) ∷ []

abbrev pub inverted_words : Outcome (Option ℕ) → List ℕ
inverted_words = outcome_words inverse_behind

abbrev pub identity_word : Identity → ℕ
identity_word Gate = 2
identity_word Start = 3
identity_word Step = 4

abbrev pub verdict_word : Option Verdict → ℕ
verdict_word None = 0
verdict_word (Some Pass) = 1
verdict_word (Some (Fails id row)) = identity_word id

abbrev pub verdict_row : Option Verdict → ℕ
verdict_row None = 0
verdict_row (Some Pass) = 0
verdict_row (Some (Fails id row)) = row

abbrev pub row_behind : Option Verdict → List ℕ
row_behind v = verdict_word v ∷ verdict_row v ∷ []

abbrev pub row_words : Outcome Verdict → List ℕ
row_words = outcome_words row_behind

abbrev pub judged_word : Option Judged → ℕ
judged_word None = 0
judged_word (Some Accept) = 1
judged_word (Some Reject) = 2

abbrev pub point_behind : Option Judged → List ℕ
point_behind v = judged_word v ∷ []

abbrev pub point_words : Outcome Judged → List ℕ
point_words = outcome_words point_behind

abbrev pub said_word : Bool → ℕ
said_word b = cond b 1 0

abbrev pub sheet_behind : Option Sheet → List ℕ
sheet_behind None = 0 ∷ 0 ∷ 0 ∷ 0 ∷ []
sheet_behind (Some s) = s.p ∷ s.n ∷ s.l ∷ said_word s.blinded ∷ []

abbrev pub sheet_words : Outcome Sheet → List ℕ
sheet_words = outcome_words sheet_behind

abbrev pub count_behind : Option ℕ → List ℕ
count_behind k = unwrap_or k 0 ∷ []

abbrev pub count_words : Answer → ℕ → List ℕ
count_words r k = r.number ∷ r.detail ∷ k ∷ []

abbrev pub counted_words : Outcome ℕ → List ℕ
counted_words r = count_words r.answer (given r)

abbrev pub deposited_words : Outcome ℕ → List ℕ
deposited_words r = count_words r.answer (given r)

abbrev pub joined_words : Outcome ℕ → List ℕ
joined_words r = count_words r.answer (given r)

-- the promise fixes the answer, and so the words
pub record Handed {R : Type 0} (words : R → List ℕ) (promise : R → Type 0) (buffer buffer' : List ℕ) : Type 0 where
  pub result : R
  pub promised : promise result
  pub written : buffer' ≡ over (words result) buffer
