-- The new layout gives the old one's outcome on every circuit (document 02, request 8).
--
-- THE STATEMENTS: a witness of 3n numbers was lent to a call column after column, and is lent to it transferred to rows. The answer is the one that it was,
-- but for the detail of 7 (AsBefore), and everything else that the call gives is the same
-- RowsAsBefore r' r                   `check_rows`: the verdict
-- ProofAsBefore r' t' s' r t s        `prove` and `prove_blinded`: every word of the transcript and of the scratch
-- CountAsBefore r' r                  `lost_gammas`: the count
-- A call that reads sheets is given the same ones
-- rows_given r                        the number of rows that `read` answers; 0 if refused
-- ReadAsBefore r' .. r ..             `read`: p, n, l, whether there is a line of blinders, and every word of the buffers, but for the witness, which is the
--                                     one that it was, transferred
-- DepositAsBefore r' text' r text     `deposit`: the answer with its detail; and every byte, unless both texts are the line of a refusal with 7, in which the detail is
--                                     printed
-- JoinAsBefore r' joined' r joined    `join`: the length, and every byte
-- THE THEOREM
-- rows_as_before, proof_as_before, count_as_before, read_as_before, deposit_as_before, join_as_before   for each call, whatever it is lent besides, and for every
--                                     sheet, blinded or not; `proof_as_before` is once over e, which is 0 for `prove` and 1 for `prove_blinded`
--
-- A call's answer is any that keeps the call's promise: the former one of Columns, and that of today.
-- The theorems stand in proofs/Theorem.
-- Assumes nothing.
use Rattle.field.specs.Reasons.{Outcome, given, Answer}
use Rattle.std.specs.Prelude.{◌≡◌, ◌⊎◌, Option, Some, None}
use mathlib.Core.List.{List, ◌++◌}
use Prim.Native.Nat.{ℕ}
use Rattle.std.proofs.Math.ListN.{take, drop}
use Rattle.circuit.specs.Buffers.{witness_length}
use Rattle.rowcheck.specs.declared.Verdict.{Verdict}
use Rattle.sheet.specs.declared.Sheet.{Sheet}
use Rattle.transfer.specs.Transfer.{to_rows}
use Rattle.transfer.specs.Columns.{AsBefore, RefusesElement}

-- THE STATEMENTS

pub record RowsAsBefore (r' r : Outcome Verdict) : Type 0 where
  pub answer : AsBefore r'.answer r.answer
  pub verdict : r'.value ≡ r.value

pub record ProofAsBefore (r' : Answer) (transcript' scratch' : List ℕ) (r : Answer) (transcript scratch : List ℕ) : Type 0 where
  pub answer : AsBefore r' r
  pub laid : transcript' ≡ transcript
  pub cleared : scratch' ≡ scratch

pub record CountAsBefore (r' r : Outcome ℕ) : Type 0 where
  pub answer : AsBefore r'.answer r.answer
  pub count : r'.value ≡ r.value

abbrev rows_in : Option Sheet → ℕ
rows_in None = 0
rows_in (Some s) = s.n

-- the number of rows that is answered, which is 0 where the sheet is refused: then the witness is the same too
abbrev pub rows_given : Outcome Sheet → ℕ
rows_given r = rows_in r.value

pub record ReadAsBefore (r' : Outcome Sheet) (selectors' labels' witness' publics' challenges' : List ℕ) (r : Outcome Sheet) (selectors labels witness publics challenges : List ℕ)
    : Type 0 where
  pub answer : AsBefore r'.answer r.answer
  pub sheet : r'.value ≡ r.value
  pub selectors-laid : selectors' ≡ selectors
  pub labels-laid : labels' ≡ labels
  pub witness-laid : witness' ≡ to_rows (rows_given r) (take (witness_length (rows_given r)) witness) ++ drop (witness_length (rows_given r)) witness
  pub publics-laid : publics' ≡ publics
  pub challenges_laid : challenges' ≡ challenges

-- the text is the first bytes of the buffer, as many as the answer says
pub record DepositAsBefore (r' : Outcome ℕ) (text' : List ℕ) (r : Outcome ℕ) (text : List ℕ) : Type 0 where
  pub answer : r'.answer ≡ r.answer
  pub printed : ((r'.value ≡ r.value) × (text' ≡ text)) ⊎ (RefusesElement (take (given r') text') × RefusesElement (take (given r) text))

pub record JoinAsBefore (r' : Outcome ℕ) (joined' : List ℕ) (r : Outcome ℕ) (joined : List ℕ) : Type 0 where
  pub answer : AsBefore r'.answer r.answer
  pub long : r'.value ≡ r.value
  pub written : joined' ≡ joined
