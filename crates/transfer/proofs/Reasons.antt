-- The reasons for turning a call down, for a witness in either layout.
--
-- same_values          a transferred witness has the wire values that it had
-- same_long            and as many numbers
-- prove_as_before      the answer by all reasons of `prove` and of `prove_blinded`
-- read_transferred     what is read from a sheet is what was read, transferred
-- numbers_as_before    the answer by a sheet's numbers, with reasons before and behind them
--
-- Assumes nothing.
use Rattle.std.specs.Prelude.{◌≡◌, List, [], ◌∷◌, ◌++◌, ℕ, ◌*◌, ◌<◌, length, get_or, replicate}
use Rattle.std.proofs.Common.{sym, ap, ap₂, ◌∙◌}
use Rattle.algebra.specs.Lists.{tab}
use Rattle.algebra.specs.Tables.{length-tab, get_or-tab}
use Rattle.field.specs.Fields.{greatest_rows}
use Rattle.field.specs.Reasons.{Reason, answer_of, bad_field, retired_field, bad_rows, bad_publics, bad_lengths, bad_element}
use Rattle.circuit.specs.Circuit.{Constraints, lent_constraints, lent_public, lent_by, laid_by, lent_witness}
use Rattle.circuit.specs.Buffers.{selectors_length, witness_length}
use Rattle.circuit.specs.Reasons.{circuit_reasons, prove_due}
use Rattle.circuit.specs.Witness.{laid_ext}
use Rattle.protocol.specs.Protocol.{witness_reasons, prove_reasons_with, prove_reasons}
use Rattle.protocol.proofs.SameValues.{reasons_ext}
use Rattle.sheet.specs.Sheet.{on_selectors, on_position, on_witness_with, on_witness, sheet_numbers_with, sheet_numbers}
use Rattle.transfer.specs.Transfer.{to_rows}
use Rattle.transfer.specs.Columns.{by_columns, columns_read, AsBefore}
use Rattle.transfer.proofs.ThereAndBack.{rows_read, rows_long}
use Rattle.transfer.proofs.AsBefore.{as_transferred}

pub same_values : (n : ℕ) (columns : List ℕ) (k : ℕ) → k < 3 * n → lent_witness n (to_rows n columns) k ≡ lent_by by_columns n columns k
unfolding lent_by by_columns
same_values = rows_read

module _ (p n : ℕ) (columns : List ℕ) (long : length columns ≡ witness_length n) where
  pub same_long : length (to_rows n columns) ≡ length columns
  same_long = rows_long n columns ∙ sym long

  module _ (e l : ℕ) (selectors labels publics transcript challenges blinders scratch : List ℕ) where
    abbrev beta : ℕ
    beta = get_or challenges 0 0

    abbrev gamma : ℕ
    gamma = get_or challenges 1 0

    abbrev C : Constraints
    C = lent_constraints n selectors labels

    pub prove_as_before : AsBefore (answer_of (prove_reasons e p n l selectors labels (to_rows n columns) publics transcript challenges blinders scratch)) (answer_of (prove_reasons_with by_columns e p n l selectors labels columns publics transcript challenges blinders scratch))
    prove_as_before =
        rw (ap answer_of same_reasons)
        (as_transferred p n columns long selectors (publics ++ (challenges ++ blinders)) (before (length columns))
        (circuit_reasons n l selectors labels ++ witness_reasons p n C (lent_public publics) (lent_by by_columns n columns) beta gamma))
      where
        -- the reasons before those of the elements, `m` being the length of the witness; and all of them, `looked` being those that look at it
        before : ℕ → List Reason
        before m =
            bad_field p ∷ retired_field p ∷ bad_rows p n (greatest_rows p) ∷ bad_publics n l
            ∷ bad_lengths (length selectors ∷ length labels ∷ m ∷ length publics ∷ length transcript ∷ length challenges ∷ (replicate e (length blinders) ++ (length scratch ∷ [])))
            (prove_due e n l)
            ∷ []

        all : ℕ → List Reason → List Reason
        all m looked = before m ++ (bad_element p (selectors ++ (to_rows n columns ++ (publics ++ (challenges ++ blinders)))) ∷ (circuit_reasons n l selectors labels ++ looked))

        same_reasons : prove_reasons e p n l selectors labels (to_rows n columns) publics transcript challenges blinders scratch
            ≡ all (length columns) (witness_reasons p n C (lent_public publics) (lent_by by_columns n columns) beta gamma)
        same_reasons =
            ap₂ all same_long (reasons_ext p n (lent_witness n (to_rows n columns)) (lent_by by_columns n columns) (same_values n columns) C (lent_public publics) beta gamma)

-- OF A SHEET

pub read_transferred : (s : List ℕ) (n l : ℕ) → tab (on_witness s n l) (witness_length n) ≡ to_rows n (columns_read s n l)
unfolding laid_by by_columns
read_transferred s n l =
    laid_ext n (on_position s n l) _ (λ k h. sym (get_or-tab (on_position s n l) (3 * n) k h))

pub numbers_as_before : (s : List ℕ) (p n l : ℕ) (before behind : List Reason)
    → AsBefore (answer_of (before ++ (sheet_numbers s p n l ++ behind))) (answer_of (before ++ (sheet_numbers_with by_columns s p n l ++ behind)))
numbers_as_before s p n l before behind =
    rw (read_transferred s n l)
    (as_transferred p n (columns_read s n l) (length-tab (on_witness_with by_columns s n l) (witness_length n)) (tab (on_selectors s n l) (selectors_length n)) _ before _)
