-- What is proved of every two sheets that are joined.
--
-- JoinedRightly one two   the joined sheet fits into the written buffer; reading it is accepted, also as a new sheet, and gives the joined numbers, with no line of blinders;
--                         these numbers are a circuit of 2n rows with the public inputs of both; its wiring never leads from one sheet's positions to the other's; and its
--                         contents satisfy it with its public inputs exactly if those of both sheets did
-- joined_rightly          THE THEOREM: so it is wherever no reason of `join` applies
-- join_fits               so the length that `join` answers is within the buffer
--
-- Assumes nothing.
use Rattle.std.specs.Prelude.{◌≡◌, refl, Bool, true, false, cond, List, ℕ, ◌+◌, ◌*◌, ◌≤◌, ◌<◌, length, Some, None}
use Rattle.std.proofs.Common.{sym, ap, ◌∙◌, arith, eqb-true}
use Rattle.field.specs.Reasons.{Answer, Outcome, given, answer_of, is_accepted}
use Rattle.circuit.specs.Circuit.{Circuit, permutation}
use Rattle.sheet.specs.Sheet.{sheet_p, sheet_n, sheet_l, is_blinded, read_answer, new_answer}
use Rattle.joining.specs.Joining.{on_sheet, constraints_of, Satisfied, from_second, joined_numbers, joined_text, joined_length, join_reasons, Joins}
use Rattle.joining.specs.Deciding.{Joinable, joinable_of}
use Rattle.joining.specs.Satisfaction.{joined_circuit, wiring_apart, both_of, joined_of}
use Rattle.joining.specs.Written.{joined_fits, joined_accepted, joined_new, joined_back, joined_plain}

pub record JoinedRightly (one two : List ℕ) : Type 0 where
  pub fits : length (joined_text one two) ≤ joined_length
  pub accepted : read_answer (joined_text one two) ≡ record { number = 0; detail = 0 }
  pub new : new_answer (joined_text one two) ≡ record { number = 0; detail = 0 }
  pub back : on_sheet (joined_text one two) ≡ joined_numbers (on_sheet one) (on_sheet two)
  pub plain : is_blinded (joined_text one two) (2 * sheet_n one) (sheet_l one + sheet_l two) ≡ false
  pub circuit : Circuit (sheet_p one) (2 * sheet_n one) (sheet_l one + sheet_l two) (constraints_of (joined_numbers (on_sheet one) (on_sheet two)))
  pub apart : (k : ℕ) → k < 3 * (2 * sheet_n one)
      → from_second (sheet_n one) (sheet_l one) (sheet_l two) (permutation (3 * (2 * sheet_n one)) (constraints_of (joined_numbers (on_sheet one) (on_sheet two))).label k)
      ≡ from_second (sheet_n one) (sheet_l one) (sheet_l two) k
  pub both : Satisfied (joined_numbers (on_sheet one) (on_sheet two)) → Satisfied (on_sheet one) × Satisfied (on_sheet two)
  pub satisfied : Satisfied (on_sheet one) → Satisfied (on_sheet two) → Satisfied (joined_numbers (on_sheet one) (on_sheet two))

pub joined_rightly : (one two : List ℕ) (room : ℕ) → (answer_of (join_reasons one two room)).number ≡ 0 → JoinedRightly one two
joined_rightly one two room e =
    let joinable : Joinable (on_sheet one) (on_sheet two) = joinable_of one two room e in
    record {
      fits = joined_fits (on_sheet one) (on_sheet two) joinable;
      accepted = joined_accepted (on_sheet one) (on_sheet two) joinable;
      new = joined_new (on_sheet one) (on_sheet two) joinable;
      back = joined_back (on_sheet one) (on_sheet two) joinable;
      plain = joined_plain (on_sheet one) (on_sheet two) joinable;
      circuit = joined_circuit (on_sheet one) (on_sheet two) joinable;
      apart = wiring_apart (on_sheet one) (on_sheet two) joinable;
      both = both_of (on_sheet one) (on_sheet two) joinable;
      satisfied = joined_of (on_sheet one) (on_sheet two) joinable;
    }

pub join_fits : (one two joined : List ℕ) (r : Outcome ℕ) (joined' : List ℕ) → Joins one two joined r joined' → given r ≤ joined_length
join_fits one two joined r joined' J = go (is_accepted r.answer) refl J.long
  where
    go : (b : Bool) → is_accepted r.answer ≡ b → r.value ≡ cond b (Some (length (joined_text one two))) None → given r ≤ joined_length
    go true e long =
        let none = ap (λ (a : Answer). a.number) (sym J.answer) ∙ eqb-true r.answer.number 0 e in
        rw long ((joined_rightly one two (length joined) none).fits)
    go false e long = rw long (omega arith)
