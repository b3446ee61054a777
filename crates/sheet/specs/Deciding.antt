-- The reasons of a sheet as the functions test them, and what is known past them.
--
-- table_circuit          the reasons of the circuit, 8 and 14, read off the table
-- table_numbers          the reasons of all its numbers, e lines (0 or 1) being there of blinders
-- Opened s p n l at      what is known where 1 does not apply: p, n, l, and line 1 starts at `at`
-- prime_line s           1, 2 and 16: the reasons of a new sheet's first line up to that of its prime
-- Decides s reasons r t  what deciding by these reasons promises of its outcome r and of the table t
-- found                  p, n and l are those of the sheet, where none applies
-- first_numbers, read_numbers   no reason of the first line has number 0, and none at all, where none of the lengths has
-- Taken s                what is known of a sheet where no reason applies
-- taken_of               an answer with number 0 means that it holds, and that no reason of the lengths applies
-- without_lengths        where no reason of the lengths applies, the answer is that of the reasons behind them
-- own_answer             so it is that of the sheet's own reasons
-- NEW SHEETS
-- new_numbers            no reason of a new sheet has number 0, where none of the lengths has
-- new_current            where no reason of a new sheet's first line applies up to that of its prime, the prime may be proved with
-- new_refused            where one applies, it is the answer
-- new_same               where the prime may be proved with, the answer is that of reading
-- new_of                 an answer with number 0 means that it may, and that no reason of reading applies
-- new_retired            over 97, where the first line is in form, the answer is 16, whatever stands behind
-- new_own                where no reason of the lengths applies, the answer is that of the new sheet's own reasons
--
-- Assumes nothing.
use Rattle.std.specs.Prelude.{◌≡◌, refl, ◌≢◌, true, false, cond, Some, None, List, [], ◌∷◌, ◌++◌, ℕ, ◌≤◌, ◌<◌, length}
use Rattle.std.proofs.Common.{sym, ap, ◌∙◌, arith, eq-eqb}
use Rattle.algebra.specs.Lists.{All, tab}
use Rattle.algebra.specs.Tables.{length-tab, all_left}
use Rattle.field.specs.Fields.{is_field, is_current}
use Rattle.field.specs.Lent.{Shape, shape_numbers, shaped}
use Rattle.field.specs.Reasons.{Answer, Outcome, Reason, answer_of, is_accepted, bad_rows, bad_publics, shape_reasons, bad_element, prime_reasons}
use Rattle.field.specs.ReasonLaws.{answer_of-append, numbers_append, both_none, refused_first, current_numbers, prime_current, current_answer}
use Rattle.circuit.specs.Buffers.{selectors_length, labels_length}
use Rattle.circuit.specs.Reasons.{circuit_reasons}
use Rattle.circuit.specs.RightlyLent.{RightCircuit, numbers_of_lem, circuit_of}
use Rattle.text.specs.Text.{field_at}
use Rattle.sheet.specs.declared.Sheet.{Sheet}
use Rattle.sheet.specs.Sheet.{sheet_rows, sheet_p, sheet_n, sheet_l, sheet_of, on_selectors, on_labels, sheet_elements, bad_first, first_reasons, line_reasons, sheet_numbers, behind_reasons, read_reasons, read_answer, new_reasons, new_answer}
use Rattle.sheet.specs.Table.{HeldAll, selectors_in, labels_in, table_elements}

abbrev pub table_circuit : ℕ → ℕ → List ℕ → List Reason
table_circuit n l t = circuit_reasons n l (tab (selectors_in t n) (selectors_length n)) (tab (labels_in t n) (labels_length n))

abbrev pub table_numbers : (e p n l : ℕ) (t : List ℕ) → List Reason
table_numbers e p n l t = bad_element p (table_elements e n l t) ∷ table_circuit n l t

pub record Opened (s : List ℕ) (p n l at : ℕ) : Type 0 where
  pub short : length s ≤ 65536
  pub p_is : p ≡ sheet_p s
  pub n_is : n ≡ sheet_n s
  pub l_is : l ≡ sheet_l s
  pub starts : at ≡ field_at s 0 3
  pub within : at ≤ length s

abbrev pub prime_line : List ℕ → List Reason
prime_line s = bad_first s ∷ prime_reasons (sheet_p s)

pub record Decides (s : List ℕ) (reasons : List Reason) (r : Outcome Sheet) (t : List ℕ) : Type 0 where
  pub answer : r.answer ≡ answer_of reasons
  pub value : r.value ≡ cond (is_accepted r.answer) (Some (sheet_of s)) None
  pub held : r.answer.number ≡ 0 → HeldAll s (sheet_n s) (sheet_l s) t

pub found : {s : List ℕ} {reasons : List Reason} {r : Outcome Sheet} {t : List ℕ} → Decides s reasons r t → r.answer.number ≡ 0
    → r.value ≡ Some (sheet_of s)
found {r = r} D e = D.value ∙ rw (eq-eqb r.answer.number 0 e)

-- WHERE NO REASON APPLIES

pub first_numbers : (s : List ℕ) → All (λ r. r.number ≢ 0) (first_reasons s)
first_numbers s = (omega arith, shape_numbers (sheet_p s) (sheet_n s) (sheet_l s) sheet_rows)

pub read_numbers : (s : List ℕ) (lengths : List Reason) → All (λ r. r.number ≢ 0) lengths → All (λ r. r.number ≢ 0) (read_reasons s lengths)
read_numbers s lengths others =
    numbers_append (first_reasons s) (line_reasons s (sheet_n s) (sheet_l s) ++ (lengths ++ sheet_numbers s (sheet_p s) (sheet_n s) (sheet_l s))) (first_numbers s)
    (omega arith, numbers_append lengths (sheet_numbers s (sheet_p s) (sheet_n s) (sheet_l s)) others (omega arith, (omega arith, (omega arith, tt))))

pub record Taken (s : List ℕ) : Type 0 where
  pub shape : Shape (sheet_p s) (sheet_n s) (sheet_l s) sheet_rows
  pub elements : All (λ (x : ℕ). x < sheet_p s) (sheet_elements s (sheet_n s) (sheet_l s))
  pub circuit-right :
      RightCircuit (sheet_p s) (sheet_n s) (sheet_l s) (tab (on_selectors s (sheet_n s) (sheet_l s)) (selectors_length (sheet_n s))) (tab (on_labels s (sheet_n s) (sheet_l s)) (labels_length (sheet_n s)))

pub taken_of : (s : List ℕ) (lengths : List Reason) → All (λ r. r.number ≢ 0) lengths → (answer_of (read_reasons s lengths)).number ≡ 0
    → Taken s × ((answer_of lengths).number ≡ 0)
taken_of s lengths others e =
    let p : ℕ = sheet_p s in
    let n : ℕ = sheet_n s in
    let l : ℕ = sheet_l s in
    let selectors : List ℕ = tab (on_selectors s n l) (selectors_length n) in
    let labels : List ℕ = tab (on_labels s n l) (labels_length n) in
    let first = both_none (first_reasons s) (behind_reasons s p n l lengths) (first_numbers s) e in
    let lines = both_none (line_reasons s n l) (lengths ++ sheet_numbers s p n l) (omega arith, tt) first.1 in
    let rest = both_none lengths (sheet_numbers s p n l) others lines.1 in
    let shape = shaped p n l sheet_rows _ refl (both_none (bad_first s ∷ []) (shape_reasons p n l sheet_rows) (omega arith, tt) first.0).1 in
    let numbers = numbers_of_lem p n l (sheet_elements s n l) selectors labels rest.1 in (
      record {
        shape = shape;
        elements = numbers.0;
        circuit-right =
            circuit_of shape.publics_few
            (record { long = length-tab (on_selectors s n l) (selectors_length n); below = all_left (λ (x : ℕ). x < p) selectors _ numbers.0 })
            (record { long = length-tab (on_labels s n l) (labels_length n); below = numbers.1 })
            numbers.2;
      },
      rest.0,
    )

without_lengths : (lengths rest : List Reason) → All (λ r. r.number ≢ 0) lengths → (answer_of lengths).number ≡ 0 → answer_of (lengths ++ rest) ≡ answer_of rest
without_lengths lengths rest others e = rw (answer_of-append lengths rest others, eq-eqb (answer_of lengths).number 0 e)

pub own_answer : (s : List ℕ) (lengths : List Reason) → All (λ r. r.number ≢ 0) lengths → (answer_of lengths).number ≡ 0
    → answer_of (read_reasons s lengths) ≡ read_answer s
own_answer s lengths others e = rw (without_lengths lengths (sheet_numbers s (sheet_p s) (sheet_n s) (sheet_l s)) others e)

-- NEW SHEETS

-- what stands behind the reason of the prime
abbrev behind_prime : (s : List ℕ) (lengths : List Reason) → List Reason
behind_prime s lengths =
    bad_rows (sheet_p s) (sheet_n s) sheet_rows ∷ bad_publics (sheet_n s) (sheet_l s) ∷ behind_reasons s (sheet_p s) (sheet_n s) (sheet_l s) lengths

prime_numbers : (s : List ℕ) → All (λ r. r.number ≢ 0) (prime_line s)
prime_numbers s = (omega arith, (omega arith, (omega arith, tt)))

pub new_numbers : (s : List ℕ) (lengths : List Reason) → All (λ r. r.number ≢ 0) lengths → All (λ r. r.number ≢ 0) (new_reasons s lengths)
new_numbers s lengths others = current_numbers (sheet_p s) (read_reasons s lengths) (read_numbers s lengths others)

pub new_current : (s : List ℕ) (a : Answer) → a ≡ answer_of (prime_line s) → a.number ≡ 0 → is_current (sheet_p s) ≡ true
new_current s a e h =
    let both = both_none (bad_first s ∷ []) (prime_reasons (sheet_p s)) (omega arith, tt) (ap (λ (b : Answer). b.number) (sym e) ∙ h) in
    prime_current (sheet_p s) _ refl both.1

pub new_refused : (s : List ℕ) (lengths : List Reason) (a : Answer) → a ≡ answer_of (prime_line s) → (a.number ≡ 0 → ⊥) → a ≡ answer_of (new_reasons s lengths)
new_refused s lengths a e h = refused_first (prime_line s) (behind_prime s lengths) (prime_numbers s) a e h

pub new_same : (s : List ℕ) (lengths : List Reason) → is_current (sheet_p s) ≡ true → answer_of (new_reasons s lengths) ≡ answer_of (read_reasons s lengths)
new_same s lengths e = current_answer (sheet_p s) e (read_reasons s lengths)

pub new_of : (s : List ℕ) (lengths : List Reason) → (answer_of (new_reasons s lengths)).number ≡ 0
    → (is_current (sheet_p s) ≡ true) × ((answer_of (read_reasons s lengths)).number ≡ 0)
new_of s lengths e =
    let yes = new_current s _ refl (both_none (prime_line s) (behind_prime s lengths) (prime_numbers s) e).0 in
    (yes, ap (λ (a : Answer). a.number) (sym (new_same s lengths yes)) ∙ e)

pub new_retired : (s : List ℕ) (lengths : List Reason) → (bad_first s).applies ≡ false → sheet_p s ≡ 97 → answer_of (new_reasons s lengths) ≡ record { number = 16; detail = 0 }
unfolding is_field is_current
new_retired s lengths h e =
    let is : record { number = 16; detail = 0 } ≡ answer_of (prime_line s) = rw (h, e) in
    sym (new_refused s lengths _ is (λ z. omega (arith, z)))

pub new_own : (s : List ℕ) (lengths : List Reason) → All (λ r. r.number ≢ 0) lengths → (answer_of lengths).number ≡ 0
    → answer_of (new_reasons s lengths) ≡ new_answer s
new_own s lengths others e = rw (without_lengths lengths (sheet_numbers s (sheet_p s) (sheet_n s) (sheet_l s)) others e)
