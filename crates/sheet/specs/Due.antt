-- How many numbers a line of a sheet has, and how many lines of blinders there are.
--
-- due_circuit, due_witness, due_publics, due_challenges, due_blinders   by where it stands
-- picked              what holds of both of two things holds of the one that a test picks
-- blinded_most        at most one line of blinders is there
-- blinded_lines       how many are, where it is known whether one is
-- some_due, due_most  every line has a number, and at most as many as the table has words for it
--
-- Assumes nothing.
use Rattle.std.specs.Prelude.{◌≡◌, Bool, true, false, cond, List, ℕ, ◌+◌, ◌≤◌, ◌<◌, eqb, leb}
use Rattle.std.proofs.Common.{ap, ◌∙◌, arith}
use borrow.Author.Tests.{ne_eqb, le-leb, lt-leb}
use Rattle.circuit.specs.Buffers.{blinder_count}
use Rattle.sheet.specs.Sheet.{challenge_count, gate_fields, fields_due, is_blinded, sheet_blinded}
use Rattle.sheet.specs.Table.{line_words}

module _ (n l i : ℕ) where
  pub due_circuit : 0 < i → i ≤ n → fields_due n l i ≡ gate_fields
  unfolding fields_due
  due_circuit g h = rw (ne_eqb i 0 (λ u. omega arith), le-leb i n h)

  pub due_witness : n < i → i ≤ n + n → fields_due n l i ≡ 3
  unfolding fields_due
  due_witness g h = rw (ne_eqb i 0 (λ u. omega arith), lt-leb i n g, le-leb i (n + n) h)

  pub due_publics : n + n < i → i ≤ n + n + l → fields_due n l i ≡ 1
  unfolding fields_due
  due_publics g h =
      rw (ne_eqb i 0 (λ u. omega arith), lt-leb i n (omega arith), lt-leb i (n + n) g, le-leb i (n + n + l) h)

  pub due_challenges : i ≡ n + n + l + 1 → fields_due n l i ≡ challenge_count
  unfolding fields_due
  due_challenges e =
      rw (ne_eqb i 0 (λ u. omega arith), lt-leb i n (omega arith), lt-leb i (n + n) (omega arith), lt-leb i (n + n + l) (omega arith), le-leb i (n + n + l + 1) (omega arith))

  pub due_blinders : n + n + l + 1 < i → fields_due n l i ≡ blinder_count
  unfolding fields_due
  due_blinders g =
      rw (ne_eqb i 0 (λ u. omega arith), lt-leb i n (omega arith), lt-leb i (n + n) (omega arith), lt-leb i (n + n + l) (omega arith), lt-leb i (n + n + l + 1) g)

pub picked : {A : Type 0} (P : A → Type 0) (b : Bool) {x y : A} → P x → P y → P (cond b x y)
picked P true p q = p
picked P false p q = q

pub blinded_most : (s : List ℕ) (n l : ℕ) → sheet_blinded s n l ≤ 1
blinded_most s n l = picked (λ (e : ℕ). e ≤ 1) (is_blinded s n l) (omega arith) (omega arith)

pub blinded_lines : (s : List ℕ) (n l e : ℕ) (b : Bool) → b ≡ is_blinded s n l → e ≡ cond b 1 0 → e ≡ sheet_blinded s n l
blinded_lines s n l e b f g = g ∙ ap (λ (b : Bool). cond b 1 0) f

pub some_due : (n l i : ℕ) → 0 < fields_due n l i
unfolding fields_due
some_due n l i =
    let P : ℕ → Type 0 = λ m. 0 < m in
    picked P (eqb i 0) (omega arith)
    (picked P (leb i n) (omega arith) (picked P (leb i (n + n)) (omega arith) (picked P (leb i (n + n + l)) (omega arith) (picked P (leb i (n + n + l + 1)) (omega arith) (omega arith)))))

pub due_most : (n l i : ℕ) → fields_due n l i ≤ line_words
unfolding fields_due
due_most n l i =
    let P : ℕ → Type 0 = λ m. m ≤ line_words in
    picked P (eqb i 0) (omega arith)
    (picked P (leb i n) (omega arith) (picked P (leb i (n + n)) (omega arith) (picked P (leb i (n + n + l)) (omega arith) (picked P (leb i (n + n + l + 1)) (omega arith) (omega arith)))))
