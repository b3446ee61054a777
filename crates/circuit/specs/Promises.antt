-- What the two public calls of this crate promise.
--
-- Permutes p n labels positions r positions'      what `permutation` promises of its answer r and of the lent positions afterwards
-- any_rows n                 n is a number of rows that one of the three primes has
-- Part                       a part of a lent buffer: the buffer, where the part starts, how many numbers it has
-- no_part transcript         the empty part at the transcript's start
-- prepared_place n s prepared               polynomial s of a lent prepared circuit
-- wire_place e n c transcript, z_place, t_place   the wire of column c, z and t of a lent transcript
-- numbered_part e n k prepared transcript   polynomial k of lent buffers of the right lengths
-- polynomial_part n k prepared transcript   the same of any lent buffers: none where n or a length is wrong
-- Hands P r                  what `polynomial` promises of the part r that it hands back: it has the numbers of P, and lies where they lie
--
-- Assumes nothing.
use Rattle.std.specs.Prelude.{◌≡◌, Bool, cond, ◌&&◌, ◌||◌, List, ℕ, ◌+◌, ◌*◌, eqb, length, get_or, take, drop}
use Rattle.std.specs.Borrow.{Bor}
use Rattle.algebra.specs.Lists.{tab}
use Rattle.field.specs.Fields.{is_rows}
use Rattle.field.specs.Reasons.{Answer, answer_of, is_accepted}
use Rattle.circuit.specs.Circuit.{permutation}
use Rattle.circuit.specs.Buffers.{labels_length, prepared_length, wire_length, z_length, quotient_length, transcript_length, blinded_by, prepared_start, wire_start, z_start, t_start, by_number}
use Rattle.circuit.specs.Reasons.{permutation_reasons}

-- refused: the positions as they came; accepted: the position that the permutation leads to from each. The labels are only read.
pub record Permutes (p n : ℕ) (labels positions : List ℕ) (r : Answer) (positions' : List ℕ) : Type 0 where
  pub answer : r ≡ answer_of (permutation_reasons p n labels positions)
  pub written : positions' ≡ cond (is_accepted r) (tab (permutation (labels_length n) (λ k. get_or labels k 0)) (labels_length n)) positions

unfoldable pub any_rows : ℕ → Bool
any_rows n = is_rows 17 n || is_rows 97 n || is_rows 2013265921 n

pub record Part : Type 0 where
  pub buffer : Bor (List ℕ)
  pub start : ℕ
  pub count : ℕ

abbrev pub no_part : Bor (List ℕ) → Part
no_part transcript = record { buffer = transcript; start = 0; count = 0 }

abbrev pub prepared_place : ℕ → ℕ → Bor (List ℕ) → Part
prepared_place n s prepared = record { buffer = prepared; start = prepared_start n s; count = n }

abbrev pub wire_place : ℕ → ℕ → ℕ → Bor (List ℕ) → Part
wire_place e n c transcript = record { buffer = transcript; start = wire_start e n c; count = wire_length e n }

abbrev pub z_place : ℕ → ℕ → Bor (List ℕ) → Part
z_place e n transcript = record { buffer = transcript; start = z_start e n; count = z_length e n }

abbrev pub t_place : ℕ → ℕ → Bor (List ℕ) → Part
t_place e n transcript = record { buffer = transcript; start = t_start e n; count = quotient_length e n }

abbrev pub numbered_part : ℕ → ℕ → ℕ → Bor (List ℕ) → Bor (List ℕ) → Part
numbered_part e n k prepared transcript =
    by_number k (λ s. prepared_place n s prepared) (λ c. wire_place e n c transcript) (z_place e n transcript) (t_place e n transcript) (no_part transcript)

abbrev pub polynomial_part : ℕ → ℕ → Bor (List ℕ) → Bor (List ℕ) → Part
polynomial_part n k prepared transcript =
    let e : ℕ = blinded_by n transcript.now in
    cond (any_rows n && (eqb (length prepared.now) (prepared_length n) && eqb (length transcript.now) (transcript_length e n)))
    (numbered_part e n k prepared transcript)
    (no_part transcript)

-- a number takes 4 bytes
pub record Hands (P : Part) (r : Bor (List ℕ)) : Type 0 where
  pub numbers : r.now ≡ take P.count (drop P.start P.buffer.now)
  pub place : r.ref_ptr ≡ (P.buffer.ref_ptr.0, P.start * 4 + P.buffer.ref_ptr.1)
