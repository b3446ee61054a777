-- Text that is put into a buffer, run after run.
--
-- field_bytes                 the bytes of a number on a line, with that which stands before or behind it: at most ten digits, and one
-- Puts at bytes out r out'    the bytes stand behind the first `at` bytes of the buffer, and r is where the next byte goes; what stands from r
--                             on is not told
-- puts_none, puts_byte, puts_both   no bytes; one byte; one run and then another
-- word_turn                   a word, one byte more
-- digits_none, digits_last, digits_more   the last digits of a number: none of them; one digit; those before the last one, and that one
-- length_fields               fields have at most field_bytes bytes each
-- length_line                 a line that begins with a word has the word, at most field_bytes bytes for each number, and byte 10
-- length_numbers              a line of numbers has at most field_bytes bytes for each
-- numbers_parts               a line of numbers: the first in decimal, the fields of the others, and byte 10
-- fields_append, fields_more  the fields of two lists of numbers, and of one number more
-- fields_none, fields_turn    no fields are put; one field more is
-- puts_fits                   what is put is within the buffer
-- puts_cleared                a text that is put at the buffer's start, and zeros for all that stands behind it
--
-- Assumes nothing.
use Rattle.std.specs.Prelude.{◌≡◌, refl, ◌≢◌, List, [], ◌∷◌, ◌++◌, ℕ, zero, suc, ◌+◌, ◌*◌, ◌-◌, ◌/◌, ◌%◌, ◌≤◌, ◌<◌, length, get_or, take, drop, replicate, set}
use Rattle.std.proofs.Common.{sym, ap, ap₂, ◌∙◌, append_assoc, append-nil, add-one, arith, length-append, length-take, length-drop, take-suc, take-suc-set}
use borrow.Rule.Slice.PartMut.{put_mid}
use Rattle.algebra.specs.Ends.{rest_put}
use Rattle.text.specs.Text.{decimal_of, decimal, fields_text, line_text, fields_of, line_of}
use Rattle.text.specs.Decimal.{decimal_small, decimal_more, decimal_few}

abbrev pub field_bytes : ℕ
field_bytes = 11

pub record Puts (at : ℕ) (bytes out : List ℕ) (r : ℕ) (out' : List ℕ) : Type 0 where
  pub place : r ≡ at + length bytes
  pub text : take r out' ≡ take at out ++ bytes

pub puts_none : (at : ℕ) (out : List ℕ) → Puts at [] out at out
puts_none at out = record { place = omega arith; text = sym (append-nil (take at out)) }

pub puts_byte : (at b : ℕ) (out : List ℕ) → at < length out → Puts at (b ∷ []) out (at + 1) (set out at b)
puts_byte at b out h = record { place = refl; text = rw add-one (take-suc-set out at b h) }

pub puts_both : {at r s : ℕ} {x y out out' out'' : List ℕ} → Puts at x out r out' → Puts r y out' s out'' → Puts at (x ++ y) out s out''
puts_both {at} {r} {s} {x} {y} {out} {out'} {out''} P Q =
    record {
      place = omega (arith, P.place, Q.place, length-append x y);
      text = Q.text ∙ ap (λ (l : List ℕ). l ++ y) P.text ∙ append_assoc (take at out) x y;
    }

-- a run that grows by one turn of a loop
pub word_turn : {at r s : ℕ} {out out' out'' : List ℕ} (w : List ℕ) (i : ℕ) → i < length w
    → Puts at (take i w) out r out' → Puts r (get_or w i 0 ∷ []) out' s out'' → Puts at (take (i + 1) w) out s out''
word_turn w i h P Q = rw (add-one i, take-suc w i 0 h) (puts_both P Q)

pub digits_none : (m v : ℕ) → m ≡ 0 → decimal_of m v ≡ []
unfolding decimal_of
digits_none m v e = rw e

pub digits_last : (m v : ℕ) → m ≢ 0 → v < 10 → decimal_of m v ≡ (48 + v) ∷ []
digits_last zero v h l = absurd (h refl)
digits_last (suc m) v h l = decimal_small m v l

pub digits_more : (m v : ℕ) → m ≢ 0 → 10 ≤ v → decimal_of m v ≡ decimal_of (m - 1) (v / 10) ++ ((48 + v % 10) ∷ [])
digits_more zero v h l = absurd (h refl)
digits_more (suc m) v h l = let e : suc m - 1 ≡ m = omega arith in rw e (decimal_more m v l)

pub length_fields : (vs : List ℕ) → length (fields_text vs) ≤ field_bytes * length vs
unfolding fields_text
length_fields [] = omega arith
length_fields (v ∷ vs) = omega (arith, length-append (decimal v) (fields_text vs), decimal_few 10 v, length_fields vs)

pub length_line : (word vs : List ℕ) → length (line_text word vs) ≤ length word + field_bytes * length vs + 1
length_line word vs =
    omega (arith, length-append word (fields_text vs ++ (10 ∷ [])), length-append (fields_text vs) (10 ∷ []), length_fields vs)

pub length_numbers : (vs : List ℕ) → 0 < length vs → length (line_of vs) ≤ field_bytes * length vs
unfolding fields_of
length_numbers [] h = absurd (omega arith)
length_numbers (v ∷ vs) h =
    omega (arith, length-append (decimal v ++ fields_text vs) (10 ∷ []), length-append (decimal v) (fields_text vs), decimal_few 10 v, length_fields vs)

pub numbers_parts : (vs : List ℕ) → 0 < length vs → line_of vs ≡ decimal (get_or vs 0 0) ++ (fields_text (drop 1 vs) ++ (10 ∷ []))
unfolding fields_of
numbers_parts [] h = absurd (omega arith)
numbers_parts (v ∷ vs) h = append_assoc (decimal v) (fields_text vs) (10 ∷ [])

pub fields_append : (us vs : List ℕ) → fields_text (us ++ vs) ≡ fields_text us ++ fields_text vs
unfolding fields_text
fields_append [] vs = refl
fields_append (u ∷ us) vs =
    ap (λ (l : List ℕ). 44 ∷ l) (ap (λ (l : List ℕ). decimal u ++ l) (fields_append us vs) ∙ sym (append_assoc (decimal u) (fields_text us) (fields_text vs)))

pub fields_more : (vs : List ℕ) (i : ℕ) → i < length vs
    → fields_text (take (i + 1) vs) ≡ fields_text (take i vs) ++ (44 ∷ decimal (get_or vs i 0))
unfolding fields_text
fields_more vs i h =
    rw (add-one i, take-suc vs i 0 h, fields_append (take i vs) (get_or vs i 0 ∷ []), append-nil (decimal (get_or vs i 0)))

pub fields_none : (at : ℕ) (out : List ℕ) → Puts at (fields_text []) out at out
unfolding fields_text
fields_none at out = puts_none at out

pub fields_turn : {at r s : ℕ} {out out' out'' : List ℕ} (vs : List ℕ) (i : ℕ) → i < length vs
    → Puts at (fields_text (take i vs)) out r out' → Puts r (44 ∷ decimal (get_or vs i 0)) out' s out'' → Puts at (fields_text (take (i + 1) vs)) out s out''
fields_turn vs i h P Q = rw (fields_more vs i h) (puts_both P Q)

-- A TEXT AND ZEROS BEHIND IT

pub puts_fits : {bytes out : List ℕ} (r : ℕ) (out' : List ℕ) → Puts 0 bytes out r out' → r ≤ length out'
puts_fits r out' P = omega (arith, P.place, ap length P.text, length-take r out')

pub puts_cleared : (bytes out : List ℕ) (r : ℕ) (out' w : List ℕ) → Puts 0 bytes out r out' → w ≡ replicate (length (take (length out' - r) (drop r out'))) 0
    → put_mid r (length out' - r) out' w ≡ bytes ++ replicate (length out' - length bytes) 0
puts_cleared bytes out r out' w P e =
    let long : length (take (length out' - r) (drop r out')) ≡ length out' - length bytes = simp (length-take, length-drop) (omega (arith, P.place)) in
    rest_put r out' w ∙ ap₂ (λ (a b : List ℕ). a ++ b) P.text (e ∙ ap (λ (k : ℕ). replicate k 0) long)
