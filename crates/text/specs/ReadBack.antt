-- What is written is read back: a line of numbers below 2^32, wherever it stands in a text, is a line, and its numbers are those.
--
-- number_ends, number_back, is_number   a number in decimal, with a byte behind it that is no digit: where it ends, what it is, that it is one
-- is_first_field        it is the first field of a line, where that byte closes the field
-- field_later, is_field_later   a line's later fields are the fields of the line without its first one
-- ReadBack s at vs      the line vs is read back from `at` on
-- read_back             it is, where it stands there
-- line_is, line_ends, line_numbers   THE THEOREM: in a text that is what comes before, the line, and what follows, the line is one, ends
--                       where its bytes end, and its numbers are those that were written
--
-- Assumes nothing.
use Rattle.std.specs.Prelude.{◌≡◌, Bool, false, ◌&&◌, ◌||◌, eqb, length, get_or}
use Rattle.std.proofs.Math.Path.{refl, ap, ap₂, subst⁻¹}
use Rattle.std.proofs.Common.{sym, subst, ◌∙◌, arith, length-append}
use Rattle.std.proofs.Math.Bool.{true, not, cond, false≢true}
use mathlib.Core.List.{List, [], ◌∷◌, ◌++◌, append_assoc, append-nil}
use Prim.Native.Nat.{ℕ, zero, suc, ◌+◌, ◌-◌, ◌≤◌, ◌<◌}
use Rattle.std.proofs.Math.Decide.{dec_lt, ℕ_discrete}
use Rattle.std.proofs.Math.Dec.{ltb, eqb-suc-suc}
use borrow.Author.Tests.{lt-ltb, eq-eqb, ne_eqb}
use Rattle.algebra.specs.Modular.{first}
use Rattle.algebra.specs.Lists.{All}
use Rattle.algebra.specs.Tables.{all_get_d}
use Rattle.algebra.specs.Search.{First, first_is, first_some, first_none}
use Rattle.text.specs.Text.{is_digit, digits_end, value_of, is_number_at, number_at, field_at, closing, is_field_at, is_line_at, decimal, fields_text, fields_of, line_of}
use Rattle.text.specs.Decimal.{Written, written_in, written_front, written_back, decimal_small, decimal_digits, decimal_some, decimal_lead, decimal_value, value_written}

-- A NUMBER

-- a run of digits ends where the next byte is no digit
run_ends : (s : List ℕ) (at r : ℕ) → at ≤ r → r < length s → ((i : ℕ) → at ≤ i → i < r → is_digit (get_or s i 0) ≡ true) → is_digit (get_or s r 0) ≡ false
    → digits_end s at ≡ r
unfolding digits_end
run_ends s at r h l digits stop = go (dec_lt (first test at (length s - at)) r)
  where
    test : ℕ → Bool
    test k = not (is_digit (get_or s k 0))

    found : First test at (length s - at) (first test at (length s - at))
    found = first_is test at (length s - at)

    upper : first test at (length s - at) ≤ r
    upper = (first_some test at (length s - at) (first test at (length s - at)) found r h (omega arith) (ap not stop)).0

    go : Dec (first test at (length s - at) < r) → first test at (length s - at) ≡ r
    go (yes k) =
        absurd (false≢true (sym (ap not (digits (first test at (length s - at)) found.low k)) ∙ found.hit (omega arith)))
    go (no k) = omega (arith, upper)

module _ (s : List ℕ) (at v b : ℕ) (rest : List ℕ) (small : v < 4294967296) (other : is_digit b ≡ false) (w : Written s at (decimal v ++ (b ∷ rest)))
    (within : at + length (decimal v) < length s) where
  front : Written s at (decimal v)
  front = written_front s at (decimal v) (b ∷ rest) w

  behind : get_or s (at + length (decimal v)) 0 ≡ b
  behind =
      ap (λ (k : ℕ). get_or s k 0) (omega arith) ∙ written_back s at (decimal v) (b ∷ rest) w 0 (omega arith)

  pub number_ends : digits_end s at ≡ at + length (decimal v)
  number_ends =
      run_ends s at (at + length (decimal v)) (omega arith) within
      (λ i h l.
      let e : at + (i - at) ≡ i = omega arith in
      ap is_digit (ap (λ (k : ℕ). get_or s k 0) (sym e) ∙ front (i - at) (omega arith))
      ∙ all_get_d (λ d. is_digit d ≡ true) (decimal v) (decimal_digits 10 v) (i - at) (omega arith))
      (ap is_digit behind ∙ other)

  digits_are : digits_end s at - at ≡ length (decimal v)
  digits_are = omega (arith, number_ends)

  value_is : value_of s at (length (decimal v)) ≡ v
  value_is = value_written s at (decimal v) front ∙ decimal_value 10 v (omega arith)

  pub number_back : number_at s at ≡ v
  unfolding number_at
  number_back = ap (value_of s at) digits_are ∙ value_is

  -- one digit, or no leading zero
  lead : (eqb (length (decimal v)) 1 || not (eqb (get_or s at 0) 48)) ≡ true
  lead = go (ℕ_discrete v 0)
    where
      go : Dec (v ≡ 0) → (eqb (length (decimal v)) 1 || not (eqb (get_or s at 0) 48)) ≡ true
      go (yes e) = rw (eq-eqb (length (decimal v)) 1 (ap length (decimal_small 9 v (omega arith))))
      go (no e) =
          let first_byte : get_or s at 0 ≡ get_or (decimal v) 0 0 = ap (λ (k : ℕ). get_or s k 0) (omega arith) ∙ front 0 (decimal_some 9 v) in
          let high : 48 < get_or (decimal v) 0 0 = decimal_lead 10 v (omega arith) (omega arith) in
          or_true (eqb (length (decimal v)) 1) (not (eqb (get_or s at 0) 48)) (ap not (ne_eqb (get_or s at 0) 48 (λ q. omega arith)))
        where
          or_true : (a b : Bool) → b ≡ true → (a || b) ≡ true
          or_true true b u = refl
          or_true false b u = u

  pub is_number : is_number_at s at ≡ true
  unfolding is_number_at
  is_number =
      ap (λ (k : ℕ). (ltb 0 k && (eqb k 1 || not (eqb (get_or s at 0) 48))) && ltb (value_of s at k) 4294967296) digits_are
      ∙ ap₂ (λ (a c : Bool). (a && (eqb (length (decimal v)) 1 || not (eqb (get_or s at 0) 48))) && c)
      (lt-ltb 0 (length (decimal v)) (decimal_some 9 v))
      (ap (λ (k : ℕ). ltb k 4294967296) value_is ∙ lt-ltb v 4294967296 small)
      ∙ ap (λ (a : Bool). a && true) lead

  closes : eqb (get_or s (digits_end s at) 0) b ≡ true
  closes = eq-eqb (get_or s (digits_end s at) 0) b (ap (λ (k : ℕ). get_or s k 0) number_ends ∙ behind)

  pub is_first_field : (k : ℕ) → closing k 0 ≡ b → is_field_at s at k 0 ≡ true
  unfolding is_field_at field_at
  is_first_field k e =
      ap₂ (λ (a c : Bool). a && c) is_number (ap (eqb (get_or s (digits_end s at) 0)) e ∙ closes)

-- FIELDS

pub field_later : (s : List ℕ) (at j : ℕ) → field_at s at (suc j) ≡ field_at s (suc (digits_end s at)) j
unfolding field_at
field_later s at zero = refl
field_later s at (suc j) = ap (λ (k : ℕ). suc (digits_end s k)) (field_later s at j)

pub is_field_later : (s : List ℕ) (at k j : ℕ) → is_field_at s at (suc k) (suc j) ≡ is_field_at s (suc (digits_end s at)) k j
unfolding is_field_at
is_field_later s at k j =
    ap₂ (λ (f : ℕ) (t : Bool). is_number_at s f && eqb (get_or s (digits_end s f) 0) (cond t 10 44)) (field_later s at j) (eqb-suc-suc (suc j) k)

-- A LINE

pub record ReadBack (s : List ℕ) (at : ℕ) (vs : List ℕ) : Type 0 where
  pub ends : field_at s at (length vs) ≡ at + length (line_of vs)
  pub fields : (j : ℕ) → j < length vs → is_field_at s at (length vs) j ≡ true
  pub numbers : (j : ℕ) → j < length vs → number_at s (field_at s at j) ≡ get_or vs j 0

-- the last number
module _ (s : List ℕ) (at v : ℕ) (small : v < 4294967296) (w : Written s at (line_of (v ∷ []))) (within : at + length (line_of (v ∷ [])) ≤ length s) where
  last_bytes : line_of (v ∷ []) ≡ decimal v ++ (10 ∷ [])
  unfolding fields_of fields_text
  last_bytes = ap (λ (d : List ℕ). d ++ (10 ∷ [])) (append-nil (decimal v))

  last_long : length (line_of (v ∷ [])) ≡ length (decimal v) + 1
  last_long = ap length last_bytes ∙ length-append (decimal v) (10 ∷ [])

  last_stands : Written s at (decimal v ++ (10 ∷ []))
  last_stands = subst (Written s at) last_bytes w

  last_in_text : at + length (decimal v) < length s
  last_in_text = omega (arith, last_long)

  newline : is_digit 10 ≡ false
  unfolding is_digit
  newline = refl

  back_last : ReadBack s at (v ∷ [])
  unfolding field_at
  back_last = record {
    ends = ap suc (number_ends s at v 10 [] small newline last_stands last_in_text) ∙ omega (arith, last_long);
    fields = λ j h. here j h;
    numbers = λ j h. number j h;
  }
    where
      here : (j : ℕ) → j < 1 → is_field_at s at 1 j ≡ true
      here zero h = is_first_field s at v 10 [] small newline last_stands last_in_text 1 refl
      here (suc j) h = absurd (omega arith)

      number : (j : ℕ) → j < 1 → number_at s (field_at s at j) ≡ get_or (v ∷ []) j 0
      number zero h = number_back s at v 10 [] small newline last_stands last_in_text
      number (suc j) h = absurd (omega arith)

-- a number with others behind it
module _ (s : List ℕ) (at v u : ℕ) (us : List ℕ) (small : v < 4294967296) (w : Written s at (line_of (v ∷ u ∷ us)))
    (within : at + length (line_of (v ∷ u ∷ us)) ≤ length s) where
  bytes : line_of (v ∷ u ∷ us) ≡ decimal v ++ (44 ∷ line_of (u ∷ us))
  unfolding fields_of fields_text
  bytes = append_assoc (decimal v) (44 ∷ fields_of (u ∷ us)) (10 ∷ [])

  long : length (line_of (v ∷ u ∷ us)) ≡ length (decimal v) + suc (length (line_of (u ∷ us)))
  long = ap length bytes ∙ length-append (decimal v) (44 ∷ line_of (u ∷ us))

  stands : Written s at (decimal v ++ (44 ∷ line_of (u ∷ us)))
  stands = subst (Written s at) bytes w

  in_text : at + length (decimal v) < length s
  in_text = omega (arith, long)

  comma : is_digit 44 ≡ false
  unfolding is_digit
  comma = refl

  next : suc (digits_end s at) ≡ at + length (decimal v) + 1
  next = omega (arith, number_ends s at v 44 (line_of (u ∷ us)) small comma stands in_text)

  rest_stands : Written s (suc (digits_end s at)) (line_of (u ∷ us))
  rest_stands =
      subst⁻¹ (λ (k : ℕ). Written s k (line_of (u ∷ us))) next
      (written_back s (at + length (decimal v)) (44 ∷ []) (line_of (u ∷ us)) (written_back s at (decimal v) (44 ∷ line_of (u ∷ us)) stands))

  rest_within : suc (digits_end s at) + length (line_of (u ∷ us)) ≤ length s
  rest_within = omega (arith, long, next)

  back_more : ReadBack s (suc (digits_end s at)) (u ∷ us) → ReadBack s at (v ∷ u ∷ us)
  unfolding field_at
  back_more R =
      record {
        ends = field_later s at (length (u ∷ us)) ∙ R.ends ∙ omega (arith, long, next);
        fields = λ j h. here j h;
        numbers = λ j h. number j h;
      }
    where
      here : (j : ℕ) → j < suc (length (u ∷ us)) → is_field_at s at (suc (length (u ∷ us))) j ≡ true
      here zero h =
          is_first_field s at v 44 (line_of (u ∷ us)) small comma stands in_text (suc (length (u ∷ us)))
          (ap (λ (t : Bool). cond t 10 44) (ne_eqb 1 (suc (length (u ∷ us))) (λ e. omega arith)))
      here (suc j) h = is_field_later s at (length (u ∷ us)) j ∙ R.fields j (omega arith)

      number : (j : ℕ) → j < suc (length (u ∷ us)) → number_at s (field_at s at j) ≡ get_or (v ∷ u ∷ us) j 0
      number zero h = number_back s at v 44 (line_of (u ∷ us)) small comma stands in_text
      number (suc j) h = ap (number_at s) (field_later s at j) ∙ R.numbers j (omega arith)

pub read_back : (vs : List ℕ) (s : List ℕ) (at : ℕ) → 0 < length vs → All (λ v. v < 4294967296) vs → Written s at (line_of vs)
    → at + length (line_of vs) ≤ length s → ReadBack s at vs
read_back [] s at some small w within = absurd (omega arith)
read_back (v ∷ []) s at some small w within = back_last s at v small.0 w within
read_back (v ∷ u ∷ us) s at some small w within =
    back_more s at v u us small.0 w within
    (read_back (u ∷ us) s (suc (digits_end s at)) (omega arith) small.1 (rest_stands s at v u us small.0 w within) (rest_within s at v u us small.0 w within))

-- THE THEOREM

module _ (before vs after : List ℕ) (some : 0 < length vs) (small : All (λ v. v < 4294967296) vs) where
  back : ReadBack (before ++ (line_of vs ++ after)) (length before) vs
  back =
      read_back vs (before ++ (line_of vs ++ after)) (length before) some small (written_in before (line_of vs) after)
      (omega (arith, length-append before (line_of vs ++ after), length-append (line_of vs) after))

  pub line_is : is_line_at (before ++ (line_of vs ++ after)) (length before) (length vs) ≡ true
  unfolding is_line_at
  line_is =
      eq-eqb _ _
      (first_none (λ j. not (is_field_at (before ++ (line_of vs ++ after)) (length before) (length vs) j)) (length vs)
      (λ j h e. false≢true (sym (ap not (back.fields j h)) ∙ e)))

  pub line_ends : field_at (before ++ (line_of vs ++ after)) (length before) (length vs) ≡ length before + length (line_of vs)
  line_ends = back.ends

  pub line_numbers : (j : ℕ) → j < length vs
      → number_at (before ++ (line_of vs ++ after)) (field_at (before ++ (line_of vs ++ after)) (length before) j) ≡ get_or vs j 0
  line_numbers = back.numbers
