-- Numbers, fields and lines in a text, which is a list of bytes. Byte 10 ends a line, byte 44 (the comma) parts fields, bytes 48 to 57 are the digits.
--
-- READING
-- is_digit b          byte b is a digit
-- digits_end s at     where the run of digits that starts at `at` ends
-- value_of s at k     the number that k digits from `at` on write, in decimal
-- is_number_at s at   a number stands at `at`: at least one digit, no leading zero, below 2^32
-- number_at s at      that number
-- field_at s at j     where field j of a line that starts at `at` starts: field 0 there, each next one past the byte behind the former's digits
-- closing k j         the byte behind field j of a line of k: byte 10 behind the last, else a comma
-- is_field_at         field j of a line of k is a number with its closing byte
-- is_line_at s at k   a line of k numbers starts at `at`
-- WRITING
-- decimal_of most v   the digits of v, at most `most` of them
-- decimal v           v in decimal, without leading zeros, for v below 2^32
-- fields_text vs      a comma and the number in decimal, for each of vs
-- line_text word vs   a line that begins with a word: the word, its fields, and byte 10
-- fields_of, line_of vs   the numbers vs with commas between them; a line of them, with byte 10 behind
-- refused_word        the word `refused`
-- refused_text number detail   the line of a refusal
--
-- Assumes nothing.
use Rattle.std.specs.Prelude.{Bool, not, cond, ◌&&◌, ◌||◌, List, [], ◌∷◌, ◌++◌, ℕ, zero, suc, ◌+◌, ◌*◌, ◌-◌, ◌/◌, ◌%◌, eqb, leb, ltb, length, get_or}
use Rattle.algebra.specs.Modular.{first}

-- READING

unfoldable pub is_digit : ℕ → Bool
is_digit b = leb 48 b && leb b 57

unfoldable pub digits_end : List ℕ → ℕ → ℕ
digits_end s at = first (λ k. not (is_digit (get_or s k 0))) at (length s - at)

unfoldable pub value_of : List ℕ → ℕ → ℕ → ℕ
value_of s at zero = 0
value_of s at (suc k) = 10 * value_of s at k + (get_or s (at + k) 0 - 48)

unfoldable pub is_number_at : List ℕ → ℕ → Bool
is_number_at s at =
    let digits : ℕ = digits_end s at - at in
    (ltb 0 digits && (eqb digits 1 || not (eqb (get_or s at 0) 48))) && ltb (value_of s at digits) 4294967296

unfoldable pub number_at : List ℕ → ℕ → ℕ
number_at s at = value_of s at (digits_end s at - at)

unfoldable pub field_at : List ℕ → ℕ → ℕ → ℕ
field_at s at zero = at
field_at s at (suc j) = suc (digits_end s (field_at s at j))

abbrev pub closing : ℕ → ℕ → ℕ
closing k j = cond (eqb (suc j) k) 10 44

unfoldable pub is_field_at : List ℕ → ℕ → ℕ → ℕ → Bool
is_field_at s at k j = is_number_at s (field_at s at j) && eqb (get_or s (digits_end s (field_at s at j)) 0) (closing k j)

unfoldable pub is_line_at : List ℕ → ℕ → ℕ → Bool
is_line_at s at k = eqb (first (λ j. not (is_field_at s at k j)) 0 k) k

-- WRITING

-- the digits of v, at most `most` of them
unfoldable pub decimal_of : ℕ → ℕ → List ℕ
decimal_of zero v = []
decimal_of (suc most) v = cond (ltb v 10) ((48 + v) ∷ []) (decimal_of most (v / 10) ++ ((48 + v % 10) ∷ []))

abbrev pub decimal : ℕ → List ℕ
decimal v = decimal_of 10 v

unfoldable pub fields_text : List ℕ → List ℕ
fields_text [] = []
fields_text (v ∷ vs) = 44 ∷ (decimal v ++ fields_text vs)

abbrev pub line_text : List ℕ → List ℕ → List ℕ
line_text word vs = word ++ (fields_text vs ++ (10 ∷ []))

unfoldable pub fields_of : List ℕ → List ℕ
fields_of [] = []
fields_of (v ∷ vs) = decimal v ++ fields_text vs

abbrev pub line_of : List ℕ → List ℕ
line_of vs = fields_of vs ++ (10 ∷ [])

abbrev pub refused_word : List ℕ
refused_word = 114 ∷ 101 ∷ 102 ∷ 117 ∷ 115 ∷ 101 ∷ 100 ∷ []

abbrev pub refused_text : ℕ → ℕ → List ℕ
refused_text number detail = line_text refused_word (number ∷ detail ∷ [])
