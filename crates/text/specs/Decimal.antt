-- Laws of decimals: the bytes of a number, its digits and its value.
--
-- Written s at d        the bytes d stand in the text s from `at` on
-- written_in            they do where s is what comes before, d, and what follows
-- written_front, written_back   of two runs of bytes, one behind the other
-- decimal_small, decimal_more   one digit; one digit more
-- decimal_digits        every byte of a decimal is a digit
-- decimal_some, decimal_few     it has at least one byte, and no more than it may
-- decimal_lead          it starts with no zero, unless the number is 0
-- decimal_value         it writes the number
-- value_written         what bytes write does not depend on where they stand
--
-- Assumes nothing.
use Rattle.std.specs.Prelude.{◌≡◌, refl, true, List, [], ◌∷◌, ◌++◌, ℕ, zero, suc, ◌+◌, ◌*◌, ◌-◌, ◌/◌, ◌%◌, ◌^◌, ◌≤◌, ◌<◌, length, get_or}
use Rattle.std.proofs.Common.{ap, ap₂, ◌∙◌, pow-suc, arith, length-append, get_or-append-add, lt-ltb, le-ltb, le-leb}
use Rattle.std.proofs.Math.Decide.{dec_lt}
use Rattle.std.proofs.Math.ListN.{get_or-append}
use Rattle.algebra.specs.Lists.{All}
use Rattle.algebra.specs.Tables.{all_append}
use Rattle.text.specs.Text.{is_digit, value_of, decimal_of}

-- WHERE BYTES STAND

abbrev pub Written : List ℕ → ℕ → List ℕ → Type 0
Written s at d = (i : ℕ) → i < length d → get_or s (at + i) 0 ≡ get_or d i 0

pub written_in : (before d after : List ℕ) → Written (before ++ (d ++ after)) (length before) d
written_in before d after i h = get_or-append-add before (d ++ after) i 0 ∙ get_or-append d after 0 i h

pub written_front : (s : List ℕ) (at : ℕ) (d e : List ℕ) → Written s at (d ++ e) → Written s at d
written_front s at d e w i h = w i (omega (arith, length-append d e)) ∙ get_or-append d e 0 i h

pub written_back : (s : List ℕ) (at : ℕ) (d e : List ℕ) → Written s at (d ++ e) → Written s (at + length d) e
written_back s at d e w i h =
    ap (λ (k : ℕ). get_or s k 0) (omega arith) ∙ w (length d + i) (omega (arith, length-append d e)) ∙ get_or-append-add d e i 0

-- THE DIGITS

digit_is : (b : ℕ) → 48 ≤ b → b ≤ 57 → is_digit b ≡ true
unfolding is_digit
digit_is b h l = rw (le-leb 48 b h, le-leb b 57 l)

pub decimal_small : (most v : ℕ) → v < 10 → decimal_of (suc most) v ≡ (48 + v) ∷ []
unfolding decimal_of
decimal_small most v h = rw (lt-ltb v 10 h)

pub decimal_more : (most v : ℕ) → 10 ≤ v → decimal_of (suc most) v ≡ decimal_of most (v / 10) ++ ((48 + v % 10) ∷ [])
unfolding decimal_of
decimal_more most v h = rw (le-ltb v 10 h)

pub decimal_digits : (most v : ℕ) → All (λ b. is_digit b ≡ true) (decimal_of most v)
unfolding decimal_of
decimal_digits zero v = tt
decimal_digits (suc most) v = go (dec_lt v 10) (decimal_digits most (v / 10))
  where
    go : Dec (v < 10) → All (λ b. is_digit b ≡ true) (decimal_of most (v / 10)) → All (λ b. is_digit b ≡ true) (decimal_of (suc most) v)
    go (yes h) a = rw (decimal_small most v h) (digit_is (48 + v) (omega arith) (omega arith), tt)
    go (no h) a =
        rw (decimal_more most v (omega arith))
        (all_append (λ b. is_digit b ≡ true) (decimal_of most (v / 10)) ((48 + v % 10) ∷ []) a (digit_is (48 + v % 10) (omega arith) (omega arith), tt))

pub decimal_some : (most v : ℕ) → 0 < length (decimal_of (suc most) v)
decimal_some most v = go (dec_lt v 10)
  where
    go : Dec (v < 10) → 0 < length (decimal_of (suc most) v)
    go (yes h) = rw (decimal_small most v h) (omega arith)
    go (no h) = rw (decimal_more most v (omega arith), length-append) (omega arith)

pub decimal_few : (most v : ℕ) → length (decimal_of most v) ≤ most
unfolding decimal_of
decimal_few zero v = omega arith
decimal_few (suc most) v = go (dec_lt v 10) (decimal_few most (v / 10))
  where
    go : Dec (v < 10) → length (decimal_of most (v / 10)) ≤ most → length (decimal_of (suc most) v) ≤ suc most
    go (yes h) l = rw (decimal_small most v h) (omega arith)
    go (no h) l = rw (decimal_more most v (omega arith), length-append) (omega arith)

-- where a byte that is not 0 stands, the bytes go on
inside : (l : List ℕ) (k : ℕ) → 0 < get_or l k 0 → k < length l
inside [] k h = absurd (omega arith)
inside (a ∷ l) zero h = omega arith
inside (a ∷ l) (suc k) h = omega (arith, inside l k h)

tenth : (most v : ℕ) → v < 10 ^ suc most → v / 10 < 10 ^ most
tenth most v h = let e : 10 ^ suc most ≡ 10 ^ most * 10 = pow-suc 10 most in omega arith

pub decimal_lead : (most v : ℕ) → 0 < v → v < 10 ^ most → 48 < get_or (decimal_of most v) 0 0
decimal_lead zero v h l = absurd (omega arith)
decimal_lead (suc most) v h l = go (dec_lt v 10) (decimal_lead most (v / 10))
  where
    go : Dec (v < 10) → (0 < v / 10 → v / 10 < 10 ^ most → 48 < get_or (decimal_of most (v / 10)) 0 0) → 48 < get_or (decimal_of (suc most) v) 0 0
    go (yes k) a = rw (decimal_small most v k) (omega arith)
    go (no k) a =
        let lead : 48 < get_or (decimal_of most (v / 10)) 0 0 = a (omega arith) (tenth most v l) in
        let some : 0 < length (decimal_of most (v / 10)) = inside (decimal_of most (v / 10)) 0 (omega arith) in
        rw (decimal_more most v (omega arith), get_or-append (decimal_of most (v / 10)) ((48 + v % 10) ∷ []) 0 0 some) lead

-- THE VALUE

value_same : (s d : List ℕ) (at k : ℕ) → ((i : ℕ) → i < k → get_or s (at + i) 0 ≡ get_or d (0 + i) 0) → value_of s at k ≡ value_of d 0 k
unfolding value_of
value_same s d at zero w = refl
value_same s d at (suc k) w =
    ap₂ (λ (v b : ℕ). 10 * v + (b - 48)) (value_same s d at k (λ i h. w i (omega arith))) (w k (omega arith))

pub value_written : (s : List ℕ) (at : ℕ) (d : List ℕ) → Written s at d → value_of s at (length d) ≡ value_of d 0 (length d)
value_written s at d w = value_same s d at (length d) (λ i h. w i h ∙ ap (λ (k : ℕ). get_or d k 0) (omega arith))

value_snoc : (d : List ℕ) (x : ℕ) → value_of (d ++ (x ∷ [])) 0 (length (d ++ (x ∷ []))) ≡ 10 * value_of d 0 (length d) + (x - 48)
unfolding value_of
value_snoc d x =
    let long : length (d ++ (x ∷ [])) ≡ suc (length d) = omega (arith, length-append d (x ∷ [])) in
    ap (value_of (d ++ (x ∷ [])) 0) long
    ∙ ap₂ (λ (v b : ℕ). 10 * v + (b - 48))
    (value_same (d ++ (x ∷ [])) d 0 (length d)
    (λ i h. ap (λ (k : ℕ). get_or (d ++ (x ∷ [])) k 0) (omega arith) ∙ get_or-append d (x ∷ []) 0 i h ∙ ap (λ (k : ℕ). get_or d k 0) (omega arith)))
    (ap (λ (k : ℕ). get_or (d ++ (x ∷ [])) k 0) (omega arith) ∙ get_or-append-add d (x ∷ []) 0 0)

pub decimal_value : (most v : ℕ) → v < 10 ^ most → value_of (decimal_of most v) 0 (length (decimal_of most v)) ≡ v
unfolding decimal_of value_of
decimal_value zero v h = omega arith
decimal_value (suc most) v h = go (dec_lt v 10) (decimal_value most (v / 10) (tenth most v h))
  where
    go : Dec (v < 10) → value_of (decimal_of most (v / 10)) 0 (length (decimal_of most (v / 10))) ≡ v / 10
        → value_of (decimal_of (suc most) v) 0 (length (decimal_of (suc most) v)) ≡ v
    go (yes l) e = rw (decimal_small most v l) (omega arith)
    go (no l) e =
        rw (decimal_more most v (omega arith)) (value_snoc (decimal_of most (v / 10)) (48 + v % 10) ∙ rw e (omega arith))
