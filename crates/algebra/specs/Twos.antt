-- Powers of two: a number of k digits with one digit set is the power of two at that digit's place, and each power has one.
--
-- power_of_ones   n < 2 ^ k with one digit set is 2 ^ (its trailing zeros)
-- ones_of_power   2 ^ k has one digit set
--
-- Assumes nothing.
use Rattle.std.specs.Prelude.{◌≡◌, refl, ℕ, zero, suc, ◌/◌, ◌%◌, ◌^◌, ◌<◌}
use Rattle.std.proofs.Common.{ap, sym, ◌∙◌, pow-suc, one-mul, add-zero, arith, pow_pos}
use Rattle.std.specs.Int.Count.{ones, ones_in, ones_step, count_trailing_zeros, under}
use Rattle.std.proofs.lemmas.Nat.{ones_cat}

no_ones : (k n : ℕ) → n < 2 ^ k → ones n ≡ 0 → n ≡ 0
no_ones zero n h e = omega (arith, h)
no_ones (suc k) n h e =
    let s = ones_step n in
    let p = pow-suc 2 k in
    let q : n / 2 ≡ 0 = no_ones k (n / 2) (omega arith) (omega arith) in
    omega arith

-- by the lowest digit d
by_digit : (k n d : ℕ) → n % 2 ≡ d → n < 2 ^ suc k → ones n ≡ 1
    → (n / 2 < 2 ^ k → ones (n / 2) ≡ 1 → n / 2 ≡ 2 ^ count_trailing_zeros k (n / 2))
    → n ≡ 2 ^ under d (count_trailing_zeros k (n / 2))
by_digit k n zero m h e ih =
    let s = ones_step n in
    let p = pow-suc 2 k in
    let i = ih (omega arith) (omega arith) in
    rw (pow-suc 2 (count_trailing_zeros k (n / 2))) (omega arith)
by_digit k n (suc d) m h e ih =
    let s = ones_step n in
    let p = pow-suc 2 k in
    let q : n / 2 ≡ 0 = no_ones k (n / 2) (omega arith) (omega arith) in
    omega arith

ones_zero : ones 0 ≡ 0
unfolding ones ones_in
ones_zero = refl

pub power_of_ones : (k n : ℕ) → n < 2 ^ k → ones n ≡ 1 → n ≡ 2 ^ count_trailing_zeros k n
unfolding count_trailing_zeros
power_of_ones zero n h e =
    let z : n ≡ 0 = omega (arith, h) in absurd (omega (arith, sym e ∙ ap ones z ∙ ones_zero))
power_of_ones (suc k) n h e = by_digit k n (n % 2) refl h e (power_of_ones k (n / 2))

pub ones_of_power : (k : ℕ) → ones (2 ^ k) ≡ 1
unfolding ones ones_in
ones_of_power k = rw (add-zero, one-mul) at (ones_cat k 1 0 (pow_pos k))
