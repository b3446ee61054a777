-- What is known of a number of rows that one of the three primes has.
--
-- AnyRows n         n lies from 2 to 1,024
-- any_rows_lem      it does, if one of the three primes has n rows
--
-- Assumes nothing.
use Rattle.std.specs.Prelude.{◌≡◌, refl, Bool, true, false, ◌||◌, ℕ, ◌≤◌}
use Rattle.field.specs.Fields.{is_rows}
use Rattle.field.specs.Primes.{rows-power}
use Rattle.circuit.specs.Promises.{any_rows}

pub record AnyRows (n : ℕ) : Type 0 where
  pub least : 2 ≤ n
  pub most : n ≤ 1024

of_prime : (p n : ℕ) → is_rows p n ≡ true → AnyRows n
of_prime p n e = let r = rows-power p n e in record { least = r.least; most = r.small }

pub any_rows_lem : (n : ℕ) → any_rows n ≡ true → AnyRows n
unfolding any_rows
any_rows_lem n e = go (is_rows 17 n) (is_rows 97 n) refl refl e
  where
    go : (x y : Bool) → is_rows 17 n ≡ x → is_rows 97 n ≡ y → (x || y || is_rows 2013265921 n) ≡ true → AnyRows n
    go true y u v t = of_prime 17 n u
    go false true u v t = of_prime 97 n v
    go false false u v t = of_prime 2013265921 n t
