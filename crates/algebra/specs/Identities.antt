-- Three worked identities: two for `ring`, over the field's operations; one over natural numbers with q for minus one, by `Cong` and `omega`.
-- Assumes nothing.
use Rattle.std.specs.Prelude.{◌≡◌, refl, ℕ, suc, ◌+◌, ◌*◌, ◌<◌}
use Rattle.std.proofs.Common.{arith}
use Rattle.algebra.specs.Modular.{add_f, sub_f, mul_f}
use Rattle.algebra.specs.Congruence.{Cong, cong, ◌⨾◌, cong_add, cong_neg}
use Rattle.algebra.specs.Ring.{ring, reps}

module _ {p a b c d : ℕ} (ha : a < p) (hb : b < p) (hc : c < p) (hd : d < p) where
  -- (a - b)(a + b) = a² - b²
  squares : mul_f p (sub_f p a b) (add_f p a b) ≡ sub_f p (mul_f p a a) (mul_f p b b)
  squares = ring p (search reps) (search reps) (omega arith)

  -- (a - b)(c - d) = (ac - ad) + (bd - bc)
  products : mul_f p (sub_f p a b) (sub_f p c d) ≡ add_f p (sub_f p (mul_f p a c) (mul_f p a d)) (sub_f p (mul_f p b d) (mul_f p b c))
  products = ring p (search reps) (search reps) (omega arith)

-- a (b - c) + a c = a b
cancels : (q a b c : ℕ) → Cong (suc q) (a * (b + q * c) + a * c) (a * b)
cancels q a b c = cong {b = a * b + (a * c + q * (a * c))} (omega arith) ⨾ cong_add (cong refl) (cong_neg (a * c)) ⨾ cong (omega arith)
