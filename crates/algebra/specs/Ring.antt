-- Identities of the field's operations: `ring p (search reps) (search reps) (omega arith)` proves an equation between two expressions of add_f, sub_f
-- and mul_f over elements. Each expression is, modulo p, the difference of two natural numbers, which are found by its shape; the identity
-- is then one between natural numbers, which `omega arith` proves by multiplying out. The elements are hypotheses `a < p`.
--
-- Rep p x   x is an element, and modulo p it is pos - neg
-- rep_var, rep_add, rep_sub, rep_mul   the two numbers of an element, a sum, a difference, a product
-- reps      the set of these four rules, by which `search` finds the two numbers
-- ring      two elements are equal where the numbers that they stand for are
--
-- Between natural numbers with q for minus one, `Cong` and `omega` need no such tactic: see Congruence. Worked identities: Identities.
-- Assumes nothing.
use Rattle.std.specs.Prelude.{◌≡◌, refl, ℕ, ◌+◌, ◌*◌, ◌-◌, ◌<◌}
use Rattle.std.proofs.Common.{mod-lt, arith}
use Rattle.algebra.specs.Modular.{add_f, sub_f, mul_f}
use Rattle.algebra.specs.Congruence.{Cong, cong, ◌⨾◌, back, up, cong_add, cong_mul, cong_mod, cong_cancel, cong_lt}

pub record Rep (p x : ℕ) : Type 0 where
  pub pos : ℕ
  pub neg : ℕ
  pub lt : x < p
  pub eq : Cong p (x + neg) pos

-- an element stands for itself
abbrev pub rep_var : {p x : ℕ} → x < p → Rep p x
rep_var {p} {x} h = record { pos = x; neg = 0; lt = h; eq = cong (omega arith) }

abbrev pub rep_add : {p x y : ℕ} → Rep p x → Rep p y → Rep p (add_f p x y)
rep_add {p} {x} {y} r s =
    record {
      pos = r.pos + s.pos;
      neg = r.neg + s.neg;
      lt = mod-lt (x + y) (omega arith);
      eq = cong_add cong_mod (cong refl) ⨾ cong {b = x + r.neg + (y + s.neg)} (omega arith) ⨾ cong_add r.eq s.eq;
    }

abbrev pub rep_sub : {p x y : ℕ} → Rep p x → Rep p y → Rep p (sub_f p x y)
rep_sub {p} {x} {y} r s =
    record {
      pos = r.pos + s.neg;
      neg = r.neg + s.pos;
      lt = mod-lt (x + (p - y)) (omega arith);
      eq =
          cong_add cong_mod (cong_add (cong refl) (back s.eq))
          ⨾ up (x + (p - y) + (r.neg + (y + s.neg))) (x + r.neg + s.neg) 0 1 (omega (arith, s.lt))
          ⨾ cong_add r.eq (cong refl);
    }

abbrev pub rep_mul : {p x y : ℕ} → Rep p x → Rep p y → Rep p (mul_f p x y)
rep_mul {p} {x} {y} r s =
    record {
      pos = r.pos * s.pos + r.neg * s.neg;
      neg = r.pos * s.neg + r.neg * s.pos;
      lt = mod-lt (x * y) (omega arith);
      eq =
          cong_add cong_mod (cong_add (cong_mul (back r.eq) (cong refl)) (cong_mul (cong refl) (back s.eq)))
          ⨾ cong {b = (x + r.neg) * (y + s.neg) + r.neg * s.neg} (omega arith)
          ⨾ cong_add (cong_mul r.eq s.eq) (cong refl);
    }

pub ruleset reps = (rep_sub, rep_add, rep_mul, rep_var)

pub ring : (p : ℕ) {x y : ℕ} (r : Rep p x) (s : Rep p y) → r.pos + s.neg ≡ s.pos + r.neg → x ≡ y
ring p {x} {y} r s e =
    cong_lt r.lt s.lt
    (cong_cancel {c = r.neg + s.neg} {d = r.neg + s.neg}
    (cong {b = x + r.neg + s.neg} (omega arith) ⨾ cong_add r.eq (cong refl)
    ⨾ cong e ⨾ cong_add (back s.eq) (cong refl) ⨾ cong (omega arith))
    (cong refl))
