-- The point check, lent the prepared circuit and a transcript: it accepts where F and t × (X^n - 1) agree at zeta, and only there.
--
-- accepted_agree    where it accepts, they agree
-- agree_accepted    where they agree, it accepts
--
-- Assumes nothing.
use Rattle.std.proofs.Math.Path.{◌≡◌, refl, ap}
use Rattle.std.proofs.Common.{sym, ◌∙◌, mul_comm, arith}
use Rattle.std.specs.Prelude.{Bool, List, ℕ, suc, ◌+◌, ◌*◌, ◌^◌, ◌%◌, ◌<◌, length}
use Rattle.std.proofs.Math.Bool.{true, false}
use Rattle.std.proofs.Math.Dec.{eqb}
use borrow.Author.Tests.{eqb-true, eq-eqb}
use Rattle.algebra.specs.Polynomial.{eval, times_vanishing}
use Rattle.algebra.specs.Congruence.{Cong, cong, ◌⨾◌}
use Rattle.algebra.specs.Division.{eval_vanishing}
use Rattle.field.specs.Domain.{Domain}
use Rattle.circuit.specs.Circuit.{Constraints}
use Rattle.circuit.specs.Buffers.{wire_length, z_length, t_part}
use Rattle.protocol.specs.Protocol.{f_of, prepared, transcript, accept, reject, point_f, point_verdict}
use Rattle.protocol.specs.Layout.{t_part_lem, lent_F}

module _ (e q n : ℕ) (D : Domain (suc q) n) (C : Constraints) (x : ℕ → ℕ) (wire : ℕ → List ℕ) (z t : List ℕ) (lw : (c : ℕ) → c < 3 → length (wire c) ≡ wire_length e n) (lz : length z ≡ z_length e n)
    (beta gamma alpha zeta : ℕ) where
  abbrev p : ℕ
  p = suc q

  -- the two sides that the point check compares
  abbrev left : ℕ
  left = eval (point_f e (suc q) n (prepared (suc q) n C) x (transcript wire z t) beta gamma alpha) zeta

  abbrev right : ℕ
  right = eval (t_part e n (transcript wire z t)) zeta * (zeta ^ n + q)

  left_is : left ≡ eval (f_of (suc q) n C x wire z beta gamma alpha) zeta
  left_is = ap (λ (f : List ℕ). eval f zeta) (lent_F D e C x wire z t lw lz beta gamma alpha)

  right_is : right ≡ eval (times_vanishing (suc q) n t) zeta
  right_is =
      ap (λ (f : List ℕ). eval f zeta * (zeta ^ n + q)) (t_part_lem e n wire z t lw lz)
      ∙ mul_comm (eval t zeta) (zeta ^ n + q) ∙ sym (eval_vanishing q n t zeta)

  pub accepted_agree : point_verdict e (suc q) n (prepared (suc q) n C) x (transcript wire z t) beta gamma alpha zeta ≡ accept
      → Cong (suc q) (eval (f_of (suc q) n C x wire z beta gamma alpha) zeta) (eval (times_vanishing (suc q) n t) zeta)
  unfolding point_verdict
  accepted_agree is = go (eqb (left % p) (right % p)) refl is
    where
      go : (b : Bool) → eqb (left % p) (right % p) ≡ b → elim b [ true ↦ accept | false ↦ reject ] ≡ accept
          → Cong (suc q) (eval (f_of (suc q) n C x wire z beta gamma alpha) zeta) (eval (times_vanishing (suc q) n t) zeta)
      go true u w = cong (sym left_is) ⨾ record { same = eqb-true (left % p) (right % p) u } ⨾ cong right_is
      go false u w = let c : ◌≡◌ {A = ℕ} 0 1 = cc in absurd (omega arith)

  pub agree_accepted : Cong (suc q) (eval (f_of (suc q) n C x wire z beta gamma alpha) zeta) (eval (times_vanishing (suc q) n t) zeta)
      → point_verdict e (suc q) n (prepared (suc q) n C) x (transcript wire z t) beta gamma alpha zeta ≡ accept
  unfolding point_verdict
  agree_accepted h =
      ap (λ (b : Bool). elim b [ true ↦ accept | false ↦ reject ])
      (eq-eqb (left % p) (right % p) (cong left_is ⨾ h ⨾ cong (sym right_is)).same)
