-- From the comparison of the two sides to the verdict.
--
-- accepts, rejects     the verdict where the sides are equal, and where they are not, e being that of the transcript
--
-- Assumes nothing.
use mathlib.Core.Path.{◌≡◌, ap, sym}
use mathlib.Core.Bool.{Bool, true, false}
use mathlib.Core.List.{List}
use Prim.Native.Nat.{ℕ}
use lib.Dec.{eqb}
use lib.ListN.{get_or}
use Rattle.transform.specs.Transform.{interpolation}
use Rattle.circuit.specs.Circuit.{lent_public}
use Rattle.circuit.specs.Buffers.{blinded_by}
use Rattle.protocol.specs.Protocol.{accept, reject, point_verdict}
use Rattle.pointcheck.specs.declared.Judged.TheVariants.{Accept, Reject}
use Rattle.pointcheck.specs.AtZeta.{left_at, right_at}
use Rattle.pointcheck.specs.Promises.{judged_as, judged_at}

module _ (e p n : ℕ) (publics prepared transcript challenges : List ℕ) (is : e ≡ blinded_by n transcript) where
  abbrev left : ℕ
  left = left_at e p n (interpolation p n (lent_public publics)) prepared transcript (get_or challenges 0 0) (get_or challenges 1 0) (get_or challenges 2 0) (get_or challenges 3 0)

  abbrev right : ℕ
  right = right_at e p n transcript (get_or challenges 3 0)

  pub accepts : eqb left right ≡ true → Accept ≡ judged_at p n publics prepared transcript challenges
  unfolding point_verdict
  accepts h = rw (← is) (ap (λ (b : Bool). judged_as (elim b [ true ↦ accept | false ↦ reject ])) (sym h))

  pub rejects : eqb left right ≡ false → Reject ≡ judged_at p n publics prepared transcript challenges
  unfolding point_verdict
  rejects h = rw (← is) (ap (λ (b : Bool). judged_as (elim b [ true ↦ accept | false ↦ reject ])) (sym h))
