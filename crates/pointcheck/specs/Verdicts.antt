-- From an answer's verdict to the verdict of the definitions, and back.
--
-- accept_of       an answer Accept is a verdict accept
-- answer_accept   an accepted call whose verdict is accept answers Accept
--
-- Assumes nothing.
use Rattle.std.specs.Prelude.{◌≡◌, refl, Bool, true, false, cond, Some, None}
use Rattle.field.specs.Reasons.{Answer, is_accepted}
use Rattle.protocol.specs.Protocol.{PointVerdict, accept, reject}
use Rattle.pointcheck.specs.declared.Judged.TheVariants.{Accept}
use Rattle.pointcheck.specs.Promises.{judged_as}

pub accept_of : (b : Bool) (v : PointVerdict) → cond b (Some (judged_as v)) None ≡ Some Accept → v ≡ accept
accept_of true accept e = refl
accept_of true reject e = cc
accept_of false v e = cc

pub answer_accept : (a : Answer) (v : PointVerdict) → a ≡ record { number = 0; detail = 0 } → v ≡ accept → cond (is_accepted a) (Some (judged_as v)) None ≡ Some Accept
answer_accept a v e f = rw (e, f)
