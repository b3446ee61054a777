-- The part lies within the buffer.
use Rattle.std.proofs.Common.{refl, arith, length-drop, length-take-le}
use native.Mathlib.Nat.{add-sub_cancel_left}
use Rattle.circuit.proofs.parts.piece.Goals as goal

pub returns-clause-hands : goal.returns-clause-hands
returns-clause-hands c = rw add-sub_cancel_left (record { numbers = refl; place = refl })

pub returns-clause-result_len : goal.returns-clause-result_len
returns-clause-result_len c = rw add-sub_cancel_left (length-take-le _ _ (omega (arith, length-drop c.args.start c.args.buffer.now)))
