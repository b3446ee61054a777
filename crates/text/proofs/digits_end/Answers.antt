-- What the library's search of the text from `at` on gives is where the digits end.
use Rattle.std.proofs.Common.{◌≡◌, ◌+◌, ◌-◌, arith, length}
use Rattle.text.specs.Text.{digits_end}
use Rattle.text.proofs.Reading.{digits_found, end_high}
use Rattle.text.proofs.digits_end.Goals as goal

pub returns-in-Some : goal.returns-in-Some
returns-in-Some c =
    let e : c.args.at + c.in-Some.k ≡ digits_end c.args.s.now c.args.at = rw c.in-Some.is at (digits_found c.args.s.now c.args.at _ c.other_byte.ensures) in
    let h = end_high c.args.s.now c.args.at c.requires in
    (e, omega arith, omega arith)

pub returns-in-None : goal.returns-in-None
returns-in-None c =
    let e : c.args.at + (length c.args.s.now - c.args.at) ≡ digits_end c.args.s.now c.args.at =
    rw c.in-None.is at (digits_found c.args.s.now c.args.at _ c.other_byte.ensures)
    in
    (omega arith, omega arith, omega arith)
