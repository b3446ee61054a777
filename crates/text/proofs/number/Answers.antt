-- The digits, what they write and the tests of it, as the definition has them.
use Rattle.std.proofs.Common.{ap, ◌-◌}
use Rattle.text.proofs.Reading.{number_told}
use Rattle.text.proofs.number.Goals as goal

pub returns-then-not-in_form-clause-value_value : goal.returns-then-not-in_form-clause-value_value
returns-then-not-in_form-clause-value_value c =
    rw c.if-not-in_form.true at (number_told c.args.s.now c.args.at _ _ _ (ap (λ n. n - c.args.at) c.digits_end-next.ensures.0) c.value-v.ensures c.in_form.ensures)

pub returns-clause-value_value : goal.returns-clause-value_value
returns-clause-value_value c =
    rw c.if-not-in_form.false at (number_told c.args.s.now c.args.at _ _ _ (ap (λ n. n - c.args.at) c.digits_end-next.ensures.0) c.value-v.ensures c.in_form.ensures)
