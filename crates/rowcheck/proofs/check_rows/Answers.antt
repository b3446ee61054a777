-- Where no reason applies, the numbers are checked, and the rows are judged.
use Rattle.field.specs.ReasonLaws.{ok_number}
use Rattle.rowcheck.proofs.Decided.{checked}
use Rattle.rowcheck.proofs.check_rows.Goals as goal

pub work-requires : goal.work-requires
work-requires c = checked _ _ _ _ _ c.args.witness.now c.args.publics.now c.args.z.now _ (ok_number c.in_ok-decide.was c.decide.ensures)
