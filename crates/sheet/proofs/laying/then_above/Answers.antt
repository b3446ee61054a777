-- The place is within the numbers.
use Rattle.std.proofs.Common.{arith}
use Rattle.algebra.specs.Lists.{tab}
use Rattle.algebra.specs.Tables.{length-tab}
use Rattle.field.specs.ReasonLaws.{first_above-le}
use Rattle.sheet.specs.Table.{in_table}
use Rattle.sheet.proofs.laying.then_above.Goals as goal

pub overflow_add-result : goal.overflow_add-result
overflow_add-result c =
    let f = in_table c.args.table.now c.args.block in
    omega (arith, c.above.ensures, first_above-le c.args.p (tab f c.args.block.count), length-tab f c.args.block.count)
