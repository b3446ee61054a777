-- Past the tests, n is a number of rows.
use Rattle.std.proofs.Common.{rules, ◌≡◌, true}
use Rattle.circuit.specs.Promises.{any_rows}
use Rattle.circuit.specs.AnyRows.{any_rows_lem}
use Rattle.circuit.proofs.polynomial.Goals as goal

pub part-requires-clause-e_bound : goal.part-requires-clause-e_bound
part-requires-clause-e_bound c =
    let told : any_rows c.args.n ≡ true = search rules in
    let n = any_rows_lem c.args.n told in
    (c.blinded_by-e.ensures.1, n.least, n.most)
