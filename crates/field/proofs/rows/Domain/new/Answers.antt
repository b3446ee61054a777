-- The points are written into the first n words of the array.
use Rattle.std.proofs.Common.{sym, arith, length-take-le}
use Rattle.field.specs.Primes.{sized}
use Rattle.field.proofs.rows.Fits.{fits}
use Rattle.field.proofs.rows.Domain.new.Goals as goal

pub slice_bounds-table-end : goal.slice_bounds-table-end
slice_bounds-table-end c = omega (arith, fits c.requires, c.room-table.ensures)

pub slice_bounds-points-end : goal.slice_bounds-points-end
slice_bounds-points-end c = sym (length-take-le _ _ (omega (arith, fits c.requires, c.room-table.ensures)))

pub points-requires-clause-sized : goal.points-requires-clause-sized
points-requires-clause-sized c = sized _ _ c.requires

pub points-requires-clause-out_len : goal.points-requires-clause-out_len
points-requires-clause-out_len c = length-take-le _ _ (omega (arith, fits c.requires, c.room-table.ensures))
