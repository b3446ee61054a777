-- There are no more rows than words in the array.
use Rattle.field.proofs.rows.Fits.{fits}
use Rattle.field.proofs.rows.Domain.points.Goals as goal

pub shared_ref_as_front-result : goal.shared_ref_as_front-result
shared_ref_as_front-result c = fits c.args.self.now.admissible
