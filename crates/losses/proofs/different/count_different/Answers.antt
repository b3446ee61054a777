-- The buckets are labels.
use Rattle.std.proofs.Common.{◌≤◌, length, sym, ◌∙◌, subst, arith, length-take-le}
use Rattle.algebra.specs.Ends.{front_fits, front_is}
use Rattle.circuit.specs.Ahead.{Labels}
use Rattle.losses.proofs.Links.{buckets_labels}
use Rattle.losses.proofs.different.count_different.Goals as goal

pub fill_permutation-requires : goal.fill_permutation-requires
fill_permutation-requires c =
    let numbers = c.args.numbers.now in
    let m = length numbers in
    let fits : m ≤ length c.room-buckets.result = omega (arith, c.room-buckets.ensures) in
    let other : m ≤ length c.room-next.result = omega (arith, c.room-next.ensures) in
    let are = front_is m _ c.fill_buckets.new.buckets fits c.fill_buckets.auto.buckets ∙ c.fill_buckets.ensures in (
      subst Labels (sym are) (buckets_labels numbers c.requires),
      length-take-le _ _ other ∙ sym (length-take-le _ _ (front_fits m _ c.fill_buckets.new.buckets fits c.fill_buckets.auto.buckets)),
    )
