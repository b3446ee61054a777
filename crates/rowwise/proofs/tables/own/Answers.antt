-- The array has room for n rows, and the tags stand at its start.
use Rattle.std.proofs.Common.{◌≡◌, ◌∙◌, ◌*◌, ◌≤◌, List, ℕ, sym, ap, length, take, replicate, length-take-le, arith}
use Rattle.std.proofs.lemmas.List.{length-replicate}
use Rattle.algebra.specs.Ends.{front_fits, front_is}
use Rattle.algebra.specs.Lists.{tab}
use Rattle.field.specs.Fields.{Admissible, tag}
use Rattle.field.specs.Primes.{rows-power}
use Rattle.rowwise.proofs.tables.own.Goals as goal

few : {p n : ℕ} → Admissible p n → 3 * n ≤ 3072
few {p} {n} A = omega (arith, (rows-power p n A.rows).small)

abbrev blank : List ℕ
blank = replicate 3072 0

fits : {p n : ℕ} → Admissible p n → 3 * n ≤ length blank
fits {p} {n} A =
    let long : length blank ≡ 3072 = length-replicate {A = ℕ} 3072 0 in
    omega (arith, few A, long)

pub slice_bounds-tags-end : goal.slice_bounds-tags-end
slice_bounds-tags-end c = few c.args.domain.now.admissible

pub slice_bounds-lay_tags-end : goal.slice_bounds-lay_tags-end
slice_bounds-lay_tags-end c = sym (length-take-le _ blank (fits c.args.domain.now.admissible))

pub returns-clause-fits : goal.returns-clause-fits
returns-clause-fits c = front_fits _ blank c.lay_tags.new.out (fits c.args.domain.now.admissible) c.lay_tags.auto.out

pub returns-clause-tags : goal.returns-clause-tags
returns-clause-tags c =
    front_is _ blank c.lay_tags.new.out (fits c.args.domain.now.admissible) c.lay_tags.auto.out
    ∙ c.lay_tags.ensures
    ∙ ap (tab (tag c.args.domain.now.p c.args.domain.now.n)) (length-take-le _ blank (fits c.args.domain.now.admissible))
