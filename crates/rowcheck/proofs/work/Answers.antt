-- The tags of both kinds stand at the start of their arrays.
use Rattle.std.proofs.Common.{length-take-le, arith}
use Rattle.field.specs.Primes.{field_prime, rows-power}
use Rattle.rowcheck.proofs.work.Goals as goal

pub invariant_of-rows : goal.invariant_of-rows
invariant_of-rows c =
    let A = c.requires.admissible in
    let rows = c.new-domain.ensures.1 in
    record {
      positive = omega (arith, (field_prime _ A.one_of_three).two);
      few = (rows-power _ _ A.rows).small;
      filled = c.requires.witness_length_lem;
      own_length = length-take-le _ _ (rw (← rows) c.own-own.ensures.fits);
      wired_length = length-take-le _ _ (rw (← rows) c.wired-wired.ensures.fits);
    }

pub returns : goal.returns
returns c =
    let d = c.new-domain.ensures in
    c.judge_rows.ensures c.args.labels.now
    (record { own_tags = rw (← d.0, ← d.1) c.own-own.ensures.tags; wired_tags = rw (← d.0, ← d.1) c.wired-wired.ensures.tags })
