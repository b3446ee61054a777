-- p is a prime, and n small.
use Rattle.std.proofs.Common.{arith}
use Rattle.field.specs.Primes.{rows-power, field_prime}
use Rattle.witnesses.proofs.of_witness.Goals as goal

pub broken_gate-row-requires-clause-p_nonzero : goal.broken_gate-row-requires-clause-p_nonzero
broken_gate-row-requires-clause-p_nonzero c =
    (omega (arith, (field_prime _ c.requires.admissible.one_of_three).two), (rows-power _ _ c.requires.admissible.rows).small)
