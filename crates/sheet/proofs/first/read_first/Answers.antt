-- The three words that are read are p, n and l.
use Rattle.std.proofs.Common.{ap, get_or}
use Rattle.algebra.specs.Lists.{tab}
use Rattle.sheet.proofs.first.read_first.Goals as goal

pub returns-clause-opened : goal.returns-clause-opened
unfolding tab
returns-clause-opened c =
    record {
      short = c.if-s-gt65536.false;
      p_is = ap (λ w. get_or w 0 0) c.in-Some.ensures.3;
      n_is = ap (λ w. get_or w 1 0) c.in-Some.ensures.3;
      l_is = ap (λ w. get_or w 2 0) c.in-Some.ensures.3;
      starts = c.in-Some.ensures.1;
      within = c.in-Some.ensures.2;
    }
