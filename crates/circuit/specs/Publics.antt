-- What functions that are lent the public inputs ask.
--
-- LentPublics p n publics   p and n are admissible, and the public inputs are elements
--
-- Assumes nothing.
use Rattle.std.specs.Prelude.{List, ℕ, ◌<◌}
use Rattle.algebra.specs.Lists.{All}
use Rattle.field.specs.Fields.{Admissible}

pub record LentPublics (p n : ℕ) (publics : List ℕ) : Type 0 where
  pub admissible : Admissible p n
  pub elements : All (λ (x : ℕ). x < p) publics
