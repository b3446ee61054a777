-- What the contracts of `streams` cite.
--
-- bytes_of g     how many bytes reading gave; none where it failed
-- bytes_got      where it gave n bytes, so many were counted
--
-- Assumes nothing.
use Rattle.std.specs.Prelude.{◌≡◌, List, ℕ, None, Option, Some}
use Rattle.std.proofs.Common.{subst}
use Rattle.io.specs.Counts.{IsPrefixLen}

abbrev pub bytes_of : Option ℕ → ℕ
bytes_of (Some n) = n
bytes_of None = 0

pub bytes_got : (xs : List ℕ) {g : Option ℕ} {n : ℕ} → g ≡ Some n → IsPrefixLen (bytes_of g) xs → IsPrefixLen n xs
bytes_got xs = subst (λ g. IsPrefixLen (bytes_of g) xs)
