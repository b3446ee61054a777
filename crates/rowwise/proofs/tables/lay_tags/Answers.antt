-- The positions are replaced by their tags.
use Rattle.std.proofs.Common.{◌≡◌, ◌∙◌, ◌<◌, List, ℕ, sym, ap, length, get_or}
use Rattle.algebra.specs.Lists.{tab}
use Rattle.algebra.specs.Tables.{length-tab, tab_ext, get_or-tab}
use Rattle.field.specs.Fields.{tag}
use Rattle.rowwise.proofs.tables.lay_tags.Goals as goal

tagged : (p n m : ℕ) (ks : List ℕ) → ks ≡ tab (λ k. k) m → tab (λ k. tag p n (get_or ks k 0)) (length ks) ≡ tab (tag p n) m
tagged p n m ks is =
    rw (is, length-tab (λ k. k) m) (tab_ext _ _ m (λ k h. ap (tag p n) (get_or-tab (λ j. j) m k h)))

pub returns : goal.returns
returns c = c.tags_in_place.ensures ∙ tagged _ _ _ _ c.lay_positions.ensures
