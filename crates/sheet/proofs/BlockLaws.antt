-- Blocks of the table: what is laid out of them.
--
-- laid_block       what is laid out of it is what is laid out of that one
-- stopped          a table of numbers that stop at `count` is those numbers, and zeros behind them
-- padded_same      numbers that agree are laid out the same
-- first_high       the place of the first number that is p or more
--
-- Assumes nothing.
use mathlib.Core.Path.{◌≡◌, ap, ap₂, ◌∙◌}
use mathlib.Core.Bool.{cond, true, false}
use mathlib.Core.List.{List, ◌++◌}
use Prim.Native.Nat.{ℕ, ◌+◌, ◌-◌, ◌≤◌, ◌<◌}
use native.Mathlib.Omega.{arith}
use lib.Dec.{ltb, leb}
use lib.ListN.{length, replicate, get_or}
use borrow.Author.Tests.{lt-ltb, le-ltb}
use Rattle.algebra.specs.Lists.{tab}
use Rattle.algebra.specs.Search.{found}
use Rattle.algebra.specs.Tables.{tab_ext, tab-add, tab_const, length-tab, get_or-tab}
use Rattle.field.specs.Reasons.{first_above}
use Rattle.sheet.specs.Sheet.{padded}
use Rattle.sheet.specs.declared.blocks.Block.{Block}
use Rattle.sheet.specs.Table.{in_table}

pub laid_block : (t : List ℕ) {out : List ℕ} {m k : ℕ} {B B' : Block} → B ≡ B' → m ≡ k → out ≡ padded m (in_table t B) B.count → out ≡ padded k (in_table t B') B'.count
laid_block t {out} {m} {k} {B} {B'} e f h = h ∙ rw (e, f)

pub stopped : (f : ℕ → ℕ) (count m : ℕ) → count ≤ m → tab (λ k. cond (ltb k count) (f k) 0) m ≡ padded m f count
stopped f count m h =
    ap (tab g) whole
    ∙ tab-add g count (m - count)
    ∙ ap₂ (λ (a b : List ℕ). a ++ b)
    (tab_ext g f count (λ k l. ap (λ b. cond b (f k) 0) (lt-ltb k count l)))
    (tab_ext (λ k. g (count + k)) (λ k. 0) (m - count) (λ k l. ap (λ b. cond b (f (count + k)) 0) (le-ltb (count + k) count (omega arith)))
    ∙ tab_const 0 (m - count))
  where
    g : ℕ → ℕ
    g k = cond (ltb k count) (f k) 0

    whole : m ≡ count + (m - count)
    whole = omega arith

pub padded_same : (m count : ℕ) (f g : ℕ → ℕ) → ((k : ℕ) → k < count → f k ≡ g k) → padded m f count ≡ padded m g count
padded_same m count f g h = ap (λ (l : List ℕ). l ++ replicate (m - count) 0) (tab_ext f g count h)

pub first_high : (p : ℕ) (f : ℕ → ℕ) (count r : ℕ) → r ≤ count → ((j : ℕ) → j < r → leb p (f j) ≡ false) → (r < count → leb p (f r) ≡ true)
    → r ≡ first_above p (tab f count)
unfolding first_above
first_high p f count r h none hit =
    let long = length-tab f count in
    found (λ k. leb p (get_or (tab f count) k 0)) (length (tab f count)) r (omega arith) (λ k g. rw (get_or-tab f count k (omega arith)) (none k g))
    (λ g. rw (get_or-tab f count r (omega arith)) (hit (omega arith)))
