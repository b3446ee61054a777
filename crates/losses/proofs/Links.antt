-- Walking along a bucket, from a number to the next of its bucket, looking for an equal one; and the count of those that have none behind them.
--
-- Walked numbers k j    the walk that began at k has come to j: j has k's bucket, and no number behind k, up to j, is equal to number k
-- buckets_labels        the buckets are labels of as many positions
-- links_long, link_lt   there is a link for each number, and it leads to one
-- walk_on               it goes on from j to a higher link that is not equal
-- walk_met              it has met an equal number: number k stands again behind itself
-- walk_end              it has come to the last of its bucket: it does not
-- COUNTING DOWNWARD
-- counted_none          of no numbers there are 0 different ones
-- counted_most          no more are counted than there are numbers
-- counted_again, counted_last   one number more: it stands again behind itself, and the count stays; it does not, and the count is one more
--
-- Assumes nothing.
use mathlib.Core.Path.{◌≡◌, refl, sym, ap, ap₂, ◌∙◌, subst}
use mathlib.Core.Logic.{◌≢◌, ◌⊎◌, inl, inr}
use mathlib.Core.Bool.{Bool, true, false, cond}
use mathlib.Core.List.{List}
use Prim.Native.Nat.{ℕ, suc, ◌+◌, ◌-◌, ◌%◌, ◌≤◌, ◌<◌}
use native.Mathlib.Nat.{mod-lt}
use native.Mathlib.Decide.{dec_lt, dec_le}
use native.Mathlib.Omega.{arith}
use lib.ListN.{length, get_or, drop, length-drop}
use lib.Seq.{drop-cons, drop-length, get_or-drop}
use Rattle.algebra.specs.Lists.{In, occurs, different}
use Rattle.algebra.specs.Exact.{in_get_or, get_or_in, occurs_in, in_occurs, different_most}
use Rattle.algebra.specs.Tables.{length-tab, get_or-tab, all_tab}
use Rattle.circuit.specs.Ahead.{Labels}
use Rattle.circuit.specs.Permutation.{Above, Around, Leads, permutation_leads}
use Rattle.losses.specs.Buckets.{buckets_of, Linked}

abbrev bucket : List ℕ → ℕ → ℕ
bucket numbers k = get_or (buckets_of numbers) k 0

pub record Walked (numbers : List ℕ) (k j : ℕ) : Type 0 where
  pub low : k ≤ j
  pub within : j < length numbers
  pub kept : get_or (buckets_of numbers) j 0 ≡ get_or (buckets_of numbers) k 0
  pub unmet : (h : ℕ) → k < h → h ≤ j → get_or numbers h 0 ≢ get_or numbers k 0

same_bucket : (numbers : List ℕ) (j k : ℕ) → j < length numbers → k < length numbers → get_or numbers j 0 ≡ get_or numbers k 0 → bucket numbers j ≡ bucket numbers k
unfolding buckets_of
same_bucket numbers j k h l e =
    get_or-tab _ (length numbers) j h ∙ ap (λ (x : ℕ). x % length numbers) e ∙ sym (get_or-tab _ (length numbers) k l)

-- number i, behind k
behind : (numbers : List ℕ) (k i : ℕ) → k < i → i < length numbers → In (get_or numbers i 0) (drop (suc k) numbers)
behind numbers k i h l =
    let at : suc k + (i - suc k) ≡ i = omega arith in
    subst (λ (x : ℕ). In x (drop (suc k) numbers)) (get_or-drop (suc k) numbers (i - suc k) 0 ∙ ap (λ (j : ℕ). get_or numbers j 0) at)
    (in_get_or (drop (suc k) numbers) (i - suc k) (omega (arith, length-drop (suc k) numbers)))

pub walk_met : (numbers : List ℕ) (k i : ℕ) → k < i → i < length numbers → get_or numbers i 0 ≡ get_or numbers k 0
    → occurs (get_or numbers k 0) (drop (suc k) numbers) ≡ true
walk_met numbers k i h l e = in_occurs _ _ (subst (λ (x : ℕ). In x (drop (suc k) numbers)) e (behind numbers k i h l))

nothing_behind : (numbers : List ℕ) (k : ℕ) → ((h : ℕ) → k < h → h < length numbers → get_or numbers h 0 ≢ get_or numbers k 0)
    → occurs (get_or numbers k 0) (drop (suc k) numbers) ≡ false
nothing_behind numbers k none = go (occurs (get_or numbers k 0) (drop (suc k) numbers)) refl
  where
    go : (b : Bool) → occurs (get_or numbers k 0) (drop (suc k) numbers) ≡ b → b ≡ false
    go false u = refl
    go true u =
        let r = get_or_in (drop (suc k) numbers) (get_or numbers k 0) (occurs_in _ _ u) in
        absurd
        (none (suc k + r.0) (omega arith) (omega (arith, r.1, length-drop (suc k) numbers)) (sym (r.2 ∙ get_or-drop (suc k) numbers r.0 0)))

length_buckets : (numbers : List ℕ) → length (buckets_of numbers) ≡ length numbers
unfolding buckets_of
length_buckets numbers = length-tab _ (length numbers)

pub buckets_labels : (numbers : List ℕ) → length numbers ≤ 3072 → Labels (buckets_of numbers)
unfolding buckets_of
buckets_labels numbers few =
    record {
      few = omega (arith, length_buckets numbers);
      below = all_tab (λ l. l < length (buckets_of numbers)) _ (length numbers) (λ k h. rw (length_buckets numbers) (mod-lt (get_or numbers k 0) (omega arith)));
    }

pub links_long : (numbers next : List ℕ) → Linked numbers next → length next ≡ length numbers
links_long numbers next L = ap length L.links ∙ length-tab _ (length numbers)

-- i is where the link of j leads
module _ (numbers next : List ℕ) (L : Linked numbers next) (j i : ℕ) (link : i ≡ get_or next j 0) where
  leads : j < length numbers → Leads (length numbers) (bucket numbers) j i
  leads h =
      subst (Leads (length numbers) (bucket numbers) j) (sym (link ∙ ap (λ (l : List ℕ). get_or l j 0) L.links ∙ get_or-tab _ (length numbers) j h))
      (permutation_leads (length numbers) (bucket numbers) j h)

  pub link_lt : j < length numbers → i < length numbers
  link_lt h = (leads h).within

  module _ (k : ℕ) (start : k < length numbers) (W : Walked numbers k j) where
    pub walk_on : j < i → get_or numbers i 0 ≢ get_or numbers k 0 → Walked numbers k i
    walk_on h other =
        record {
          low = omega (arith, W.low);
          within = link_lt W.within;
          kept = (leads W.within).keeps ∙ W.kept;
          unmet = λ u a b. between u a b (dec_le u j) (dec_lt u i);
        }
      where
        apart : Above (bucket numbers) j i ⊎ Around (length numbers) (bucket numbers) j i → (u : ℕ) → j < u → u < i → bucket numbers u ≢ bucket numbers j
        apart (inl w) u a b = w.1 u a b
        apart (inr w) u a b = λ e. w.1 j h refl

        between : (u : ℕ) → k < u → u ≤ i → Dec (u ≤ j) → Dec (u < i) → get_or numbers u 0 ≢ get_or numbers k 0
        between u a b (yes c) d = W.unmet u a c
        between u a b (no c) (no d) = let last : u ≡ i = omega arith in λ e. other (ap (λ (x : ℕ). get_or numbers x 0) (sym last) ∙ e)
        between u a b (no c) (yes d) =
            λ e. apart (leads W.within).next u (omega arith) d
            (same_bucket numbers u k (omega (arith, link_lt W.within)) start e ∙ sym W.kept)

    pub walk_end : i ≤ j → occurs (get_or numbers k 0) (drop (suc k) numbers) ≡ false
    walk_end h = nothing_behind numbers k (λ u a b. beyond u a b (dec_le u j))
      where
        last : Above (bucket numbers) j i ⊎ Around (length numbers) (bucket numbers) j i → (u : ℕ) → j < u → u < length numbers → bucket numbers u ≢ bucket numbers j
        last (inl w) u a b = absurd (omega (arith, w.0))
        last (inr w) u a b = w.0 u a b

        beyond : (u : ℕ) → k < u → u < length numbers → Dec (u ≤ j) → get_or numbers u 0 ≢ get_or numbers k 0
        beyond u a b (yes c) = W.unmet u a c
        beyond u a b (no c) = λ e. last (leads W.within).next u (omega arith) b (same_bucket numbers u k b start e ∙ sym W.kept)

-- COUNTING DOWNWARD

pub counted_none : (numbers : List ℕ) → 0 ≡ different (drop (length numbers) numbers)
unfolding different
counted_none numbers = sym (ap different (drop-length numbers))

module _ (numbers : List ℕ) (k count : ℕ) (passed : count ≡ different (drop k numbers)) where
  pub counted_most : count ≤ length numbers
  counted_most = omega (arith, different_most (drop k numbers), length-drop k numbers)

  -- number k - 1, in front of those passed
  counted_more : 0 < k → k ≤ length numbers → (b : Bool) → occurs (get_or numbers (k - 1) 0) (drop (suc (k - 1)) numbers) ≡ b
      → different (drop (k - 1) numbers) ≡ cond b count (suc count)
  unfolding different
  counted_more h l b e =
      let same : suc (k - 1) ≡ k = omega arith in
      let rest : different (drop (suc (k - 1)) numbers) ≡ count = ap (λ (i : ℕ). different (drop i numbers)) same ∙ sym passed in
      ap different (drop-cons numbers (k - 1) 0 (omega arith)) ∙ ap₂ (λ (t : Bool) (r : ℕ). cond t r (suc r)) e rest

  pub counted_again : 0 < k → k ≤ length numbers → occurs (get_or numbers (k - 1) 0) (drop (suc (k - 1)) numbers) ≡ true → count ≡ different (drop (k - 1) numbers)
  counted_again h l e = sym (counted_more h l true e)

  pub counted_last : 0 < k → k ≤ length numbers → occurs (get_or numbers (k - 1) 0) (drop (suc (k - 1)) numbers) ≡ false → count + 1 ≡ different (drop (k - 1) numbers)
  counted_last h l e = omega (arith, counted_more h l false e)
