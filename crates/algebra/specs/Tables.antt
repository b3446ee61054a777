-- The list f 0, f 1, .., f (n - 1): its length, its elements, and the laws of a loop that writes it into a slice, one store a turn. Where i
-- words are written, the slice is `tab f i ++ drop i o`, o being what it was.
--
-- length-tab, get_or-tab, tab_snoc, tab-add, tab_ext   of the list itself
-- tab-get_or                                a list is the table of its own elements
-- tab_const                                 a table of one number
-- gathered_some, gathered_ext               what is gathered, where there is each number; it sees the first n only
-- all_tab, nodup_tab                        every element; no element twice
-- all_get_d, all_of                         every element, by index
-- all_append, all_left, all_right           every element of two lists end to end, there and back
-- wrote_none, wrote_more, wrote_all         the loop: before, a turn, after
-- filled                                    the loop by its words: each word below i is f of its place, and i is past the last
-- unread                                    the word that a turn is about to write is still what it was
--
-- A loop that writes from the end down: where the words from i on are written, `FromOn f i o` says so of the slice o.
-- FromOn f i o                              word k of o is f(k), for every k from i on
-- from_none, from_more, from_all            the loop: before, a turn, after
-- from_read                                 a word from i on, or past the end where f is 0
--
-- Assumes nothing.
use Rattle.std.specs.Prelude.{◌≡◌, refl, ◌≢◌, List, [], ◌∷◌, ◌++◌, ℕ, zero, suc, ◌+◌, ◌<◌, ◌≤◌, length, get_or, set, drop, replicate}
use Rattle.std.proofs.Common.{sym, ap, ap₂, ◌∙◌, append-nil, le_antisymm, zero-add, suc-add, add-one, arith, length-set, drop-cons, get_or-drop, get_or-append-add, get_or-set_same, get_or-set_other, ext_get_or}
use Rattle.std.proofs.Math.Option.{Option, none, some, map}
use Rattle.std.proofs.Math.Decide.{dec_lt, ℕ_discrete}
use Rattle.std.proofs.Math.ListN.{get_or-eq_default}
use Rattle.std.proofs.lemmas.List.{set_at}
use Rattle.std.proofs.Math.Seq.{append_snoc, drop-length}
use Rattle.algebra.specs.Lists.{tab, gathered, All, Nodup}

pub length-tab : (f : ℕ → ℕ) (n : ℕ) → length (tab f n) ≡ n
unfolding tab
length-tab f zero = refl
length-tab f (suc n) = ap suc (length-tab (λ k. f (suc k)) n)

pub get_or-tab : (f : ℕ → ℕ) (n i : ℕ) → i < n → get_or (tab f n) i 0 ≡ f i
unfolding tab
get_or-tab f zero i h = absurd (omega arith)
get_or-tab f (suc n) zero h = refl
get_or-tab f (suc n) (suc i) h = get_or-tab (λ k. f (suc k)) n i (omega arith)

pub tab_snoc : (f : ℕ → ℕ) (n : ℕ) → tab f (suc n) ≡ tab f n ++ (f n ∷ [])
unfolding tab
tab_snoc f zero = refl
tab_snoc f (suc n) = ap (λ (l : List ℕ). f 0 ∷ l) (tab_snoc (λ k. f (suc k)) n)

pub tab_ext : (f g : ℕ → ℕ) (n : ℕ) → ((k : ℕ) → k < n → f k ≡ g k) → tab f n ≡ tab g n
unfolding tab
tab_ext f g zero h = refl
tab_ext f g (suc n) h =
    ap₂ (λ (a : ℕ) (l : List ℕ). a ∷ l) (h 0 (omega arith))
    (tab_ext (λ k. f (suc k)) (λ k. g (suc k)) n (λ k l. h (suc k) (omega arith)))

pub tab-add : (f : ℕ → ℕ) (m n : ℕ) → tab f (m + n) ≡ tab f m ++ tab (λ k. f (m + k)) n
unfolding tab
tab-add f zero n = simp zero-add
tab-add f (suc m) n = simp suc-add (ap (λ (l : List ℕ). f 0 ∷ l) (tab-add (λ k. f (suc k)) m n))

pub tab-get_or : (l : List ℕ) → tab (λ k. get_or l k 0) (length l) ≡ l
unfolding tab
tab-get_or [] = refl
tab-get_or (a ∷ l) = ap (λ (m : List ℕ). a ∷ m) (tab-get_or l)

pub tab_const : (c n : ℕ) → tab (λ k. c) n ≡ replicate n c
unfolding tab
tab_const c zero = refl
tab_const c (suc n) = ap (λ (l : List ℕ). c ∷ l) (tab_const c n)

pub gathered_some : (f : ℕ → Option ℕ) (g : ℕ → ℕ) (n : ℕ) → ((k : ℕ) → k < n → f k ≡ some (g k)) → gathered f n ≡ some (tab g n)
unfolding gathered tab
gathered_some f g zero h = refl
gathered_some f g (suc n) h =
    rw (h 0 (omega arith), gathered, gathered_some (λ k. f (suc k)) (λ k. g (suc k)) n (λ k l. h (suc k) (omega arith)))

pub gathered_ext : (f g : ℕ → Option ℕ) (n : ℕ) → ((k : ℕ) → k < n → f k ≡ g k) → gathered f n ≡ gathered g n
unfolding gathered
gathered_ext f g zero h = refl
gathered_ext f g (suc n) h =
    ap₂ (λ (o : Option ℕ) (t : Option (List ℕ)). elim o [ none ↦ none | some a ↦ map (λ l. a ∷ l) t ]) (h 0 (omega arith))
    (gathered_ext (λ k. f (suc k)) (λ k. g (suc k)) n (λ k l. h (suc k) (omega arith)))

pub all_tab : (P : ℕ → Type 0) (f : ℕ → ℕ) (n : ℕ) → ((k : ℕ) → k < n → P (f k)) → All P (tab f n)
unfolding tab
all_tab P f zero h = tt
all_tab P f (suc n) h = (h 0 (omega arith), all_tab P (λ k. f (suc k)) n (λ k l. h (suc k) (omega arith)))

pub nodup_tab : (f : ℕ → ℕ) (n : ℕ) → ((j k : ℕ) → j < n → k < n → f j ≡ f k → j ≡ k) → Nodup (tab f n)
unfolding tab
nodup_tab f zero inj = tt
nodup_tab f (suc n) inj = (
  all_tab (λ y. f 0 ≢ y) (λ k. f (suc k)) n (λ k l e. omega (arith, inj 0 (suc k) (omega arith) (omega arith) e)),
  nodup_tab (λ k. f (suc k)) n (λ j k h l e. omega (arith, inj (suc j) (suc k) (omega arith) (omega arith) e)),
)

pub all_get_d : (P : ℕ → Type 0) (l : List ℕ) → All P l → (i : ℕ) → i < length l → P (get_or l i 0)
all_get_d P [] t i h = absurd (omega arith)
all_get_d P (x ∷ xs) t zero h = t.0
all_get_d P (x ∷ xs) t (suc i) h = all_get_d P xs t.1 i (omega arith)

pub all_of : (P : ℕ → Type 0) (l : List ℕ) → ((i : ℕ) → i < length l → P (get_or l i 0)) → All P l
all_of P [] h = tt
all_of P (a ∷ l) h = (h 0 (omega arith), all_of P l (λ i k. h (suc i) (omega arith)))

pub all_append : {A : Type 0} (P : A → Type 0) (f g : List A) → All P f → All P g → All P (f ++ g)
all_append P [] g a b = b
all_append P (c ∷ f) g a b = (a.0, all_append P f g a.1 b)

pub all_left : (P : ℕ → Type 0) (f g : List ℕ) → All P (f ++ g) → All P f
all_left P [] g a = tt
all_left P (c ∷ f) g a = (a.0, all_left P f g a.1)

pub all_right : (P : ℕ → Type 0) (f g : List ℕ) → All P (f ++ g) → All P g
all_right P [] g a = a
all_right P (c ∷ f) g a = all_right P f g a.1

pub wrote_none : (f : ℕ → ℕ) (o : List ℕ) → o ≡ tab f 0 ++ drop 0 o
unfolding tab
wrote_none f o = refl

pub wrote_more : (f : ℕ → ℕ) (i v : ℕ) (o₀ o : List ℕ) → i < length o₀ → o ≡ tab f i ++ drop i o₀ → v ≡ f i
    → set o i v ≡ tab f (i + 1) ++ drop (i + 1) o₀
wrote_more f i v o₀ o h e w =
    rw (add-one i, tab_snoc f i, e, w, drop-cons o₀ i 0 h, append_snoc (tab f i) (f i))
    (set_at (tab f i) (get_or o₀ i 0) (drop (suc i) o₀) (f i) i (length-tab f i))

pub wrote_all : (f : ℕ → ℕ) (i : ℕ) (o₀ o : List ℕ) → length o₀ ≤ i → i ≤ length o₀ → o ≡ tab f i ++ drop i o₀
    → o ≡ tab f (length o₀)
wrote_all f i o₀ o h k e =
    let q : i ≡ length o₀ = le_antisymm k h in e ∙ rw (q, drop-length o₀) (append-nil (tab f (length o₀)))

pub filled : (f : ℕ → ℕ) {o : List ℕ} {i n : ℕ} → length o ≡ n → n ≤ i → ((k : ℕ) → k < i → get_or o k 0 ≡ f k) → o ≡ tab f n
filled f {o} {i} {n} e l h = ext_get_or 0 _ _ (e ∙ sym (length-tab f n)) (λ k m. h k (omega arith) ∙ sym (get_or-tab f n k (omega arith)))

pub unread : (f : ℕ → ℕ) (i : ℕ) (o₀ o : List ℕ) → o ≡ tab f i ++ drop i o₀ → get_or o i 0 ≡ get_or o₀ i 0
unread f i o₀ o e =
    let at : i ≡ length (tab f i) + 0 = omega (arith, length-tab f i) in
    ap₂ (λ (l : List ℕ) (n : ℕ). get_or l n 0) e at
    ∙ get_or-append-add (tab f i) (drop i o₀) 0 0
    ∙ get_or-drop i o₀ 0 0
    ∙ ap (λ (n : ℕ). get_or o₀ n 0) (omega arith)

-- FROM THE END DOWN

abbrev pub FromOn : (ℕ → ℕ) → ℕ → List ℕ → Type 0
FromOn f i o = (k : ℕ) → i ≤ k → k < length o → get_or o k 0 ≡ f k

pub from_none : (f : ℕ → ℕ) (o : List ℕ) → FromOn f (length o) o
from_none f o k h l = absurd (omega arith)

pub from_more : (f : ℕ → ℕ) (i j v : ℕ) (o : List ℕ) → i ≡ suc j → j < length o → v ≡ f j → FromOn f i o → FromOn f j (set o j v)
from_more f i j v o e h is was k l u = go (ℕ_discrete k j)
  where
    go : Dec (k ≡ j) → get_or (set o j v) k 0 ≡ f k
    go (yes w) = rw w (get_or-set_same o j v 0 h ∙ is)
    go (no w) = get_or-set_other o j k v 0 w ∙ was k (omega arith) (omega (arith, length-set o j v))

pub from_all : (f : ℕ → ℕ) (o : List ℕ) → FromOn f 0 o → o ≡ tab f (length o)
from_all f o was =
    ext_get_or 0 o (tab f (length o)) (sym (length-tab f (length o)))
    (λ k h. was k (omega arith) h ∙ sym (get_or-tab f (length o) k h))

pub from_read : (f : ℕ → ℕ) (i k : ℕ) (o : List ℕ) → i ≤ k → (length o ≤ k → f k ≡ 0) → FromOn f i o → get_or o k 0 ≡ f k
from_read f i k o h past was = go (dec_lt k (length o))
  where
    go : Dec (k < length o) → get_or o k 0 ≡ f k
    go (yes l) = was k h l
    go (no l) = get_or-eq_default o 0 (omega arith) ∙ sym (past (omega arith))
