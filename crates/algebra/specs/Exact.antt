-- Exact counts: `Exactly K P` says that a list without repetition has all things that satisfy P and no others, and that its length is K.
--
-- IN A LIST
-- all_in                       what every element satisfies, an element does
-- in_append_left, in_append_right   an element of one of two lists is one of both end to end
-- in_image                     the image of an element is one of the images
-- in_get_or, get_or_in         an element by its index, and back
-- in_tab, tab_in               the elements of f 0, .., f (n - 1)
-- occurs_in, occurs_not, in_occurs   what the test says
-- nodup_within                 a list without repetition is no longer than a list that has all its elements
-- EXACT COUNTS
-- exactly_at_most              at most as many
-- exactly_same                 two exact counts of one thing agree
-- exactly_of                   of a property that says the same
-- exactly_image                along a one-to-one map onto the things counted
-- exactly_or                   things of two kinds, of which none is of both: the counts add up
-- exactly_pairs                pairs, the first below N: the sum over the first of the counts of the second
-- exactly_none, exactly_one, exactly_below   none at all; one only; the numbers below n
-- exactly_each                 pairs, with equally many of the second for each of the first: the product of the counts. Of independent things too
-- DIFFERENT NUMBERS
-- exactly_different            a list has exactly `different` numbers
-- different_most               at most as many as it is long
-- A PERMUTATION
-- perm_onto                    a permutation of 0 .. n - 1 reaches each of them
--
-- Assumes nothing.
use Rattle.std.specs.Prelude.{◌≡◌, refl, ◌≢◌, ◌⊎◌, Bool, true, false, cond, List, [], ◌∷◌, ◌++◌, map, ℕ, zero, suc, ◌+◌, ◌*◌, ◌≤◌, ◌<◌, eqb, length, get_or}
use Rattle.std.proofs.Common.{sym, ap, ◌∙◌, subst, inl, inr, ⊎_elim, add_comm, zero-mul, suc-mul, arith, length-append, eqb-true}
use Rattle.std.proofs.Math.Decide.{ℕ_discrete}
use Rattle.std.proofs.lemmas.List.{length-map}
use Rattle.std.proofs.lemmas.Bool.{eqb-false}
use Rattle.algebra.specs.Lists.{tab, sum_n, All, Nodup, In, AtMost, Exactly, occurs, different, Perm}
use Rattle.algebra.specs.Search.{both_false, one_true}
use Rattle.algebra.specs.Tables.{length-tab, get_or-tab, all_tab, nodup_tab, all_append}
use Rattle.algebra.specs.Counting.{All-map, All_image, Nodup_image, at_most_below}

-- IN A LIST

module _ {A : Type 0} where
  pub all_in : (P : A → Type 0) (l : List A) → All P l → (a : A) → In a l → P a
  all_in P [] t a i = absurd i
  all_in P (x ∷ xs) t a (inl e) = subst P (sym e) t.0
  all_in P (x ∷ xs) t a (inr i) = all_in P xs t.1 a i

  pub in_append_left : (l m : List A) (a : A) → In a l → In a (l ++ m)
  in_append_left [] m a i = absurd i
  in_append_left (x ∷ xs) m a (inl e) = inl e
  in_append_left (x ∷ xs) m a (inr i) = inr (in_append_left xs m a i)

  pub in_append_right : (l m : List A) (a : A) → In a m → In a (l ++ m)
  in_append_right [] m a i = i
  in_append_right (x ∷ xs) m a i = inr (in_append_right xs m a i)

  -- the list m with its element x taken out
  record Without (x : A) (m : List A) : Type 0 where
    rest : List A
    long : length m ≡ suc (length rest)
    other : (y : A) → x ≢ y → In y m → In y rest

  take_out : (x : A) (m : List A) → In x m → Without x m
  take_out x [] i = absurd i
  take_out x (y ∷ ys) (inl e) =
      record { rest = ys; long = refl; other = λ z n. ⊎_elim (λ u. absurd (n (e ∙ sym u))) (λ i. i) }
  take_out x (y ∷ ys) (inr i) =
      let w = take_out x ys i in
      record {
        rest = y ∷ w.rest;
        long = ap suc w.long;
        other = λ z n. ⊎_elim (λ u. inl u) (λ j. inr (w.other z n j));
      }

  pub nodup_within : (l m : List A) → Nodup l → ((a : A) → In a l → In a m) → length l ≤ length m
  nodup_within [] m n h = omega arith
  nodup_within (x ∷ xs) m n h =
      let w = take_out x m (h x (inl refl)) in
      omega (arith, w.long, nodup_within xs w.rest n.1 (λ a i. w.other a (all_in (λ y. x ≢ y) xs n.0 a i) (h a (inr i))))

pub in_image : {A B : Type 0} (f : A → B) (l : List A) (a : A) → In a l → In (f a) (map f l)
in_image f [] a i = absurd i
in_image f (x ∷ xs) a (inl e) = inl (ap f e)
in_image f (x ∷ xs) a (inr i) = inr (in_image f xs a i)

pub in_get_or : (l : List ℕ) (i : ℕ) → i < length l → In (get_or l i 0) l
in_get_or [] i h = absurd (omega arith)
in_get_or (x ∷ l) zero h = inl refl
in_get_or (x ∷ l) (suc i) h = inr (in_get_or l i (omega arith))

pub get_or_in : (l : List ℕ) (x : ℕ) → In x l → (i : ℕ) × (i < length l) × (x ≡ get_or l i 0)
get_or_in [] x i = absurd i
get_or_in (y ∷ l) x (inl e) = (0, omega arith, e)
get_or_in (y ∷ l) x (inr i) = let r = get_or_in l x i in (suc r.0, omega (arith, r.1), r.2)

pub in_tab : (f : ℕ → ℕ) (n k : ℕ) → k < n → In (f k) (tab f n)
in_tab f n k h = subst (λ (y : ℕ). In y (tab f n)) (get_or-tab f n k h) (in_get_or (tab f n) k (omega (arith, length-tab f n)))

pub tab_in : (f : ℕ → ℕ) (n x : ℕ) → In x (tab f n) → (k : ℕ) × (k < n) × (x ≡ f k)
tab_in f n x i =
    let r = get_or_in (tab f n) x i in
    let h : r.0 < n = omega (arith, r.1, length-tab f n) in
    (r.0, h, r.2 ∙ get_or-tab f n r.0 h)

pub occurs_in : (x : ℕ) (l : List ℕ) → occurs x l ≡ true → In x l
unfolding occurs
occurs_in x [] e = let u : ◌≡◌ {A = ℕ} 0 1 = cc in absurd (omega arith)
occurs_in x (y ∷ l) e = ⊎_elim (λ u. inl (eqb-true x y u)) (λ u. inr (occurs_in x l u)) (one_true (eqb x y) (occurs x l) e)

pub occurs_not : (x : ℕ) (l : List ℕ) → occurs x l ≡ false → In x l → ⊥
unfolding occurs
occurs_not x [] e i = i
occurs_not x (y ∷ l) e (inl u) = eqb-false x y (both_false (eqb x y) (occurs x l) e).0 u
occurs_not x (y ∷ l) e (inr i) = occurs_not x l (both_false (eqb x y) (occurs x l) e).1 i

pub in_occurs : (x : ℕ) (l : List ℕ) → In x l → occurs x l ≡ true
in_occurs x l i = go (occurs x l) refl
  where
    go : (b : Bool) → occurs x l ≡ b → b ≡ true
    go true u = refl
    go false u = absurd (occurs_not x l u i)

-- EXACT COUNTS

-- an element of neither list twice, nor of both
nodup_append : {A : Type 0} (l m : List A) → Nodup l → Nodup m → All (λ a. All (λ b. a ≢ b) m) l → Nodup (l ++ m)
nodup_append [] m n o h = o
nodup_append (x ∷ xs) m n o h = (all_append (λ y. x ≢ y) xs m n.0 h.0, nodup_append xs m n.1 o h.1)

module _ {A : Type 0} where
  pub exactly_at_most : {K : ℕ} {P : A → Type 0} → Exactly K P → AtMost K P
  exactly_at_most {K} {P} e l n t = omega (arith, e.count, nodup_within l e.things n (λ a i. e.all a (all_in P l t a i)))

  pub exactly_same : {K L : ℕ} {P : A → Type 0} → Exactly K P → Exactly L P → K ≡ L
  exactly_same e f =
      omega (arith, e.count, f.count, exactly_at_most e f.things f.once f.only, exactly_at_most f e.things e.once e.only)

  pub exactly_of : {K : ℕ} {P Q : A → Type 0} → Exactly K P → ((a : A) → P a → Q a) → ((a : A) → Q a → P a) → Exactly K Q
  exactly_of e to from =
      record { things = e.things; once = e.once; only = All-map to e.things e.only; all = λ a h. e.all a (from a h); count = e.count }

  pub exactly_or : {K L : ℕ} {P Q R : A → Type 0} → Exactly K P → Exactly L Q → ((a : A) → P a → Q a → ⊥)
      → ((a : A) → P a ⊎ Q a → R a) → ((a : A) → R a → P a ⊎ Q a) → Exactly (K + L) R
  exactly_or {K} {L} {P} {Q} {R} e f apart to from =
      record {
        things = e.things ++ f.things;
        once = nodup_append e.things f.things e.once f.once
            (All-map (λ a h. All-map (λ b k u. apart a h (subst Q (sym u) k)) f.things f.only) e.things e.only);
        only = all_append R e.things f.things
            (All-map (λ a h. to a (inl h)) e.things e.only)
            (All-map (λ a h. to a (inr h)) f.things f.only);
        all = λ a h.
            ⊎_elim (λ u. in_append_left e.things f.things a (e.all a u)) (λ u. in_append_right e.things f.things a (f.all a u)) (from a h);
        count = omega (arith, length-append e.things f.things, e.count, f.count);
      }

pub exactly_image : {A B : Type 0} {K : ℕ} {P : A → Type 0} {Q : B → Type 0} (f : A → B) → ((a : A) → P a → Q (f a))
    → ((a b : A) → P a → P b → f a ≡ f b → a ≡ b) → ((b : B) → Q b → (a : A) × P a × (f a ≡ b)) → Exactly K P → Exactly K Q
exactly_image {A} {B} {K} {P} {Q} f to inj onto e =
    record {
      things = map f e.things;
      once = Nodup_image f inj e.things e.once e.only;
      only = All_image Q f to e.things e.only;
      all = λ b h. let r = onto b h in subst (λ y. In y (map f e.things)) r.2 (in_image f e.things r.0 (e.all r.0 r.1));
      count = length-map e.things f ∙ e.count;
    }

pub exactly_pairs : {P : (ℕ × ℕ) → Type 0} (N : ℕ) (K : ℕ → ℕ) → ((s : ℕ × ℕ) → P s → s.0 < N)
    → ((b : ℕ) → b < N → Exactly (K b) (λ c. P (b, c))) → Exactly (sum_n N K) P
exactly_pairs zero K low each =
    record { things = []; once = tt; only = tt; all = λ s h. omega (arith, low s h); count = refl }
exactly_pairs {P} (suc N) K low each =
    exactly_or {P = λ s. P s × (s.0 ≡ N)} {Q = λ s. P s × (s.0 < N)}
    (exactly_image {P = λ c. P (N, c)} (λ c. (N, c)) (λ c h. (h, refl)) (λ c d h k e. ap (λ (s : ℕ × ℕ). s.1) e) back (each N (omega arith)))
    (exactly_pairs N K (λ s h. h.1) (λ b l. exactly_of (each b (omega arith)) (λ c h. (h, l)) (λ c h. h.0)))
    (λ s h k. omega (arith, h.1, k.1))
    (λ s. ⊎_elim (λ h. h.0) (λ h. h.0))
    (λ s h. side s h (ℕ_discrete s.0 N))
  where
    back : (s : ℕ × ℕ) → P s × (s.0 ≡ N) → (c : ℕ) × P (N, c) × (◌≡◌ {A = ℕ × ℕ} (N, c) s)
    back s h = (s.1, subst (λ (b : ℕ). P (b, s.1)) h.1 h.0, λ i. (sym h.1 i, s.1))

    side : (s : ℕ × ℕ) → P s → Dec (s.0 ≡ N) → (P s × (s.0 ≡ N)) ⊎ (P s × (s.0 < N))
    side s h (yes e) = inl (h, e)
    side s h (no e) = inr (h, omega (arith, low s h))

module _ {A : Type 0} {P : A → Type 0} where
  pub exactly_none : ((a : A) → P a → ⊥) → Exactly 0 P
  exactly_none h = record { things = []; once = tt; only = tt; all = λ a k. h a k; count = refl }

  pub exactly_one : (a : A) → P a → ((b : A) → P b → b ≡ a) → Exactly 1 P
  exactly_one a h same = record { things = a ∷ []; once = (tt, tt); only = (h, tt); all = λ b k. inl (same b k); count = refl }

pub exactly_below : (n : ℕ) → Exactly n (λ k. k < n)
exactly_below n =
    record {
      things = tab (λ k. k) n;
      once = nodup_tab (λ k. k) n (λ j k h l e. e);
      only = all_tab (λ k. k < n) (λ k. k) n (λ k h. h);
      all = λ k h. in_tab (λ j. j) n k h;
      count = length-tab (λ k. k) n;
    }

module _ {A B : Type 0} {L : ℕ} {Q : A → B → Type 0} where
  -- the first in a list without repetition
  each_of : (l : List A) → Nodup l → ((a : A) → In a l → Exactly L (Q a)) → Exactly (length l * L) (λ (s : A × B). In s.0 l × Q s.0 s.1)
  each_of [] n f = rw (zero-mul L) (exactly_none (λ s h. h.0))
  each_of (x ∷ xs) n f =
      rw (suc-mul (length xs) L, add_comm (length xs * L) L)
      (exactly_or {P = λ s. (s.0 ≡ x) × Q s.0 s.1} {Q = λ s. In s.0 xs × Q s.0 s.1}
      (exactly_image {P = Q x} (λ b. (x, b)) (λ b h. (refl, h)) (λ b c h k e. ap (λ (s : A × B). s.1) e) back (f x (inl refl)))
      (each_of xs n.1 (λ a i. f a (inr i)))
      (λ s h k. all_in (λ y. x ≢ y) xs n.0 s.0 k.0 (sym h.0))
      (λ s. ⊎_elim (λ h. (inl h.0, h.1)) (λ h. (inr h.0, h.1)))
      (λ s h. ⊎_elim (λ e. inl (e, h.1)) (λ i. inr (i, h.1)) h.0))
    where
      back : (s : A × B) → (s.0 ≡ x) × Q s.0 s.1 → (b : B) × Q x b × (◌≡◌ {A = A × B} (x, b) s)
      back s h = (s.1, subst (λ (a : A). Q a s.1) h.0 h.1, λ i. (sym h.0 i, s.1))

  pub exactly_each : {K : ℕ} {P : A → Type 0} → Exactly K P → ((a : A) → P a → Exactly L (Q a)) → Exactly (K * L) (λ (s : A × B). P s.0 × Q s.0 s.1)
  exactly_each {K} {P} e f =
      rw (← e.count)
      (exactly_of (each_of e.things e.once (λ a i. f a (all_in P e.things e.only a i)))
      (λ s h. (all_in P e.things e.only s.0 h.0, h.1))
      (λ s h. (e.all s.0 h.0, h.1)))

-- DIFFERENT NUMBERS

pub exactly_different : (l : List ℕ) → Exactly (different l) (λ x. In x l)
unfolding different
exactly_different [] = record { things = []; once = tt; only = tt; all = λ x i. i; count = refl }
exactly_different (x ∷ l) = go (occurs x l) refl (exactly_different l)
  where
    go : (b : Bool) → occurs x l ≡ b → Exactly (different l) (λ y. In y l) → Exactly (cond b (different l) (suc (different l))) (λ y. In y (x ∷ l))
    go true u e = exactly_of e (λ y i. inr i) (λ y. ⊎_elim (λ v. subst (λ (z : ℕ). In z l) (sym v) (occurs_in x l u)) (λ i. i))
    go false u e =
        record {
          things = x ∷ e.things;
          once = (All-map (λ y i v. occurs_not x l u (subst (λ (z : ℕ). In z l) (sym v) i)) e.things e.only, e.once);
          only = (inl refl, All-map (λ y i. inr i) e.things e.only);
          all = λ y. ⊎_elim (λ v. inl v) (λ i. inr (e.all y i));
          count = ap suc e.count;
        }

pub different_most : (l : List ℕ) → different l ≤ length l
unfolding different
different_most [] = omega arith
different_most (x ∷ l) = go (occurs x l) (different_most l)
  where
    go : (b : Bool) → different l ≤ length l → cond b (different l) (suc (different l)) ≤ suc (length l)
    go true h = omega arith
    go false h = omega arith

-- A PERMUTATION

pub perm_onto : (n : ℕ) (σ : ℕ → ℕ) → Perm n σ → (j : ℕ) → j < n → (k : ℕ) × (k < n) × (σ k ≡ j)
perm_onto n σ s j l = go (occurs j (tab σ n)) refl
  where
    -- n different numbers below n and j, if it were not among them, are too many
    go : (b : Bool) → occurs j (tab σ n) ≡ b → (k : ℕ) × (k < n) × (σ k ≡ j)
    go true u = let r = tab_in σ n j (occurs_in j (tab σ n) u) in (r.0, r.1, sym r.2)
    go false u =
        absurd
        (omega (
          arith,
          length-tab σ n,
          at_most_below n (j ∷ tab σ n)
              (all_tab (λ y. j ≢ y) σ n (λ k h v. occurs_not j (tab σ n) u (subst (λ (z : ℕ). In z (tab σ n)) (sym v) (in_tab σ n k h))), nodup_tab σ n s.inj)
              (l, all_tab (λ y. y < n) σ n s.into),
        ))
