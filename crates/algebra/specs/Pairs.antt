-- The pair bound: how many pairs (beta, gamma) do not tell contents from a permuted copy of them.
--
-- PairPasses p M v m σ s   the pair s of elements makes the products over the M positions k of v(k) + beta × m(k) + gamma and of
--                          v(k) + beta × m(σ k) + gamma equal modulo p, for contents v and tags m
-- pair_bound               where σ is a permutation, the tags differ, and v(σ k) ≠ v(k) at some k, at most (M - 1) × p pairs pass
--
-- The plane of pairs is covered by the p parallel lines gamma = g - beta × m(σ k₀), k₀ being a position whose content changes. On each line both
-- products are polynomials in beta of M coefficients, whose highest coefficients are (v(σ k₀) + g) × Q and (v(k₀) + g) × Q with Q not zero. They
-- differ, so at most M - 1 betas of the line pass.
--
-- Assumes that p is prime, as a parameter.
use Rattle.std.specs.Prelude.{◌≡◌, refl, ◌≢◌, List, [], ◌∷◌, length}
use Rattle.std.proofs.Common.{sym, ap, ◌∙◌, ⊎_elim, mod-lt, zero-lt-suc, arith}
use Prim.Native.Nat.{ℕ, zero, suc, ◌+◌, ◌*◌, ◌%◌, ◌≤◌, ◌<◌}
use Rattle.std.proofs.Math.Decide.{ℕ_discrete}
use Rattle.std.proofs.Math.ListN.{get_or-eq_default}
use Rattle.algebra.specs.Modular.{Prime}
use Rattle.algebra.specs.Lists.{prod_n, AtMost, Perm}
use Rattle.algebra.specs.Polynomial.{coef, eval, add_p, scale_p, Root}
use Rattle.algebra.specs.Congruence.{Cong, cong, ◌⨾◌, back, cong_add, cong_mul, cong_mod, cong_lt, cong_cancel, cong_diff, cong_same, cong_neg, is_0}
use Rattle.algebra.specs.Primes.{euclid, one_nonzero}
use Rattle.algebra.specs.PolynomialLaws.{eval_add, eval_scale, length-add, length_scale, coef-add, coef_scale}
use Rattle.algebra.specs.Counting.{at_most_key, at_most_image}
use Rattle.algebra.specs.Roots.{roots, sub_p, eval_sub, coef-sub, length-sub}
use Rattle.algebra.specs.Products.{prod_n_ext, prod_n_cong, prod_n_nonzero, prod_n_perm}

abbrev pub PairPasses : ℕ → ℕ → (ℕ → ℕ) → (ℕ → ℕ) → (ℕ → ℕ) → (ℕ × ℕ) → Type 0
PairPasses p M v m σ s =
    (s.0 < p) × (s.1 < p)
    × Cong p (prod_n M (λ k. v k + s.0 * m k + s.1)) (prod_n M (λ k. v k + s.0 * m (σ k) + s.1))

-- PRODUCTS OF LINEAR FACTORS

-- h is a polynomial of degree at most d, whose coefficient at d is c
record Lead (d c : ℕ) (h : ℕ → ℕ) : Type 0 where
  poly : List ℕ
  short : length poly ≤ suc d
  top : coef poly d ≡ c
  val : (x : ℕ) → h x ≡ eval poly x

lead_one : Lead 0 1 (λ x. 1)
lead_one = record { poly = 1 ∷ []; short = omega arith; top = refl; val = λ x. omega arith }

lead_const : {d c : ℕ} {h : ℕ → ℕ} (a : ℕ) → Lead d c h → Lead d (a * c) (λ x. a * h x)
lead_const {d} a l =
    record {
      poly = scale_p a l.poly;
      short = omega (arith, length_scale a l.poly, l.short);
      top = coef_scale a l.poly d ∙ ap (λ (z : ℕ). a * z) l.top;
      val = λ x. ap (λ (z : ℕ). a * z) (l.val x) ∙ sym (eval_scale a l.poly x);
    }

lead_linear : {d c : ℕ} {h : ℕ → ℕ} (a b : ℕ) → Lead d c h → Lead (suc d) (b * c) (λ x. (a + b * x) * h x)
lead_linear {d} {c} {h} a b l =
    record {
      poly = add_p (scale_p a f) (0 ∷ scale_p b f);
      short = omega (arith, length-add (scale_p a f) (0 ∷ scale_p b f), length_scale a f, length_scale b f, l.short);
      top = rw (coef-add (scale_p a f) (0 ∷ scale_p b f) (suc d), coef_scale a f (suc d), coef_scale b f d, l.top, get_or-eq_default f 0 l.short) (omega arith);
      val = λ x. rw (eval_add (scale_p a f) (0 ∷ scale_p b f) x, eval_scale a f x, eval_scale b f x, l.val x) (omega arith);
    }
  where
    f : List ℕ
    f = l.poly

lead_as : {d c e : ℕ} {h k : ℕ → ℕ} → Lead d c h → c ≡ e → ((x : ℕ) → k x ≡ h x) → Lead d e k
lead_as l u v = record { poly = l.poly; short = l.short; top = l.top ∙ u; val = λ x. v x ∙ l.val x }

-- x at j, and y elsewhere
pick : {A : Type 0} → Dec A → ℕ → ℕ → ℕ
pick (yes e) x y = x
pick (no e) x y = y

abbrev sel : ℕ → ℕ → ℕ → ℕ → ℕ
sel j k x y = pick (ℕ_discrete k j) x y

sel_same : (j k x y : ℕ) → k ≡ j → sel j k x y ≡ x
unfolding pick
sel_same j k x y e = go (ℕ_discrete k j)
  where
    go : (d : Dec (k ≡ j)) → pick d x y ≡ x
    go (yes u) = refl
    go (no u) = absurd (u e)

sel_other : (j k x y : ℕ) → k ≢ j → sel j k x y ≡ y
unfolding pick
sel_other j k x y n = go (ℕ_discrete k j)
  where
    go : (d : Dec (k ≡ j)) → pick d x y ≡ y
    go (yes u) = absurd (n u)
    go (no u) = refl

-- the product over k < n of a k + b k × x, where the slope at j is left out
module _ (a b : ℕ → ℕ) (j : ℕ) where
  abbrev skip : ℕ → ℕ → ℕ
  skip x k = a k + sel j k 0 (b k) * x

  abbrev slopes : ℕ → ℕ
  slopes k = sel j k 1 (b k)

  before : (n : ℕ) → n ≤ j → Lead n (prod_n n slopes) (λ x. prod_n n (skip x))
  before zero h = lead_one
  before (suc n) h =
      let ne : n ≢ j = omega arith in
      rw (sel_other j n 0 (b n), sel_other j n 1 (b n)) (lead_linear (a n) (b n) (before n (omega arith)))

  here : (n : ℕ) → n ≡ j → Lead n (a j * prod_n (suc n) slopes) (λ x. prod_n (suc n) (skip x))
  here n e =
      lead_as (lead_const (a n) (before n (omega arith)))
      (rw (sel_same j n 1 (b n) e, e) (omega arith))
      (λ x. rw (sel_same j n 0 (b n) e) (omega arith))

  past : (n : ℕ) → j ≤ n → Lead n (a j * prod_n (suc n) slopes) (λ x. prod_n (suc n) (skip x))
  past zero h = here zero (omega arith)
  past (suc n) h = go (past n) (ℕ_discrete (suc n) j)
    where
      go : (j ≤ n → Lead n (a j * prod_n (suc n) slopes) (λ x. prod_n (suc n) (skip x))) → Dec (suc n ≡ j)
          → Lead (suc n) (a j * prod_n (suc (suc n)) slopes) (λ x. prod_n (suc (suc n)) (skip x))
      go ih (yes e) = here (suc n) e
      go ih (no e) =
          lead_as (lead_linear (a (suc n)) (b (suc n)) (ih (omega arith)))
          (rw (sel_other j (suc n) 1 (b (suc n)) e) (omega arith))
          (λ x. rw (sel_other j (suc n) 0 (b (suc n)) e))

-- ONE LINE

module _ (q : ℕ) where
  -- one side on the line of g: the tags are w, and the line's slope is that of the tag at j
  module _ (d : ℕ) (v w : ℕ → ℕ) (j : ℕ) (low : j ≤ d) (g : ℕ) where
    side : Lead d ((v j + g) * prod_n (suc d) (λ k. sel j k 1 (w k + q * w j)))
        (λ x. prod_n (suc d) (λ k. v k + g + sel j k 0 (w k + q * w j) * x))
    side = past (λ k. v k + g) (λ k. w k + q * w j) j d low

    slope : (k : ℕ) → Cong (suc q) (sel j k 0 (w k + q * w j)) (w k + q * w j)
    slope k = go (ℕ_discrete k j)
      where
        go : Dec (k ≡ j) → Cong (suc q) (sel j k 0 (w k + q * w j)) (w k + q * w j)
        go (yes e) = cong (sel_same j k 0 (w k + q * w j) e) ⨾ back (cong_neg (w j)) ⨾ cong (ap (λ (i : ℕ). w i + q * w j) (sym e))
        go (no e) = cong (sel_other j k 0 (w k + q * w j) e)

    factor : (β γ : ℕ) → Cong (suc q) (γ + β * w j) g → (k : ℕ)
        → Cong (suc q) (v k + β * w k + γ) (v k + g + sel j k 0 (w k + q * w j) * β)
    factor β γ e k =
        back
        (cong_add (cong_add {a = v k} (cong refl) (back e)) (cong_mul (slope k) (cong refl))
        ⨾ cong {b = v k + β * w k + γ + (β * w j + q * (β * w j))} (omega arith)
        ⨾ cong_add (cong refl) (cong_neg (β * w j)) ⨾ cong (omega arith))

    on_line : (β γ : ℕ) → Cong (suc q) (γ + β * w j) g → Cong (suc q) (prod_n (suc d) (λ k. v k + β * w k + γ)) (eval side.poly β)
    on_line β γ e = prod_n_cong (suc d) _ _ (λ k l. factor β γ e k) ⨾ cong (side.val β)

  -- ALL LINES

  module _ (P : Prime (suc q)) (d : ℕ) (v m σ : ℕ → ℕ) (perm : Perm (suc d) σ)
      (tags : (j k : ℕ) → j < suc d → k < suc d → Cong (suc q) (m j) (m k) → j ≡ k)
      (k0 : ℕ) (low : k0 < suc d) (differ : Cong (suc q) (v (σ k0)) (v k0) → ⊥) where
    abbrev Passes : (ℕ × ℕ) → Type 0
    Passes s = PairPasses (suc q) (suc d) v m σ s

    abbrev OnLine : ℕ → (ℕ × ℕ) → Type 0
    OnLine g s = Passes s × ((s.1 + s.0 * m (σ k0)) % suc q ≡ g)

    abbrev gap : ℕ → ℕ
    gap i = sel (σ k0) i 1 (m i + q * m (σ k0))

    gaps_nonzero : Cong (suc q) (prod_n (suc d) gap) 0 → ⊥
    gaps_nonzero = prod_n_nonzero (suc d) gap P (λ k l e. go k l e (ℕ_discrete k (σ k0)))
      where
        go : (k : ℕ) → k < suc d → Cong (suc q) (gap k) 0 → Dec (k ≡ σ k0) → ⊥
        go k l e (yes u) = one_nonzero P (cong (sym (sel_same (σ k0) k 1 (m k + q * m (σ k0)) u)) ⨾ e)
        go k l e (no u) =
            u (tags k (σ k0) l (perm.into k0 low) (cong_same (cong (sym (sel_other (σ k0) k 1 (m k + q * m (σ k0)) u)) ⨾ e)))

    same_gaps : prod_n (suc d) (λ k. sel k0 k 1 (m (σ k) + q * m (σ k0))) ≡ prod_n (suc d) gap
    same_gaps = prod_n_ext (suc d) _ _ (λ k l. go k l (ℕ_discrete k k0)) ∙ prod_n_perm (suc d) σ gap perm
      where
        go : (k : ℕ) → k < suc d → Dec (k ≡ k0) → sel k0 k 1 (m (σ k) + q * m (σ k0)) ≡ gap (σ k)
        go k l (yes e) = sel_same k0 k 1 _ e ∙ sym (sel_same (σ k0) (σ k) 1 _ (ap σ e))
        go k l (no e) = sel_other k0 k 1 _ e ∙ sym (sel_other (σ k0) (σ k) 1 _ (λ u. e (perm.inj k k0 l low u)))

    module _ (g : ℕ) where
      left : Lead d ((v (σ k0) + g) * prod_n (suc d) gap) (λ x. prod_n (suc d) (λ k. v k + g + sel (σ k0) k 0 (m k + q * m (σ k0)) * x))
      left = side d v m (σ k0) (omega (arith, perm.into k0 low)) g

      right : Lead d ((v k0 + g) * prod_n (suc d) (λ k. sel k0 k 1 (m (σ k) + q * m (σ k0))))
          (λ x. prod_n (suc d) (λ k. v k + g + sel k0 k 0 (m (σ k) + q * m (σ k0)) * x))
      right = side d v (λ k. m (σ k)) k0 (omega arith) g

      -- the highest coefficient of the difference is (v (σ k0) - v k0) × the product of the gaps
      highest_nonzero : Cong (suc q) (coef (sub_p q left.poly right.poly) d) 0 → ⊥
      highest_nonzero z = ⊎_elim gaps_nonzero (λ e. differ (cong_same e)) (euclid {a = Q} {b = v (σ k0) + q * v k0} P top)
        where
          Q : ℕ
          Q = prod_n (suc d) gap

          lead : coef (sub_p q left.poly right.poly) d ≡ (v (σ k0) + g) * Q + q * ((v k0 + g) * Q)
          lead = rw (coef-sub q left.poly right.poly d, left.top, right.top, same_gaps)

          top : Cong (suc q) (Q * (v (σ k0) + q * v k0)) 0
          top =
              back (cong_add {a = Q * (v (σ k0) + q * v k0)} (cong refl) (cong_neg (g * Q)) ⨾ cong (omega arith))
              ⨾ cong {b = coef (sub_p q left.poly right.poly) d} (omega (arith, lead)) ⨾ z

      line : AtMost d (OnLine g)
      unfolding left right
      line =
          at_most_image {Q = λ β. Root (suc q) (sub_p q left.poly right.poly) β × (β < suc q)} (λ s. s.0) to inj
          (roots q P d (sub_p q left.poly right.poly) d (omega (arith, length-sub q left.poly right.poly, left.short, right.short)) highest_nonzero)
        where
          to : (s : ℕ × ℕ) → OnLine g s → Root (suc q) (sub_p q left.poly right.poly) s.0 × (s.0 < suc q)
          to s h =
              let e : Cong (suc q) (s.1 + s.0 * m (σ k0)) g = back cong_mod ⨾ cong h.1 in (
                is_0
                    (cong (eval_sub q left.poly right.poly s.0)
                    ⨾ cong_diff
                    (back (on_line d v m (σ k0) (omega (arith, perm.into k0 low)) g s.0 s.1 e)
                    ⨾ h.0.2 ⨾ on_line d v (λ k. m (σ k)) k0 (omega arith) g s.0 s.1 e)),
                h.0.0,
              )

          inj : (s t : ℕ × ℕ) → OnLine g s → OnLine g t → s.0 ≡ t.0 → s ≡ t
          inj s t h k e =
              let f : s.1 ≡ t.1 =
              cong_lt h.0.1 k.0.1
              (cong_cancel {c = s.0 * m (σ k0)} {d = t.0 * m (σ k0)} (record { same = h.1 ∙ sym k.1 }) (cong (ap (λ (z : ℕ). z * m (σ k0)) e))) in
              λ i. (e i, f i)

    pub pair_bound : AtMost (suc q * d) (PairPasses (suc q) (suc d) v m σ)
    pair_bound =
        at_most_key (λ s. (s.1 + s.0 * m (σ k0)) % suc q) (suc q) d (λ s h. mod-lt (s.1 + s.0 * m (σ k0)) (zero-lt-suc q)) (λ g l. line g)
