-- How many polynomials of so many elements have a given value at a point, or given values at two points. The value is scaled and shifted: a polynomial r fits
-- where r(x) × Z + u is v modulo p, for a Z that is not 0. (What is added to a polynomial f as r × (X^n - 1) fits so, with Z = x^n - 1 and u = f(x).)
--
-- Fits p Z x u v r     r(x) × Z + u is v, modulo p
-- OneValue, TwoValues  r has m elements and fits one value; two values
-- exactly_cons         lists with a first and a rest, with equally many of the first for each rest: the product of the counts
-- exactly_elements     p^m lists have m elements
-- exactly_linear       one element b has b × Z + u = v
-- one_value            p^m polynomials of m + 1 elements fit a value at a point: the lowest coefficient follows from the others
-- two_values           p^m of m + 2 elements fit values at two different points: the two lowest follow
-- same_value           p^m of m + 1 elements fit two values that agree at points that agree
-- no_value             none fits two values that differ there
--
-- Assumes that p is prime, as a parameter. Nothing here computes with p.
use Rattle.std.specs.Prelude.{◌≡◌, refl, List, [], ◌∷◌, ℕ, zero, suc, ◌+◌, ◌*◌, ◌%◌, ◌^◌, ◌<◌, get_or, drop}
use Rattle.std.proofs.Common.{sym, ap, ⊎_elim, mod-lt, zero-lt-suc, pow-suc, mul-one, arith}
use Rattle.std.proofs.Math.Nat.{pow-zero}
use Rattle.algebra.specs.Modular.{Prime}
use Rattle.algebra.specs.Lists.{Exactly}
use Rattle.algebra.specs.Polynomial.{eval, Elements}
use Rattle.algebra.specs.Congruence.{Cong, cong, ◌⨾◌, back, cong_add, cong_mul, cong_on, cong_mod, cong_lt, cong_cancel, cong_same, cong_neg}
use Rattle.algebra.specs.Primes.{HasInverse, euclid, cong_divide, has_inverse}
use Rattle.algebra.specs.PolynomialLaws.{eval_cong}
use Rattle.algebra.specs.Exact.{exactly_of, exactly_image, exactly_none, exactly_one, exactly_below, exactly_each}

-- WHAT IS COUNTED

abbrev pub Fits : (p Z x u v : ℕ) → List ℕ → Type 0
Fits p Z x u v r = Cong p (eval r x * Z + u) v

pub record OneValue (p m Z x u v : ℕ) (r : List ℕ) : Type 0 where
  pub elements : Elements p m r
  pub fits : Fits p Z x u v r

pub record TwoValues (p m Z x u v y s t : ℕ) (r : List ℕ) : Type 0 where
  pub elements : Elements p m r
  pub fits : Fits p Z x u v r
  pub fits_too : Fits p Z y s t r

-- LISTS

pub exactly_cons : {K L : ℕ} {F : List ℕ → Type 0} {G : List ℕ → ℕ → Type 0} {R : List ℕ → Type 0} → Exactly K F → ((f : List ℕ) → F f → Exactly L (G f))
    → (R [] → ⊥) → ((a : ℕ) (f : List ℕ) → F f → G f a → R (a ∷ f)) → ((a : ℕ) (f : List ℕ) → R (a ∷ f) → F f × G f a) → Exactly (K * L) R
exactly_cons {F = F} {G} {R} e each none to from =
    exactly_image (λ (s : List ℕ × ℕ). s.1 ∷ s.0) (λ s h. to s.1 s.0 h.0 h.1) apart onto (exactly_each e each)
  where
    apart : (s t : List ℕ × ℕ) → F s.0 × G s.0 s.1 → F t.0 × G t.0 t.1 → ◌≡◌ {A = List ℕ} (s.1 ∷ s.0) (t.1 ∷ t.0) → s ≡ t
    apart s t h k e = λ i. (drop 1 (e i), get_or (e i) 0 0)

    onto : (l : List ℕ) → R l → (s : List ℕ × ℕ) × (F s.0 × G s.0 s.1) × (◌≡◌ {A = List ℕ} (s.1 ∷ s.0) l)
    onto [] h = absurd (none h)
    onto (a ∷ f) h = ((f, a), from a f h, refl)

no_elements : {p m : ℕ} → Elements p (suc m) [] → ⊥
no_elements h = omega (arith, h.long)

more_elements : {p m a : ℕ} {f : List ℕ} → Elements p m f → a < p → Elements p (suc m) (a ∷ f)
more_elements h l = record { long = ap suc h.long; below = (l, h.below) }

first_element : {p m a : ℕ} {f : List ℕ} → Elements p (suc m) (a ∷ f) → a < p
first_element h = h.below.0

other_elements : {p m a : ℕ} {f : List ℕ} → Elements p (suc m) (a ∷ f) → Elements p m f
other_elements h = record { long = omega (arith, h.long); below = h.below.1 }

pub exactly_elements : (p m : ℕ) → Exactly (p ^ m) (Elements p m)
exactly_elements p zero = rw (pow-zero p) (exactly_one [] (record { long = refl; below = tt }) empty)
  where
    empty : (f : List ℕ) → Elements p 0 f → f ≡ []
    empty [] h = refl
    empty (a ∷ f) h = absurd (omega (arith, h.long))
exactly_elements p (suc m) =
    rw (pow-suc p m)
    (exactly_cons (exactly_elements p m) (λ f h. exactly_below p) no_elements (λ a f h l. more_elements h l) (λ a f h. (other_elements h, first_element h)))

-- VALUES

module _ (q : ℕ) (P : Prime (suc q)) where
  abbrev p : ℕ
  p = suc q

  pub exactly_linear : (Z : ℕ) → (Cong (suc q) Z 0 → ⊥) → (u v : ℕ) → Exactly 1 (λ b. (b < suc q) × Cong (suc q) (b * Z + u) v)
  exactly_linear Z nonzero u v = exactly_one b (small, is) (λ c h. cong_lt h.0 small (only c h.1))
    where
      H : HasInverse p Z
      H = has_inverse Z P nonzero

      b : ℕ
      b = (v + q * u) * H.value % p

      small : b < p
      small = mod-lt ((v + q * u) * H.value) (zero-lt-suc q)

      is : Cong p (b * Z + u) v
      is =
          cong_add (cong_mul cong_mod (cong refl) ⨾ cong {b = (v + q * u) * (Z * H.value)} (omega arith) ⨾ cong_on (v + q * u) H.law) (cong refl)
          ⨾ cong {b = v + (u + q * u)} (omega arith) ⨾ cong_add (cong refl) (cong_neg u) ⨾ cong (omega arith)

      only : (c : ℕ) → Cong p (c * Z + u) v → Cong p c b
      only c h =
          cong_divide Z P nonzero
          (cong {b = c * Z} (omega arith) ⨾ cong_cancel {c = u} {d = u} (h ⨾ back is) (cong refl) ⨾ cong (omega arith))

  -- r = a + X × f: whatever f is, a follows from r(x)
  module _ (Z : ℕ) (nonzero : Cong (suc q) Z 0 → ⊥) (x u v : ℕ) where
    abbrev Lowest : List ℕ → ℕ → Type 0
    Lowest f a = (a < p) × Cong p (a * Z + (x * eval f x * Z + u)) v

    lowest_one : (f : List ℕ) → Exactly 1 (Lowest f)
    lowest_one f = exactly_linear Z nonzero (x * eval f x * Z + u) v

    lowest_fits : (a : ℕ) (f : List ℕ) → Lowest f a → Fits (suc q) Z x u v (a ∷ f)
    lowest_fits a f h = cong (omega arith) ⨾ h.1

    fits_lowest : {m : ℕ} (a : ℕ) (f : List ℕ) → Elements (suc q) (suc m) (a ∷ f) → Fits (suc q) Z x u v (a ∷ f) → Lowest f a
    fits_lowest a f e h = (first_element e, cong (omega arith) ⨾ h)

    pub one_value : (m : ℕ) → Exactly (suc q ^ m) (OneValue (suc q) (suc m) Z x u v)
    one_value m =
        rw (← (mul-one (p ^ m)))
        (exactly_cons (exactly_elements p m) (λ f h. lowest_one f) (λ h. no_elements h.elements)
        (λ a f h k. record { elements = more_elements h k.0; fits = lowest_fits a f k })
        (λ a f h. (other_elements h.elements, fits_lowest a f h.elements h.fits)))

    -- two points that agree, and what is added there
    module _ (y s t : ℕ) (points : Cong (suc q) x y) (added : Cong (suc q) u s) where
      value_agrees : (r : List ℕ) → Cong (suc q) (eval r x * Z + u) (eval r y * Z + s)
      value_agrees r = cong_add (cong_mul (eval_cong r r x y (λ k. refl) points) (cong refl)) added

      pub same_value : Cong (suc q) v t → (m : ℕ) → Exactly (suc q ^ m) (TwoValues (suc q) (suc m) Z x u v y s t)
      same_value agree m =
          exactly_of (one_value m)
          (λ r h. record { elements = h.elements; fits = h.fits; fits_too = back (value_agrees r) ⨾ h.fits ⨾ agree })
          (λ r h. record { elements = h.elements; fits = h.fits })

      pub no_value : (Cong (suc q) v t → ⊥) → (m : ℕ) → Exactly 0 (TwoValues (suc q) m Z x u v y s t)
      no_value differ m = exactly_none (λ r h. differ (back h.fits ⨾ value_agrees r ⨾ h.fits_too))

    -- r = a + X × f with f = b + X × g: whatever g is, b follows from r(y) - r(x), which is y × f(y) - x × f(x)
    module _ (y s t : ℕ) (differ : Cong (suc q) x y → ⊥) where
      abbrev Difference : List ℕ → Type 0
      Difference f = Cong p ((y * eval f y + q * (x * eval f x)) * Z + (s + q * u)) (t + q * v)

      difference : (a : ℕ) (f : List ℕ)
          → Cong (suc q) (eval (a ∷ f) y * Z + s + q * (eval (a ∷ f) x * Z + u)) ((y * eval f y + q * (x * eval f x)) * Z + (s + q * u))
      difference a f =
          cong {b = (y * eval f y + q * (x * eval f x)) * Z + (s + q * u) + (a * Z + q * (a * Z))} (omega arith)
          ⨾ cong_add (cong refl) (cong_neg (a * Z)) ⨾ cong (omega arith)

      record Second (m : ℕ) (f : List ℕ) : Type 0 where
        elements : Elements (suc q) m f
        fits : Difference f

      abbrev gap : ℕ
      gap = (y + q * x) * Z

      gap_nonzero : Cong (suc q) gap 0 → ⊥
      gap_nonzero h = ⊎_elim (λ e. differ (back (cong_same e))) nonzero (euclid {a = y + q * x} {b = Z} P h)

      abbrev rest : List ℕ → ℕ
      rest g = (y * (y * eval g y) + q * (x * (x * eval g x))) * Z + (s + q * u)

      second : (b : ℕ) (g : List ℕ) → (y * (b + y * eval g y) + q * (x * (b + x * eval g x))) * Z + (s + q * u) ≡ b * gap + rest g
      second b g = omega arith

      seconds : (m : ℕ) → Exactly (suc q ^ m) (Second (suc m))
      seconds m =
          rw (← (mul-one (p ^ m)))
          (exactly_cons (exactly_elements p m) (λ g h. exactly_linear gap gap_nonzero (rest g) (t + q * v)) (λ h. no_elements h.elements)
          (λ b g h k. record { elements = more_elements h k.0; fits = cong (second b g) ⨾ k.1 })
          (λ b g h. (other_elements h.elements, (first_element h.elements, cong (sym (second b g)) ⨾ h.fits))))

      pub two_values : (m : ℕ) → Exactly (suc q ^ m) (TwoValues (suc q) (suc (suc m)) Z x u v y s t)
      two_values m =
          rw (← (mul-one (p ^ m)))
          (exactly_cons (seconds m) (λ f h. lowest_one f) (λ h. no_elements h.elements) to from)
        where
          to : (a : ℕ) (f : List ℕ) → Second (suc m) f → Lowest f a → TwoValues (suc q) (suc (suc m)) Z x u v y s t (a ∷ f)
          to a f h k =
              let here : Fits p Z x u v (a ∷ f) = lowest_fits a f k in
              record {
                elements = more_elements h.elements k.0;
                fits = here;
                fits_too = cong_cancel (difference a f ⨾ h.fits) (cong_on q here);
              }

          from : (a : ℕ) (f : List ℕ) → TwoValues (suc q) (suc (suc m)) Z x u v y s t (a ∷ f) → Second (suc m) f × Lowest f a
          from a f h = (
            record { elements = other_elements h.elements; fits = back (difference a f) ⨾ cong_add h.fits_too (cong_on q h.fits) },
            fits_lowest a f h.elements h.fits,
          )
