-- The theorems that specs/FiveValues lists, with their proofs.
-- Assumes nothing.
use Rattle.std.specs.Prelude.{◌≡◌, refl, ◌≢◌, List, [], ◌∷◌, ℕ, zero, suc, ◌+◌, ◌*◌, ◌-◌, ◌%◌, ◌^◌, ◌<◌, length}
use Rattle.std.proofs.Common.{sym, ap, ◌∙◌, subst, mod-eq_of_lt, zero-lt-suc, arith, lit<, pow-add}
use Rattle.std.proofs.Math.Option.{some}
use Rattle.std.proofs.Math.Nat.{pow-zero, pow-succ'}
use Rattle.std.proofs.Math.Decide.{ℕ_discrete}
use Rattle.algebra.specs.Lists.{tab, Exactly}
use Rattle.algebra.specs.Polynomial.{coef, eval, Elements}
use Rattle.algebra.specs.Congruence.{Cong, cong, ◌⨾◌, back, cong_add, cong_mul, cong_mod, cong_lt, cong_same}
use Rattle.algebra.specs.Powers.{mul-pow, pow_one}
use Rattle.algebra.specs.Primes.{one_nonzero, cong_divide}
use Rattle.algebra.specs.Exact.{exactly_of, exactly_image, exactly_each}
use Rattle.algebra.specs.Tables.{tab-get_or, all_get_d}
use Rattle.algebra.specs.PolynomialLaws.{eval_cong, tab_elements, append_elements}
use Rattle.algebra.specs.Fitting.{OneValue, TwoValues, one_value, two_values, same_value, no_value}
use Rattle.field.specs.Fields.{Admissible, root}
use Rattle.field.specs.Domain.{Domain}
use Rattle.field.proofs.Domain.{domain}
use Rattle.transform.specs.Transform.{interpolation}
use Rattle.transform.specs.Interpolation.{rows_positive}
use Rattle.circuit.specs.Circuit.{Constraints, position}
use Rattle.circuit.specs.Buffers.{wire_length, wire_part, z_part}
use Rattle.protocol.specs.Protocol.{wire_blinder, z_blinder, blinded, z_rows, z_through, wires_of, z_of, t_of, transcript, zero_factor}
use Rattle.protocol.specs.Blinding.{interpolated_value, wires_elements, z_elements}
use Rattle.protocol.specs.Layout.{wire_part_lem, z_part_lem}
use Rattle.protocol.specs.GrandProduct.{grand_product, z-laid, proved-laid}
use Rattle.protocol.specs.FiveValues.{FiveAt, GivesFive, LaysFive, FiveValues, EquallyMany}

-- THE PROOF

-- FOUR POLYNOMIALS FOR NINE NUMBERS

-- what blinds the three wires, and z
abbrev Four : Type 0
Four = List ℕ × (List ℕ × (List ℕ × List ℕ))

abbrev blinders : List ℕ → Four
blinders b = (wire_blinder 1 b 0, (wire_blinder 1 b 1, (wire_blinder 1 b 2, z_blinder 1 b)))

-- back: the highest coefficient of each comes first
nine : Four → List ℕ
nine s =
    let f : List ℕ = s.0 in
    let g : List ℕ = s.1.0 in
    let h : List ℕ = s.1.1.0 in
    let z : List ℕ = s.1.1.1 in
    coef f 1 ∷ coef f 0 ∷ coef g 1 ∷ coef g 0 ∷ coef h 1 ∷ coef h 0 ∷ coef z 2 ∷ coef z 1 ∷ coef z 0 ∷ []

-- a list of m numbers is the table of them
as_table : (m : ℕ) (f : List ℕ) → length f ≡ m → tab (coef f) m ≡ f
as_table m f e = rw (← e) (tab-get_or f)

nine-blinders : (b : List ℕ) → length b ≡ 9 → nine (blinders b) ≡ b
unfolding nine tab
nine-blinders b e = as_table 9 b e

-- each has as many elements as it should
record FourElements (p : ℕ) (s : Four) : Type 0 where
  first : Elements p 2 s.0
  second : Elements p 2 s.1.0
  third : Elements p 2 s.1.1.0
  last : Elements p 3 s.1.1.1

blinders-nine : {p : ℕ} (s : Four) → FourElements p s → blinders (nine s) ≡ s
unfolding nine tab
blinders-nine s h =
    λ i. (
      as_table 2 s.0 h.first.long i,
      (as_table 2 s.1.0 h.second.long i, (as_table 2 s.1.1.0 h.third.long i, as_table 3 s.1.1.1 h.last.long i)),
    )

element : {p m : ℕ} {f : List ℕ} → Elements p m f → (k : ℕ) → k < m → coef f k < p
element {p} {m} {f} h k l = all_get_d (λ a. a < p) f h.below k (omega (arith, h.long))

nine_elements : {p : ℕ} (s : Four) → FourElements p s → Elements p 9 (nine s)
unfolding nine
nine_elements {p} s h = append_elements (two h.first) (append_elements (two h.second) (append_elements (two h.third) three))
  where
    two : {f : List ℕ} → Elements p 2 f → Elements p 2 (coef f 1 ∷ coef f 0 ∷ [])
    two e = record { long = refl; below = (element e 1 (lit< tt), (element e 0 (lit< tt), tt)) }

    three : Elements p 3 (coef s.1.1.1 2 ∷ coef s.1.1.1 1 ∷ coef s.1.1.1 0 ∷ [])
    three = record { long = refl; below = (element h.last 2 (lit< tt), (element h.last 1 (lit< tt), (element h.last 0 (lit< tt), tt))) }

wire_blinder_elements : {p : ℕ} (b : List ℕ) → Elements p 9 b → (c : ℕ) → c < 3 → Elements p 2 (wire_blinder 1 b c)
wire_blinder_elements b h c l = tab_elements _ 2 (λ k u. element h (2 * c + 1 - k) (omega arith))

z_blinder_elements : {p : ℕ} (b : List ℕ) → Elements p 9 b → Elements p 3 (z_blinder 1 b)
z_blinder_elements b h = tab_elements _ 3 (λ k u. element h (8 - k) (omega arith))

-- ONE WITNESS

module _ (q n : ℕ) (D : Domain (suc q) n) (C : Constraints) (v : ℕ → ℕ) (beta gamma : ℕ) (rows : List ℕ) (is : z_rows (suc q) n C v beta gamma ≡ some rows)
    (zeta : ℕ) (off : Cong (suc q) (zeta ^ n) 1 → ⊥) (five : List ℕ) (E : Elements (suc q) 5 five) where
  abbrev p : ℕ
  p = suc q

  abbrev w : ℕ
  w = root (suc q) n

  -- X^n - 1 at zeta
  abbrev Z : ℕ
  Z = zeta ^ n + q

  Z_nonzero : Cong (suc q) Z 0 → ⊥
  Z_nonzero h = off (cong_same {b = 1} (cong (omega arith) ⨾ h))

  -- it is the same at w × zeta
  next_power : Cong (suc q) ((w * zeta) ^ n) (zeta ^ n)
  next_power = cong (mul-pow w zeta n) ⨾ cong_mul D.unity.whole (cong refl) ⨾ cong (omega arith)

  -- the wires and z with no blinders
  abbrev wire : ℕ → List ℕ
  wire c = interpolation (suc q) n (λ i. v (position n c i))

  abbrev z : List ℕ
  z = interpolation (suc q) n (coef rows)

  -- a blinded polynomial, at zeta and at w × zeta
  value : (r : List ℕ) (u : ℕ → ℕ) (x : ℕ) → Cong (suc q) (x ^ n) (zeta ^ n)
      → Cong (suc q) (eval (blinded (suc q) n r (interpolation (suc q) n u)) x) (eval r x * Z + eval (interpolation (suc q) n u) x)
  value r u x e =
      interpolated_value q n r u x ⨾ cong_add {a = eval (interpolation p n u) x} (cong refl) (cong_mul (cong_add e (cong refl)) (cong {b = eval r x} refl))
      ⨾ cong (omega arith)

  wire_value : (b : List ℕ) (c : ℕ) → Cong (suc q) (eval (wires_of 1 (suc q) n v b c) zeta) (eval (wire_blinder 1 b c) zeta * Z + eval (wire c) zeta)
  wire_value b c = value (wire_blinder 1 b c) (λ i. v (position n c i)) zeta (cong refl)

  z_value : (b : List ℕ) (x : ℕ) → Cong (suc q) (x ^ n) (zeta ^ n) → Cong (suc q) (eval (blinded (suc q) n (z_blinder 1 b) z) x) (eval (z_blinder 1 b) x * Z + eval z x)
  z_value b x e = value (z_blinder 1 b) (coef rows) x e

  z_made : (b : List ℕ) → z_of 1 (suc q) n C v b beta gamma ≡ some (blinded (suc q) n (z_blinder 1 b) z)
  z_made b = z-laid 1 p n C v b beta gamma rows is

  -- what is asked of each of the four
  abbrev Wire : ℕ → List ℕ → Type 0
  Wire c = OneValue (suc q) 2 Z zeta (eval (wire c) zeta) (coef five c)

  abbrev Last : List ℕ → Type 0
  Last = TwoValues (suc q) 3 Z zeta (eval z zeta) (coef five 3) (w * zeta) (eval z (w * zeta)) (coef five 4)

  abbrev Fit : Four → Type 0
  Fit s = Wire 0 s.0 × (Wire 1 s.1.0 × (Wire 2 s.1.1.0 × Last s.1.1.1))

  abbrev Gives : List ℕ → Type 0
  Gives = GivesFive (suc q) n C v beta gamma zeta five

  fit_elements : (s : Four) → Fit s → FourElements (suc q) s
  fit_elements s h = record { first = h.0.elements; second = h.1.0.elements; third = h.1.1.0.elements; last = h.1.1.1.elements }

  -- a value modulo p, there and back
  to_cong : {a b : ℕ} → a % suc q ≡ b → Cong (suc q) a b
  to_cong e = back cong_mod ⨾ cong e

  of_cong : {a : ℕ} (k : ℕ) → k < 5 → Cong (suc q) a (coef five k) → a % suc q ≡ coef five k
  of_cong k l e = e.same ∙ mod-eq_of_lt (element E k l)

  gives_fit : (b : List ℕ) → Gives b → Fit (blinders b)
  gives_fit b h = (at 0 (lit< tt), (at 1 (lit< tt), (at 2 (lit< tt), last)))
    where
      at : (c : ℕ) → c < 3 → Wire c (wire_blinder 1 b c)
      at c l = record { elements = wire_blinder_elements b h.blinders c l; fits = back (wire_value b c) ⨾ to_cong (h.values.wires c l) }

      same : blinded p n (z_blinder 1 b) z ≡ h.z
      same = cc (z_made b, h.z_is)

      last : Last (z_blinder 1 b)
      last =
          record {
            elements = z_blinder_elements b h.blinders;
            fits = back (z_value b zeta (cong refl)) ⨾ cong (ap (λ (r : List ℕ). eval r zeta) same) ⨾ to_cong h.values.z_here;
            fits_too = back (z_value b (w * zeta) next_power) ⨾ cong (ap (λ (r : List ℕ). eval r (w * zeta)) same) ⨾ to_cong h.values.z_next;
          }

  fit_gives : (b : List ℕ) → Elements (suc q) 9 b → Fit (blinders b) → Gives b
  fit_gives b e h =
      record {
        blinders = e;
        z = blinded p n (z_blinder 1 b) z;
        z_is = z_made b;
        values =
            record {
              wires = at;
              z_here = of_cong 3 (lit< tt) (z_value b zeta (cong refl) ⨾ h.1.1.1.fits);
              z_next = of_cong 4 (lit< tt) (z_value b (w * zeta) next_power ⨾ h.1.1.1.fits_too);
            };
      }
    where
      at : (c : ℕ) → c < 3 → eval (wires_of 1 p n v b c) zeta % p ≡ coef five c
      at zero l = of_cong 0 (lit< tt) (wire_value b 0 ⨾ h.0.fits)
      at (suc zero) l = of_cong 1 (lit< tt) (wire_value b 1 ⨾ h.1.0.fits)
      at (suc (suc zero)) l = of_cong 2 (lit< tt) (wire_value b 2 ⨾ h.1.1.0.fits)
      at (suc (suc (suc c))) l = absurd (omega arith)

  four_exactly : {K : ℕ} → Exactly K Last → Exactly (suc q ^ 1 * (suc q ^ 1 * (suc q ^ 1 * K))) Fit
  four_exactly last = exactly_each (each 0) (λ f h. exactly_each (each 1) (λ g k. exactly_each (each 2) (λ r l. last)))
    where
      each : (c : ℕ) → Exactly (p ^ 1) (Wire c)
      each c = one_value q D.prime Z Z_nonzero zeta (eval (wire c) zeta) (coef five c) 1

  choices_exactly : {K : ℕ} → Exactly K Last → Exactly (suc q ^ 1 * (suc q ^ 1 * (suc q ^ 1 * K))) Gives
  choices_exactly last = exactly_image nine to apart onto (four_exactly last)
    where
      there : (s : Four) → Fit s → blinders (nine s) ≡ s
      there s h = blinders-nine s (fit_elements s h)

      to : (s : Four) → Fit s → Gives (nine s)
      to s h = fit_gives (nine s) (nine_elements s (fit_elements s h)) (subst Fit (sym (there s h)) h)

      apart : (s t : Four) → Fit s → Fit t → nine s ≡ nine t → s ≡ t
      apart s t h k e = sym (there s h) ∙ ap blinders e ∙ there t k

      onto : (b : List ℕ) → Gives b → (s : Four) × Fit s × (nine s ≡ b)
      onto b h = (blinders b, gives_fit b h, nine-blinders b h.blinders.long)

  -- zeta and w × zeta differ where zeta is not 0
  points_differ : (Cong (suc q) zeta 0 → ⊥) → Cong (suc q) zeta (w * zeta) → ⊥
  points_differ nonzero h = omega (arith, D.unity.apart 0 1 (omega (arith, rows_positive q n D)) (omega (arith, rows_positive q n D)) powers)
    where
      powers : Cong p (w ^ 0) (w ^ 1)
      powers = cong (pow-zero w) ⨾ cong_divide zeta D.prime nonzero (cong (omega arith) ⨾ h ⨾ cong (omega arith)) ⨾ cong (sym (pow_one w))

  exactly_off : (Cong (suc q) zeta 0 → ⊥) → Exactly (suc q ^ 4) Gives
  exactly_off nonzero =
      rw (pow-add p 1 3, pow-add p 1 2, pow-add p 1 1)
      (choices_exactly
      (two_values q D.prime Z Z_nonzero zeta (eval z zeta) (coef five 3) (w * zeta) (eval z (w * zeta)) (coef five 4) (points_differ nonzero) 1))

  module _ (at : zeta ≡ 0) where
    same_point : Cong (suc q) zeta (w * zeta)
    same_point = cong (at ∙ sym (ap (λ (x : ℕ). w * x) at ∙ omega arith))

    same_z : Cong (suc q) (eval z zeta) (eval z (w * zeta))
    same_z = eval_cong z z zeta (w * zeta) (λ k. refl) same_point

    exactly_agree : coef five 3 ≡ coef five 4 → Exactly (suc q ^ 5) Gives
    exactly_agree e =
        rw (pow-add p 1 4, pow-add p 1 3, pow-add p 1 2)
        (choices_exactly
        (same_value q D.prime Z Z_nonzero zeta (eval z zeta) (coef five 3) (w * zeta) (eval z (w * zeta)) (coef five 4) same_point same_z (cong e) 2))

    exactly_never : coef five 3 ≢ coef five 4 → Exactly 0 Gives
    exactly_never ne =
        subst (λ (K : ℕ). Exactly K Gives) (omega arith)
        (choices_exactly
        (no_value q D.prime Z Z_nonzero zeta (eval z zeta) (coef five 3) (w * zeta) (eval z (w * zeta)) (coef five 4) same_point same_z
        (λ e. ne (cong_lt (element E 3 (lit< tt)) (element E 4 (lit< tt)) e)) 3))

-- 0 is no row's point
zero_off : (q n : ℕ) → Domain (suc q) n → Cong (suc q) (0 ^ n) 1 → ⊥
zero_off q n D h = one_nonzero D.prime (back h ⨾ cong (zero-power n (omega (arith, rows_positive q n D))))
  where
    zero-power : (m : ℕ) → 0 < m → 0 ^ m ≡ 0
    zero-power zero l = absurd (omega arith)
    zero-power (suc m) l = pow-succ' 0 m ∙ omega arith

of_domain : (q n : ℕ) → Domain (suc q) n → (C : Constraints) (v : ℕ → ℕ) (beta gamma : ℕ) → zero_factor (suc q) n C v beta gamma ≡ n
    → FiveValues (suc q) n (GivesFive (suc q) n C v beta gamma)
of_domain q n D C v beta gamma e =
    let G = grand_product D C v beta gamma e in
    record {
      off_zero = λ zeta l ne off five E.
          exactly_off q n D C v beta gamma G.0 G.1.is zeta (λ h. off (h.same ∙ mod-eq_of_lt D.prime.two)) five E (λ h. ne (cong_lt l (zero-lt-suc q) h));
      at_zero = λ five E same. exactly_agree q n D C v beta gamma G.0 G.1.is 0 (zero_off q n D) five E refl same;
      never = λ five E ne. exactly_never q n D C v beta gamma G.0 G.1.is 0 (zero_off q n D) five E refl ne;
    }

-- WHAT THE PROVER LAYS

-- it has the wires and z as its parts
module _ {p n : ℕ} (D : Domain p n) (C : Constraints) (x v : ℕ → ℕ) (beta gamma alpha : ℕ) (rows : List ℕ) (is : z_rows p n C v beta gamma ≡ some rows) where
  -- FiveAt sees the three wires and z only
  five_ext : {wire wire' : ℕ → List ℕ} {z z' : List ℕ} {zeta : ℕ} {five : List ℕ} → ((c : ℕ) → c < 3 → wire c ≡ wire' c) → z ≡ z' → FiveAt p n wire z zeta five
      → FiveAt p n wire' z' zeta five
  five_ext {zeta = zeta} h e F =
      record {
        wires = λ c l. ap (λ (f : List ℕ). eval f zeta % p) (sym (h c l)) ∙ F.wires c l;
        z_here = ap (λ (f : List ℕ). eval f zeta % p) (sym e) ∙ F.z_here;
        z_next = ap (λ (f : List ℕ). eval f (root p n * zeta) % p) (sym e) ∙ F.z_next;
      }

  module _ (zeta : ℕ) (five b : List ℕ) where
    abbrev zs : List ℕ
    zs = z_through 1 p n b rows

    abbrev T : List ℕ
    T = transcript (wires_of 1 p n v b) zs (t_of 1 p n C x v b zs beta gamma alpha)

    wires_long : (c : ℕ) → c < 3 → length (wires_of 1 p n v b c) ≡ wire_length 1 n
    wires_long c l = (wires_elements D 1 b v c).long

    wire_at : (c : ℕ) → c < 3 → wire_part 1 n c T ≡ wires_of 1 p n v b c
    wire_at = wire_part_lem 1 n (wires_of 1 p n v b) zs (t_of 1 p n C x v b zs beta gamma alpha) wires_long

    z_at_lem : z_part 1 n T ≡ zs
    z_at_lem = z_part_lem 1 n (wires_of 1 p n v b) zs (t_of 1 p n C x v b zs beta gamma alpha) wires_long (z_elements D 1 b (coef rows)).long

    gives_lays : GivesFive p n C v beta gamma zeta five b → LaysFive p n C x v beta gamma alpha zeta five b
    gives_lays h =
        record {
          blinders = h.blinders;
          laid = T;
          laid_is = proved-laid 1 p n C v b beta gamma rows is x alpha;
          values = five_ext (λ c l. sym (wire_at c l)) (cc (z-laid 1 p n C v b beta gamma rows is, h.z_is, z_at_lem)) h.values;
        }

    lays_gives : LaysFive p n C x v beta gamma alpha zeta five b → GivesFive p n C v beta gamma zeta five b
    lays_gives h =
        let same : T ≡ h.laid = cc (proved-laid 1 p n C v b beta gamma rows is x alpha, h.laid_is) in
        record {
          blinders = h.blinders;
          z = zs;
          z_is = z-laid 1 p n C v b beta gamma rows is;
          values =
              five_ext (λ c l. ap (wire_part 1 n c) (sym same) ∙ wire_at c l) (ap (z_part 1 n) (sym same) ∙ z_at_lem) h.values;
        }

-- THE THEOREM

pub five_values : (p n : ℕ) → Admissible p n → (C : Constraints) (v : ℕ → ℕ) (beta gamma : ℕ) → zero_factor p n C v beta gamma ≡ n
    → FiveValues p n (GivesFive p n C v beta gamma)
five_values zero n A = absurd (omega (arith, (domain zero n A).prime.two))
five_values (suc q) n A = of_domain q n (domain (suc q) n A)

pub five_of_lem : {p n : ℕ} {G H : (zeta : ℕ) (five b : List ℕ) → Type 0} → FiveValues p n G → ((zeta : ℕ) (five b : List ℕ) → G zeta five b → H zeta five b)
    → ((zeta : ℕ) (five b : List ℕ) → H zeta five b → G zeta five b) → FiveValues p n H
five_of_lem F to from =
    record {
      off_zero = λ zeta l ne off five E. exactly_of (F.off_zero zeta l ne off five E) (to zeta five) (from zeta five);
      at_zero = λ five E same. exactly_of (F.at_zero five E same) (to 0 five) (from 0 five);
      never = λ five E ne. exactly_of (F.never five E ne) (to 0 five) (from 0 five);
    }

pub five-laid : (p n : ℕ) → Admissible p n → (C : Constraints) (x v : ℕ → ℕ) (beta gamma : ℕ) → zero_factor p n C v beta gamma ≡ n → (alpha : ℕ)
    → FiveValues p n (LaysFive p n C x v beta gamma alpha)
five-laid p n A C x v beta gamma e alpha =
    let D = domain p n A in
    let G = grand_product D C v beta gamma e in
    five_of_lem (five_values p n A C v beta gamma e) (gives_lays D C x v beta gamma alpha G.0 G.1.is) (lays_gives D C x v beta gamma alpha G.0 G.1.is)

pub equally_many : {p n : ℕ} {G H : (zeta : ℕ) (five b : List ℕ) → Type 0} → FiveValues p n G → FiveValues p n H
    → (zeta : ℕ) → zeta < p → zeta ^ n % p ≢ 1 → (five : List ℕ) → Elements p 5 five → EquallyMany (G zeta five) (H zeta five)
equally_many {p} {G = G} {H} g h zeta l off five E = go (ℕ_discrete zeta 0) (ℕ_discrete (coef five 3) (coef five 4))
  where
    go : Dec (zeta ≡ 0) → Dec (coef five 3 ≡ coef five 4) → EquallyMany (G zeta five) (H zeta five)
    go (no ne) d = record { many = p ^ 4; one = g.off_zero zeta l ne off five E; other = h.off_zero zeta l ne off five E }
    go (yes e) (yes same) = rw e (record { many = p ^ 5; one = g.at_zero five E same; other = h.at_zero five E same })
    go (yes e) (no ne) = rw e (record { many = 0; one = g.never five E ne; other = h.never five E ne })

pub equally_given : (p n : ℕ) → Admissible p n → (C : Constraints) (v v' : ℕ → ℕ) (beta gamma : ℕ) → zero_factor p n C v beta gamma ≡ n → zero_factor p n C v' beta gamma ≡ n
    → (zeta : ℕ) → zeta < p → zeta ^ n % p ≢ 1 → (five : List ℕ) → Elements p 5 five
    → EquallyMany (GivesFive p n C v beta gamma zeta five) (GivesFive p n C v' beta gamma zeta five)
equally_given p n A C v v' beta gamma e f = equally_many (five_values p n A C v beta gamma e) (five_values p n A C v' beta gamma f)
