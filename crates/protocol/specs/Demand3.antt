-- Demand 3, the soundness and the completeness of the protocol, for every admissible p and n and every circuit. Each challenge runs over 0 to p - 1.
--
-- THE STATEMENT
-- witness_of p n wire                the wire values that are the values of three wires at the domain points (document 01: the contents)
-- PassingPair e p n C x wire s       the pair s = (beta, gamma) is one for which some z passes the row check
-- HoldingAlpha e p n C x wire z s a  the alpha a is one for which some quotient t holds as polynomials
-- AcceptedZeta e p n C x wire z t s a zeta   the zeta is one at which the point check accepts
-- Sound e p n C x wire               how few pairs, alphas and zetas there are for a witness that does not satisfy the circuit
-- Complete e p n C x v b beta gamma  what holds for a witness that satisfies it, where no factor of any D(i) is zero
-- ZeroPair p n C v s                 the pair s is one with a zero factor of some D(i) (document 01: reason 11)
-- Demand3 e p n l C                  all of it, how many pairs have a zero factor, what the public inputs bind, and the lengths of the prepared circuit and of the transcript
-- THE THEOREM
-- demand_3                           Demand3 holds for every e, every admissible p and n and every circuit of n rows with l public inputs
-- few_zero_pairs                     so at most 3n × p pairs have a zero factor, for a witness that satisfies the circuit
--
-- The number e is 1 where the transcript is blinded, and 0 where it is not: wires have n + 2e coefficients, z n + 3e and t 3n - 3 + 9e.
-- A cheat lays three wires, is drawn a pair, chooses z, is drawn an alpha, chooses t, is drawn a zeta. `AtMost K P` says that at most K things satisfy P,
-- `Exactly K P` that K do; `f_of` is F of the circuit, the public inputs, the wires and z. The counts themselves need less than a circuit: `sound` and `complete` in proofs/Demand3 hold of any constraints.
-- The theorems stand in proofs/Demand3.
-- Assumes nothing.
use Rattle.std.specs.Prelude.{◌≡◌, List, ℕ, ◌+◌, ◌*◌, ◌-◌, ◌/◌, ◌%◌, ◌<◌}
use Rattle.std.proofs.Math.Option.{some}
use Rattle.algebra.specs.Lists.{AtMost, Exactly}
use Rattle.algebra.specs.Polynomial.{coef, times_vanishing, Elements, SameP}
use Rattle.transform.specs.Transform.{value_at}
use Rattle.circuit.specs.Circuit.{Constraints, position, Satisfies}
use Rattle.circuit.specs.Buffers.{prepared_length, wire_length, z_length, quotient_length, transcript_length}
use Rattle.protocol.specs.Protocol.{f_of, prepared, wires_of, z_of, t_of, transcript, proved, pass, row_verdict, accept, point_verdict, zero_factor, lost_gammas, lost_pairs}
use Rattle.protocol.specs.GrandProduct.{GrandProduct}

-- THE STATEMENT

-- document 01: the contents are the values of the three wire polynomials at the row points
abbrev pub witness_of : ℕ → ℕ → (ℕ → List ℕ) → ℕ → ℕ
witness_of p n wire k = value_at p n (wire (k / n)) (k % n)

-- a cheat's three wires
module _ (e p n : ℕ) (C : Constraints) (x : ℕ → ℕ) (wire : ℕ → List ℕ) where
  -- the row check, lent the wires' witness and the values of z at the domain points, answers pass
  pub record PassingPair (pair : ℕ × ℕ) : Type 0 where
    pub beta_element : pair.0 < p
    pub gamma_element : pair.1 < p
    pub z : List ℕ
    pub z_elements : Elements p (z_length e n) z
    pub z_passes : row_verdict p n C x (witness_of p n wire) (value_at p n z) pair.0 pair.1 ≡ pass

  -- F = t × (X^n - 1) in every coefficient, for a t of as many elements as it has
  pub record HoldingAlpha (z : List ℕ) (pair : ℕ × ℕ) (alpha : ℕ) : Type 0 where
    pub alpha_element : alpha < p
    pub t : List ℕ
    pub t_elements : Elements p (quotient_length e n) t
    pub t_holds : SameP p (f_of p n C x wire z pair.0 pair.1 alpha) (times_vanishing p n t)

  -- the point check, lent the prepared circuit and the transcript of these wires, z and t, accepts
  pub record AcceptedZeta (z t : List ℕ) (pair : ℕ × ℕ) (alpha zeta : ℕ) : Type 0 where
    pub zeta_element : zeta < p
    pub accepted : point_verdict e p n (prepared p n C) x (transcript wire z t) pair.0 pair.1 alpha zeta ≡ accept

  pub record Sound : Type 0 where
    -- the witness breaks a gate or gives one variable two values: at most (3n - 1) × p pairs let some z pass
    pub pairs : (Satisfies p n C x (witness_of p n wire) → ⊥) → AtMost ((3 * n - 1) * p) PassingPair
    -- any of the other pairs, and any z: at most 2 alphas let some quotient hold
    pub alphas : (pair : ℕ × ℕ) → pair.0 < p → pair.1 < p → (PassingPair pair → ⊥) → (z : List ℕ) → Elements p (z_length e n) z → AtMost 2 (HoldingAlpha z pair)
    -- any of the other alphas, and any t: at most 4n - 4 + 9e zetas are accepted
    pub zetas : (pair : ℕ × ℕ) (alpha : ℕ) → alpha < p → (z : List ℕ) → Elements p (z_length e n) z → (HoldingAlpha z pair alpha → ⊥)
        → (t : List ℕ) → Elements p (quotient_length e n) t → AtMost (4 * n - 4 + 9 * e) (AcceptedZeta z t pair alpha)

-- an honest witness, and any numbers b that blind it
pub record Complete (e p n : ℕ) (C : Constraints) (x v : ℕ → ℕ) (b : List ℕ) (beta gamma : ℕ) : Type 0 where
  -- there is a z on the rows, with z(i + 1) × D(i) = z(i) × N(i)
  pub rows : List ℕ
  pub grand : GrandProduct p n C v beta gamma rows
  -- it passes the row check
  pub z_passes : row_verdict p n C x v (coef rows) beta gamma ≡ pass
  -- its polynomial
  pub z : List ℕ
  pub z_is : z_of e p n C v b beta gamma ≡ some z
  -- t × (X^n - 1) is F
  pub t_holds : (alpha : ℕ) → SameP p (f_of p n C x (wires_of e p n v b) z beta gamma alpha) (times_vanishing p n (t_of e p n C x v b z beta gamma alpha))
  -- a, b, c, z and t are the transcript that the prover lays
  pub laid : (alpha : ℕ) → proved e p n C x v b beta gamma alpha ≡ some (transcript (wires_of e p n v b) z (t_of e p n C x v b z beta gamma alpha))
  -- the point check accepts it
  pub accepted : (alpha zeta : ℕ)
      → point_verdict e p n (prepared p n C) x (transcript (wires_of e p n v b) z (t_of e p n C x v b z beta gamma alpha)) beta gamma alpha zeta ≡ accept

pub record ZeroPair (p n : ℕ) (C : Constraints) (v : ℕ → ℕ) (pair : ℕ × ℕ) : Type 0 where
  pub beta_element : pair.0 < p
  pub gamma_element : pair.1 < p
  pub zero_factor_lem : zero_factor p n C v pair.0 pair.1 < n

-- of a circuit C of n rows with l public inputs
pub record Demand3 (e p n l : ℕ) (C : Constraints) : Type 0 where
  -- a witness of elements that satisfies the circuit has the public input x(i) at a(i), in every row i below l
  pub binding : (x v : ℕ → ℕ) → Satisfies p n C x v → (i : ℕ) → i < l → x i < p → v (position n 0 i) < p → v (position n 0 i) ≡ x i
  -- three wires of as many elements as a wire has
  pub soundness : (x : ℕ → ℕ) (wire : ℕ → List ℕ) → ((c : ℕ) → c < 3 → Elements p (wire_length e n) (wire c)) → Sound e p n C x wire
  -- a witness that satisfies the circuit, and no zero factor of any D(i)
  pub completeness : (x v : ℕ → ℕ) → Satisfies p n C x v → (beta gamma : ℕ) → zero_factor p n C v beta gamma ≡ n → (b : List ℕ) → Complete e p n C x v b beta gamma
  -- a witness that satisfies the circuit: with each beta, the gammas that meet a zero factor are exactly as many as there are different numbers among
  -- wire value + beta × tag; and the pairs that do are as many as the sum of these counts over all beta
  pub lost_gammas_lem : (x v : ℕ → ℕ) → Satisfies p n C x v → (beta : ℕ) → beta < p → Exactly (lost_gammas p n v beta) (λ gamma. ZeroPair p n C v (beta, gamma))
  pub lost_pairs_lem : (x v : ℕ → ℕ) → Satisfies p n C x v → Exactly (lost_pairs p n v) (ZeroPair p n C v)
  -- preparing writes elements, and so does the prover, each as many as are due
  pub prepared_long : Elements p (prepared_length n) (prepared p n C)
  pub proved_long : (x v : ℕ → ℕ) (b : List ℕ) (beta gamma alpha : ℕ) (T : List ℕ) → proved e p n C x v b beta gamma alpha ≡ some T → Elements p (transcript_length e n) T
