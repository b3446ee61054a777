-- What five values give away (document 02, request 9): nothing. Whichever the witness, for equally many choices of the nine blinders the values of the three wires and of z
-- at a zeta that is no row's point, and of z at w × zeta, are any five given elements.
--
-- THE STATEMENT
-- FiveAt p n wire z zeta five          the values of three wires and of z at zeta, and of z at w × zeta, are the list `five`
-- GivesFive p n C v beta gamma zeta five b   b is nine elements, and the blinded wires and z of the witness v have these values
-- LaysFive p n C x v beta gamma alpha zeta five b   the same of the transcript that the prover lays
-- FiveValues p n Gives                 for every zeta but 0 with zeta^n ≠ 1 and every five elements, exactly p^4 choices give them; at zeta = 0 exactly p^5 where the last two
--                                      agree, and none else
-- EquallyMany P Q                      exactly as many lists satisfy P as satisfy Q
-- THE THEOREM
-- five_values                          FiveValues holds of what the definitions give, for every admissible p and n, any constraints, and every witness and pair with no zero
--                                      factor of any D(i) (reason 11 does not apply)
-- five-laid                            and of what the prover lays, whatever alpha is
-- five_of_lem                          and of any property that says the same
-- equally_many                         two properties of which it holds have equally many choices for any five elements
-- equally_given                        so two fillings of one circuit, each with its public inputs, have; that they satisfy it is not needed
--
-- At zeta the polynomial X^n - 1 has a value Z that is not 0, and at w × zeta the same. Each of the four polynomials f has blinders of its own: it becomes f + r × (X^n - 1), so
-- its value is f(zeta) + r(zeta) × Z. The nine are thus four polynomials r that fit given values, and how many do does not depend on the values (algebra's Fitting).
-- A witness need not satisfy the circuit for this, and the public inputs play no part.
-- The theorems stand in proofs/FiveValues.
-- Assumes nothing.
use Rattle.std.specs.Prelude.{◌≡◌, ◌≢◌, List, ℕ, ◌*◌, ◌%◌, ◌^◌, ◌<◌}
use Rattle.std.proofs.Math.Option.{some}
use Rattle.algebra.specs.Lists.{Exactly}
use Rattle.algebra.specs.Polynomial.{coef, eval, Elements}
use Rattle.field.specs.Fields.{root}
use Rattle.circuit.specs.Circuit.{Constraints}
use Rattle.circuit.specs.Buffers.{blinder_count, wire_part, z_part}
use Rattle.protocol.specs.Protocol.{wires_of, z_of, proved}

-- THE STATEMENT

pub record FiveAt (p n : ℕ) (wire : ℕ → List ℕ) (z : List ℕ) (zeta : ℕ) (five : List ℕ) : Type 0 where
  pub wires : (c : ℕ) → c < 3 → eval (wire c) zeta % p ≡ coef five c
  pub z_here : eval z zeta % p ≡ coef five 3
  pub z_next : eval z (root p n * zeta) % p ≡ coef five 4

pub record GivesFive (p n : ℕ) (C : Constraints) (v : ℕ → ℕ) (beta gamma zeta : ℕ) (five b : List ℕ) : Type 0 where
  pub blinders : Elements p blinder_count b
  pub z : List ℕ
  pub z_is : z_of 1 p n C v b beta gamma ≡ some z
  pub values : FiveAt p n (wires_of 1 p n v b) z zeta five

pub record LaysFive (p n : ℕ) (C : Constraints) (x v : ℕ → ℕ) (beta gamma alpha zeta : ℕ) (five b : List ℕ) : Type 0 where
  pub blinders : Elements p blinder_count b
  pub laid : List ℕ
  pub laid_is : proved 1 p n C x v b beta gamma alpha ≡ some laid
  pub values : FiveAt p n (λ c. wire_part 1 n c laid) (z_part 1 n laid) zeta five

-- `Gives zeta five b` says that the choice b gives these five at zeta
pub record FiveValues (p n : ℕ) (Gives : (zeta : ℕ) (five b : List ℕ) → Type 0) : Type 0 where
  pub off_zero : (zeta : ℕ) → zeta < p → zeta ≢ 0 → zeta ^ n % p ≢ 1 → (five : List ℕ) → Elements p 5 five → Exactly (p ^ 4) (Gives zeta five)
  -- at 0 the two values of z are one
  pub at_zero : (five : List ℕ) → Elements p 5 five → coef five 3 ≡ coef five 4 → Exactly (p ^ 5) (Gives 0 five)
  pub never : (five : List ℕ) → Elements p 5 five → coef five 3 ≢ coef five 4 → Exactly 0 (Gives 0 five)

pub record EquallyMany (P Q : List ℕ → Type 0) : Type 0 where
  pub many : ℕ
  pub one : Exactly many P
  pub other : Exactly many Q
