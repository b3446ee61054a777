-- What an opening shows, about the verdict of the definitions, over every admissible p and n, every prepared circuit and transcript of the right
-- lengths, e being 1 where the transcript is blinded, else 0, every list, point and mixing number.
--
-- THE STATEMENT
-- PassingMixture   a mixing number with which some opening polynomial of 3n - 4 + 9e elements is accepted
-- Openings         exact: the verdict is accept exactly where the two sides have the same coefficients modulo p, all of them
--                  evaluations_long, opening_long: the definitions give elements, as many as are due
--                  complete: the right evaluations are accepted with the opening polynomial of the definitions
--                  only: and with no other of its length
--                  sound: evaluations that are not all right are accepted with fewer mixing numbers than the list is long, whatever the opening polynomials
-- THE THEOREM
-- openings         it holds
--
-- The theorems stand in proofs/Openings.
-- Assumes nothing.
use Rattle.std.specs.Prelude.{◌≡◌, ◌≢◌, List, ℕ, ◌-◌, ◌<◌}
use Rattle.std.proofs.Math.ListN.{length}
use Rattle.algebra.specs.Lists.{AtMost}
use Rattle.algebra.specs.Polynomial.{mul_p, linear, Elements, SameP}
use Rattle.circuit.specs.Buffers.{opening_length}
use Rattle.protocol.specs.Protocol.{accept}
use Rattle.opening.specs.Opening.{evaluations_of, mixture_of, opening_of, opening_verdict}

-- THE STATEMENT

pub record PassingMixture (e p n : ℕ) (prepared transcript list evaluations : List ℕ) (point m : ℕ) : Type 0 where
  pub m_element : m < p
  pub opening : List ℕ
  pub opening_elements : Elements p (opening_length e n) opening
  pub accepted : opening_verdict e p n prepared transcript list evaluations opening point m ≡ accept

pub record Openings (e p n : ℕ) (prepared transcript list : List ℕ) : Type 0 where
  pub exact : (evaluations opening : List ℕ) (point m : ℕ)
      → (opening_verdict e p n prepared transcript list evaluations opening point m ≡ accept
      → SameP p (mixture_of e p n prepared transcript list evaluations m) (mul_p (linear p point) opening))
      × (SameP p (mixture_of e p n prepared transcript list evaluations m) (mul_p (linear p point) opening)
      → opening_verdict e p n prepared transcript list evaluations opening point m ≡ accept)
  pub evaluations_long : (point : ℕ) → Elements p (length list) (evaluations_of e p n prepared transcript list point)
  pub opening_long : (point m : ℕ) → Elements p (opening_length e n) (opening_of e p n prepared transcript list point m)
  pub complete : (point m : ℕ)
      → opening_verdict e p n prepared transcript list (evaluations_of e p n prepared transcript list point) (opening_of e p n prepared transcript list point m) point m ≡ accept
  pub only : (point m : ℕ) (opening : List ℕ) → Elements p (opening_length e n) opening
      → opening_verdict e p n prepared transcript list (evaluations_of e p n prepared transcript list point) opening point m ≡ accept
      → opening ≡ opening_of e p n prepared transcript list point m
  pub sound : (point : ℕ) (evaluations : List ℕ) → Elements p (length list) evaluations
      → evaluations ≢ evaluations_of e p n prepared transcript list point
      → AtMost (length list - 1) (PassingMixture e p n prepared transcript list evaluations point)
