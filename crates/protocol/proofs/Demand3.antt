-- The theorems that specs/Demand3 lists, with their proofs.
-- Assumes nothing.
use Rattle.std.specs.Prelude.{◌≡◌, List, ℕ, zero, suc, ◌+◌, ◌*◌, ◌-◌, ◌<◌}
use Rattle.std.proofs.Common.{sym, ap₂, mod-lt, zero-lt-suc, arith}
use Rattle.algebra.specs.Lists.{AtMost}
use Rattle.algebra.specs.Polynomial.{eval, Elements}
use Rattle.algebra.specs.Congruence.{Cong, cong, ◌⨾◌, back, cong_mod}
use Rattle.algebra.specs.Counting.{at_most_of}
use Rattle.algebra.specs.Exact.{exactly_at_most, exactly_of}
use Rattle.field.specs.Fields.{Admissible, point}
use Rattle.field.specs.Domain.{Domain}
use Rattle.field.proofs.Domain.{domain}
use Rattle.transform.specs.Interpolation.{rows_positive}
use Rattle.transform.specs.Transform.{value_at}
use Rattle.circuit.specs.Circuit.{Constraints, Circuit, position, Satisfies}
use Rattle.circuit.specs.Buffers.{wire_length}
use Rattle.circuit.specs.Positions.{position-column, position_row}
use Rattle.circuit.specs.PublicBound.{public_bound}
use Rattle.protocol.specs.Protocol.{zero_factor}
use Rattle.protocol.proofs.Lengths.{length-F-rows}
use Rattle.protocol.specs.Layout.{prepared_elements, proved_elements}
use Rattle.protocol.proofs.Pairing.{few_pairs}
use Rattle.protocol.proofs.Challenges.{few_alphas, few_zetas}
use Rattle.protocol.specs.Conditions.{factors_nonzero}
use Rattle.protocol.proofs.Lost.{gammas_exact, pairs_exact, lost_most}
use Rattle.protocol.proofs.Completeness.{rows, grand, z_passes, z, z_is, t_holds, laid, accepts}
use Rattle.protocol.specs.Demand3.{witness_of, Sound, Complete, ZeroPair, Demand3}

-- THE PROOF

module _ (e q n : ℕ) (D : Domain (suc q) n) where
  abbrev p : ℕ
  p = suc q

  module _ (C : Constraints) (x : ℕ → ℕ) (wire : ℕ → List ℕ) where
    witness-lt : (k : ℕ) → k < 3 * n → witness_of (suc q) n wire k < suc q
    witness-lt k l = mod-lt _ (zero-lt-suc q)

    witness_fit : (c i : ℕ) → c < 3 → i < n → Cong (suc q) (eval (wire c) (point (suc q) n i)) (witness_of (suc q) n wire (position n c i))
    witness_fit c i h l =
        cong (ap₂ (λ (a b : ℕ). eval (wire a) (point p n b)) (sym (position-column n c i l)) (sym (position_row n c i l))) ⨾ back cong_mod

    sound : ((c : ℕ) → c < 3 → Elements (suc q) (wire_length e n) (wire c)) → Sound e (suc q) n C x wire
    sound elements =
        record {
          pairs = λ broken.
              at_most_of (few_pairs q n D C x (witness_of p n wire) witness-lt broken)
              (λ s h. (h.beta_element, h.gamma_element, (value_at p n h.z, h.z_passes)))
              (omega arith);
          alphas = λ pair hb hg none z ez.
              at_most_of
              (few_alphas q n D C x wire z pair.0 pair.1 (witness_of p n wire) witness_fit (value_at p n z) (λ i l. back cong_mod) (mod-lt _ (zero-lt-suc q))
              (λ passes. none record { beta_element = hb; gamma_element = hg; z = z; z_elements = ez; z_passes = passes }))
              (λ alpha h. (h.alpha_element, (h.t, h.t_holds)))
              (omega arith);
          zetas = λ pair alpha ha z ez none t et.
              at_most_of
              (few_zetas q n D C x wire z pair.0 pair.1 e (λ c h. (elements c h).long) ez.long alpha t (4 * n - 4 + 9 * e)
              (omega (arith, rows_positive q n D, length-F-rows e p n C x wire z (rows_positive q n D) (λ c h. (elements c h).long) ez.long pair.0 pair.1 alpha))
              (omega (arith, et.long, rows_positive q n D))
              (λ h. none record { alpha_element = ha; t = t; t_elements = et; t_holds = h }))
              (λ zeta h. (h.zeta_element, h.accepted))
              (omega arith);
        }

  complete : (C : Constraints) (x v : ℕ → ℕ) → Satisfies (suc q) n C x v → (beta gamma : ℕ) → zero_factor (suc q) n C v beta gamma ≡ n
      → (b : List ℕ) → Complete e (suc q) n C x v b beta gamma
  complete C x v sat beta gamma none b =
      let h = factors_nonzero p n C v beta gamma none in
      record {
        rows = rows e q n D C x v b sat beta gamma h;
        grand = grand e q n D C x v b sat beta gamma h;
        z_passes = z_passes e q n D C x v b sat beta gamma h;
        z = z e q n D C x v b sat beta gamma h;
        z_is = z_is e q n D C x v b sat beta gamma h;
        t_holds = t_holds e q n D C x v b sat beta gamma h;
        laid = laid e q n D C x v b sat beta gamma h;
        accepted = accepts e q n D C x v b sat beta gamma h;
      }

  all_of_it : (l : ℕ) (C : Constraints) → Circuit (suc q) n l C → Demand3 e (suc q) n l C
  all_of_it l C K =
      record {
        binding = public_bound p n l C K;
        soundness = sound C;
        completeness = complete C;
        lost_gammas_lem = λ x v sat beta below.
            exactly_of (gammas_exact q n C x v sat beta)
            (λ gamma h. record { beta_element = below; gamma_element = h.0; zero_factor_lem = h.1 })
            (λ gamma h. (h.gamma_element, h.zero_factor_lem));
        lost_pairs_lem = λ x v sat.
            exactly_of (pairs_exact q n C x v sat)
            (λ s h. record { beta_element = h.0; gamma_element = h.1.0; zero_factor_lem = h.1.1 })
            (λ s h. (h.beta_element, (h.gamma_element, h.zero_factor_lem)));
        prepared_long = prepared_elements D C;
        proved_long = λ x v b beta gamma alpha T. proved_elements D e C x v b beta gamma alpha T (omega (arith, rows_positive q n D));
      }

pub demand_3 : (e p n l : ℕ) → Admissible p n → (C : Constraints) → Circuit p n l C → Demand3 e p n l C
demand_3 e zero n l A C K = absurd (omega (arith, (domain zero n A).prime.two))
demand_3 e (suc q) n l A C K = all_of_it e q n (domain (suc q) n A) l C K

pub few_zero_pairs : (e p n l : ℕ) (C : Constraints) → Demand3 e p n l C → (x v : ℕ → ℕ) → Satisfies p n C x v → AtMost (3 * n * p) (ZeroPair p n C v)
few_zero_pairs e p n l C D x v sat = at_most_of (exactly_at_most (D.lost_pairs_lem x v sat)) (λ s h. h) (lost_most p n v)
