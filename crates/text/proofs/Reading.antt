-- Laws of reading: a run of digits and its value capped at 2^32, against the definitions.
--
-- digits_found   what a search of the text from `at` on gives is where the run of digits that starts there ends
-- end_high       that is within the text
-- number_told    the tests of a number on the capped value tell what is one, and which
--
-- Assumes nothing.
use Rattle.std.specs.Prelude.{◌≡◌, refl, Bool, true, false, cond, not, ◌&&◌, ◌||◌, List, ℕ, zero, suc, ◌+◌, ◌-◌, ◌≤◌, ◌<◌, min, eqb, ltb, length, get_or, take, drop, Option, Some, None}
use Rattle.std.specs.List.{position}
use Rattle.std.specs.Option.{unwrap_or}
use Rattle.std.proofs.Common.{sym, ap, ap₂, ◌∙◌, arith, add-zero, length-drop}
use Rattle.std.proofs.Math.Seq.{take-length}
use Rattle.std.proofs.Math.Nat.{add-suc}
use Rattle.std.proofs.Math.Decide.{dec_lt}
use Rattle.std.proofs.lemmas.List.{get_or-drop}
use borrow.Author.Tests.{le-ltb}
use Rattle.algebra.specs.Modular.{first}
use Rattle.algebra.specs.Search.{first_is, first_position}
use Rattle.text.specs.Text.{is_digit, digits_end, value_of, is_number_at, number_at}

-- a search from `at` on, and one from 0 on of what stands behind
from_there : (t : ℕ → Bool) (at j n : ℕ) → at + first (λ k. t (at + k)) j n ≡ first t (at + j) n
unfolding first
from_there t at j zero = refl
from_there t at j (suc n) =
    elim (t (at + j))
    as (λ b. at + (elim b [ true ↦ j | false ↦ first (λ k. t (at + k)) (suc j) n ]) ≡ (elim b [ true ↦ at + j | false ↦ first t (suc (at + j)) n ]))
    [ true ↦ refl | false ↦ from_there t at (suc j) n ∙ ap (λ m. first t m n) (add-suc at j) ]

pub digits_found : (s : List ℕ) (at : ℕ) (o : Option ℕ) → o ≡ position (λ b. not (is_digit b)) (take (length s - at) (drop at s))
    → at + unwrap_or o (length s - at) ≡ digits_end s at
unfolding digits_end
digits_found s at o e =
    let all : take (length s - at) (drop at s) ≡ drop at s = ap (λ n. take n (drop at s)) (sym (length-drop at s)) ∙ take-length (drop at s) in
    let found : unwrap_or o (length s - at) ≡ first (λ k. not (is_digit (get_or s (at + k) 0))) 0 (length s - at) =
    ap₂ unwrap_or (e ∙ ap (position (λ b. not (is_digit b))) all) (sym (length-drop at s))
    ∙ first_position (λ b. not (is_digit b)) (drop at s)
    ∙ simp (get_or-drop, length-drop)
    in
    ap (λ n. at + n) found
    ∙ from_there (λ k. not (is_digit (get_or s k 0))) at 0 (length s - at)
    ∙ ap (λ n. first (λ k. not (is_digit (get_or s k 0))) n (length s - at)) (add-zero at)

pub end_high : (s : List ℕ) (at : ℕ) → at ≤ length s → digits_end s at ≤ length s
unfolding digits_end
end_high s at h = omega (arith, (first_is (λ k. not (is_digit (get_or s k 0))) at (length s - at)).high)

and_false : (a : Bool) → (a && false) ≡ false
and_false true = refl
and_false false = refl

-- the tests of a number and its value, where value and test are capped
pub number_told : (s : List ℕ) (at k v : ℕ) (ok : Bool) → k ≡ digits_end s at - at → v ≡ min (value_of s at k) 4294967296
    → ok ≡ ((ltb 0 k && (eqb k 1 || not (eqb (get_or s at 0) 48))) && ltb v 4294967296)
    → cond ok (Some v) None ≡ cond (is_number_at s at) (Some (number_at s at)) None
unfolding is_number_at number_at
number_told s at k v ok d c e = go (dec_lt (value_of s at k) 4294967296)
  where
    form : Bool
    form = ltb 0 k && (eqb k 1 || not (eqb (get_or s at 0) 48))

    go : Dec (value_of s at k < 4294967296) → cond ok (Some v) None ≡ cond (is_number_at s at) (Some (number_at s at)) None
    go (yes h) = let w : v ≡ value_of s at k = omega arith in rw (e, w, d)
    go (no h) =
        rw (e, le-ltb v 4294967296 (omega arith), ← d, le-ltb (value_of s at k) 4294967296 (omega arith), and_false form) refl
