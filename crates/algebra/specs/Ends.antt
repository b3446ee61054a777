-- Parts of a slice: its runs of equal length; and a slice that is written in two parts, one after the other: its front, and then the rest.
--
-- run_room         run k of m runs of n words ends within them
-- front_fits, front_is   a front of n words that is written is there to be read again
-- front_array      the same of an array, for its length
-- rest_length      the number of words behind a front that is written
-- both_parts       the slice is then the two lists end to end
-- rest_put         the rest behind a front of h words, replaced
--
-- Assumes nothing.
use Rattle.std.specs.Prelude.{◌≡◌, refl, List, ◌++◌, ℕ, ◌+◌, ◌*◌, ◌-◌, ◌≤◌, ◌<◌, length, take, drop}
use Rattle.std.proofs.Common.{sym, ◌∙◌, append-nil, mul-le-mul_right, suc-mul, arith, length-take, length-drop, length-append, take_at, drop_at, length-take-le}
use Rattle.std.proofs.Math.Seq.{drop-length, length_front}
use borrow.Rule.Slice.PartMut.{put_mid}

pub run_room : (k m n : ℕ) → k < m → k * n + n ≤ m * n
run_room k m n h = omega (arith, mul-le-mul_right n h, suc-mul k n)

module _ (n : ℕ) (was front : List ℕ) (fits : n ≤ length was) (kept : length front ≡ length (take n was)) where
  pub front_fits : n ≤ length (front ++ drop n was)
  front_fits = omega (arith, length_front was front n kept)

  pub front_is : take n (front ++ drop n was) ≡ front
  front_is = take_at front (drop n was) n (kept ∙ length-take-le n was fits)

  pub front_array : (size : ℕ) (out : List ℕ) → size ≡ length was → front ≡ out
      → (size ≡ length (front ++ drop n was)) × (take n (front ++ drop n was) ≡ out)
  front_array size out long is = (long ∙ sym (length_front was front n kept), front_is ∙ is)

-- e is the front of h words, o what the slice was
module _ (h : ℕ) (o e : List ℕ) (fits : h ≤ length o) (kept : length e ≡ length (take h o)) where
  front_length : length e ≡ h
  front_length = kept ∙ simp length-take (omega arith)

  pub rest_length : length (take (length (e ++ drop h o) - h) (drop h (e ++ drop h o))) ≡ length o - h
  rest_length = rw (drop_at e (drop h o) h front_length) (simp (length-take, length-append, length-drop) (omega (arith, front_length)))

  pub both_parts : (w a b : List ℕ) → e ≡ a → w ≡ b → put_mid h (length (e ++ drop h o) - h) (e ++ drop h o) w ≡ a ++ b
  both_parts w a b f g =
      let z : length (e ++ drop h o) - h ≡ length (drop h o) = simp (length-append, length-drop) (omega (arith, front_length)) in
      rw (drop_at e (drop h o) h front_length, z, drop-length (drop h o), take_at e (drop h o) h front_length, append-nil w, f, g) refl

pub rest_put : (h : ℕ) (l w : List ℕ) → put_mid h (length l - h) l w ≡ take h l ++ w
rest_put h l w =
    let z : length l - h ≡ length (drop h l) = sym (length-drop h l) in
    rw (z, drop-length (drop h l), append-nil w)
