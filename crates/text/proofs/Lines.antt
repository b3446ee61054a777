-- Laws of reading a line field by field.
--
-- field_is          the tests of a number and of the byte behind it are those of a field
-- line_not          a line with a field that is out of form is none
-- line_is           a line whose fields are all in form is one
--
-- Assumes nothing.
use Rattle.std.specs.Prelude.{◌≡◌, Bool, true, false, not, ◌&&◌, List, ℕ, ◌<◌, eqb, get_or}
use Rattle.std.proofs.Common.{sym, ap, ◌∙◌, arith, true≢false}
use borrow.Author.Tests.{eq-eqb, ne_eqb}
use Rattle.algebra.specs.Search.{first_is, first_some, first_none}
use Rattle.text.specs.Text.{digits_end, is_number_at, field_at, closing, is_field_at, is_line_at}

pub field_is : (s : List ℕ) (at n : ℕ) (j : ℕ) {next b : ℕ} → next ≡ field_at s at j → b ≡ closing n j
    → (is_number_at s next && eqb (get_or s (digits_end s next) 0) b) ≡ is_field_at s at n j
unfolding is_field_at
field_is s at n j e f = rw (e, f)

pub line_not : (s : List ℕ) (at n j : ℕ) → j < n → is_field_at s at n j ≡ false → is_line_at s at n ≡ false
unfolding is_line_at
line_not s at n j h e =
    let test : ℕ → Bool = λ k. not (is_field_at s at n k) in
    let low = first_some test 0 n _ (first_is test 0 n) j (omega arith) (omega arith) (ap not e) in
    ne_eqb _ _ (λ q. omega (arith, low.0))

pub line_is : (s : List ℕ) (at n : ℕ) → ((k : ℕ) → k < n → is_field_at s at n k ≡ true) → is_line_at s at n ≡ true
unfolding is_line_at
line_is s at n h = eq-eqb _ _ (first_none (λ k. not (is_field_at s at n k)) n (λ k l e. true≢false (sym e ∙ ap not (h k l))))
