-- The theorems that specs/Further lists, with their proofs.
-- Assumes nothing.
use Rattle.std.specs.Prelude.{◌≡◌, refl, List, [], ◌∷◌, ℕ, zero, suc, ◌*◌, ◌%◌, ◌<◌, get_or}
use Rattle.std.proofs.Common.{ap, ◌∙◌, arith, lit<}
use Rattle.std.proofs.Math.Option.{Option, some}
use Rattle.algebra.specs.Lists.{tab, gathered, All}
use Rattle.algebra.specs.Tables.{gathered_some}
use Rattle.algebra.specs.Modular.{pow_f, first, inverse}
use Rattle.algebra.specs.Congruence.{cong, back, cong_mod, ◌⨾◌}
use Rattle.algebra.specs.Powers.{pow_f-fast}
use Rattle.algebra.specs.Primes.{inverse_only}
use Rattle.algebra.specs.Polynomial.{coef, quotient_vanishing, reduced}
use Rattle.field.specs.Fields.{generator, root, point, multiplier, tag}
use Rattle.field.specs.Primes.{prime_2013265921}
use Rattle.transform.specs.Transform.{interpolation}
use Rattle.transform.specs.Parts.{laid}
use Rattle.circuit.specs.Circuit.{lent_by, by_rows, permutation, gate}
use Rattle.circuit.specs.Reasons.{unbound_row}
use Rattle.protocol.specs.Protocol.{next_z, running_z, row_n, row_d, row_z, z_rows, poly_n, poly_d, poly_l, gate_part, step_part, start_part, poly_f, quotient, prepared, blinded, rows_from, row_at, point_verdict, broken_gate, broken_copy, zero_factor}
use Rattle.protocol.specs.GrandProduct.{z-laid}
use Rattle.protocol.specs.Worked.{perhaps, ◌&◌}
use Rattle.protocol.specs.Further.{constraints, witness, largest, table, z_numbers, largest_table, Further}

right : All (λ r. r.is ≡ r.should) table
unfolding unbound_row tab gathered pow_f first inverse quotient_vanishing reduced blinded generator root point multiplier tag interpolation lent_by by_rows permutation gate row_n row_d running_z poly_n poly_d poly_l gate_part step_part start_part poly_f quotient laid prepared rows_from point_verdict broken_gate broken_copy zero_factor
right = refl & refl & refl & refl & refl & refl & refl & refl & refl & refl & refl & refl & refl & refl & refl & refl & refl & refl & refl & refl & refl & refl & tt

-- THE CASES OF THE LARGEST PRIME

root_2 : root 2013265921 2 ≡ 2013265920
unfolding root generator
root_2 = pow_f-fast 2013265921 32 31 1006632960 (lit< tt)

root_4 : root 2013265921 4 ≡ 1728404513
unfolding root generator
root_4 = pow_f-fast 2013265921 32 31 503316480 (lit< tt)

inverse_is : (x r : ℕ) → r < 2013265921 → x * r % 2013265921 ≡ 1 → inverse 2013265921 x ≡ some r
inverse_is x r h e = inverse_only x r prime_2013265921 h (back cong_mod ⨾ cong e)

inverse_4 : inverse 2013265921 4 ≡ some 1509949441
inverse_4 = inverse_is 4 1509949441 (lit< tt) refl

-- of D(0), D(1), D(2)
inverse_D0 : inverse 2013265921 1022427386 ≡ some 1329695279
inverse_D0 = inverse_is 1022427386 1329695279 (lit< tt) refl

inverse_D1 : inverse 2013265921 979458398 ≡ some 538305855
inverse_D1 = inverse_is 979458398 538305855 (lit< tt) refl

inverse_D2 : inverse 2013265921 242013346 ≡ some 826009675
inverse_D2 = inverse_is 242013346 826009675 (lit< tt) refl

-- z on the rows, one after the other
abbrev z_largest : ℕ → Option ℕ
z_largest = row_z 2013265921 4 (constraints largest) (witness largest) largest.beta largest.gamma

-- z(i + 1) from z(i)
abbrev next_largest : ℕ → Option ℕ → Option ℕ
next_largest i z =
    next_z 2013265921 z (row_n 2013265921 4 (witness largest) largest.beta largest.gamma i) (row_d 2013265921 4 (constraints largest) (witness largest) largest.beta largest.gamma i)

next_row : (i z r : ℕ) → z_largest i ≡ some z → next_largest i (some z) ≡ some r → z_largest (suc i) ≡ some r
unfolding running_z
next_row i z r e f = ap (next_largest i) e ∙ f

rows_1 : z_largest 1 ≡ some 176312996
unfolding running_z pow_f generator point multiplier tag lent_by by_rows permutation row_n row_d first
rows_1 = next_row 0 1 176312996 refl (rw (root_4, inverse_D0, next_z, root_4))

rows_2 : z_largest 2 ≡ some 352415857
unfolding pow_f generator point multiplier tag lent_by by_rows permutation row_n row_d first
rows_2 = next_row 1 176312996 352415857 rows_1 (rw (root_4, inverse_D1, next_z, root_4))

rows_3 : z_largest 3 ≡ some 1367991329
unfolding pow_f generator point multiplier tag lent_by by_rows permutation row_n row_d first
rows_3 = next_row 2 352415857 1367991329 rows_2 (rw (root_4, inverse_D2, next_z, root_4))

rows-largest : z_rows 2013265921 4 (constraints largest) (witness largest) largest.beta largest.gamma ≡ some z_numbers
unfolding tab running_z
rows-largest = gathered_some z_largest (λ i. get_or z_numbers i 0) 4 by_row
  where
    by_row : (i : ℕ) → i < 4 → z_largest i ≡ some (get_or z_numbers i 0)
    by_row zero h = refl
    by_row (suc zero) h = rows_1
    by_row (suc (suc zero)) h = rows_2
    by_row (suc (suc (suc zero))) h = rows_3
    by_row (suc (suc (suc (suc i)))) h = absurd (omega arith)

z_largest_lem : interpolation 2013265921 4 (coef z_numbers) ≡ 977496526 ∷ 237887515 ∷ 1211977324 ∷ 1599170478 ∷ []
unfolding tab pow_f generator point interpolation
z_largest_lem = rw (inverse_4, interpolation, root_4)

largest-right : All (λ r. r.is ≡ r.should) largest_table
unfolding unbound_row tab gathered pow_f first quotient_vanishing reduced blinded generator point multiplier tag interpolation lent_by by_rows permutation gate row_n row_d running_z poly_n poly_d poly_l gate_part step_part start_part poly_f quotient laid prepared rows_from point_verdict broken_gate broken_copy zero_factor
largest-right =
    (rw root_4)
    & refl
    & refl
    & (rw root_4)
    & (rw root_4)
    & (rw root_4)
    & ap perhaps rows-largest
    & (rw (root_4, row_at, root_4, row_at, root_4, row_at, root_4, row_at))
    & (rw (inverse_4, interpolation, root_4))
    & (rw (inverse_4, interpolation, root_4))
    & ap perhaps (z-laid 0 2013265921 4 (constraints largest) (witness largest) [] largest.beta largest.gamma z_numbers rows-largest ∙ ap {B = Option (List ℕ)} (λ z. some (blinded 2013265921 4 [] z)) z_largest_lem)
    & (rw (inverse_4, interpolation, root_4, poly_l))
    & (rw (inverse_4, interpolation, root_4, poly_l, point_verdict))
    & (rw root_2)
    & (rw (root_2, row_at, root_2, row_at))
    & (rw root_2)
    & tt

pub further : Further
further = record { small = right; large = largest-right }
