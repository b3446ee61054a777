-- The lent buffers: how many numbers each has for n rows, and where the polynomials stand in a prepared circuit and in a transcript.
-- The number e is 1 where the transcript is blinded (document 02, request 9), and 0 where it is not: every length is one formula for both.
-- (The scratch of the transforms and of `prepare` has its length in the crate `transform`; `work_length` is made of it.)
--
-- COUNTS AND NUMBERS
-- selector_count                           the selectors of a row: qL, qR, qO, qM, qC
-- prepared_count                           the polynomials of a prepared circuit: those of the selectors, then those of the wired tags, one for each column
-- wired_number                             which of them is the first of the wired tags
-- wire_number, z_number, t_number          the numbers of the first wire, of z and of t, polynomials being asked for by number; those of a prepared circuit come first
-- polynomial_count                         how many have a number: the numbers are those below it
-- blinder_count                            the numbers that blind a transcript: two for each wire, three for z
-- LENGTHS
-- selectors_length, labels_length, witness_length   of the selectors, the labels and the witness
-- prepared_length                          of a prepared circuit: its polynomials have n coefficients each
-- wire_length, z_length, quotient_length   the coefficients of a wire, of z and of t
-- f_length                                 the coefficients of F, n more than t has: 4n - 3 + 9e (`f_long` of Parts)
-- transcript_length                        of a transcript: 7n - 3 + 18e (`transcript_long` of Parts)
-- opening_length                           the coefficients of an opening polynomial, one less than t has: 3n - 4 + 9e (`opening_long` of Parts)
-- work_length                              of the scratch of a call that lays a transcript, or is lent one: 16n + 64e
-- blinded_by n l                           e of a lent transcript: its length alone decides
-- PLACES
-- prepared_start n s                       where polynomial s of a prepared circuit starts
-- wire_start e n c, z_start e n, t_start e n   where the wire of column c, z and t start in a transcript
-- PARTS
-- prepared_part n s l                      polynomial s of a prepared circuit
-- wire_part e n c l, z_part e n l, t_part e n l   the wire of column c, z and t of a transcript; t is what stands behind z
-- by_number k pre wire z t none            what belongs to polynomial k
--
-- Assumes nothing.
use Rattle.std.specs.Prelude.{cond, List, ℕ, ◌+◌, ◌*◌, ◌-◌, eqb, ltb, length, take, drop}
use Rattle.transform.specs.Transform.{scratch_length}

-- COUNTS AND NUMBERS

abbrev pub selector_count : ℕ
selector_count = 5

abbrev pub prepared_count : ℕ
prepared_count = 8

abbrev pub wired_number : ℕ
wired_number = 5

abbrev pub wire_number : ℕ
wire_number = 8

abbrev pub z_number : ℕ
z_number = 11

abbrev pub t_number : ℕ
t_number = 12

abbrev pub polynomial_count : ℕ
polynomial_count = 13

abbrev pub blinder_count : ℕ
blinder_count = 9

-- LENGTHS

abbrev pub selectors_length : ℕ → ℕ
selectors_length n = selector_count * n

abbrev pub labels_length : ℕ → ℕ
labels_length n = 3 * n

abbrev pub witness_length : ℕ → ℕ
witness_length n = 3 * n

abbrev pub prepared_length : ℕ → ℕ
prepared_length n = prepared_count * n

abbrev pub wire_length : ℕ → ℕ → ℕ
wire_length e n = n + 2 * e

abbrev pub z_length : ℕ → ℕ → ℕ
z_length e n = n + 3 * e

abbrev pub quotient_length : ℕ → ℕ → ℕ
quotient_length e n = 3 * n - 3 + 9 * e

abbrev pub f_length : ℕ → ℕ → ℕ
f_length e n = n + quotient_length e n

abbrev pub opening_length : ℕ → ℕ → ℕ
opening_length e n = quotient_length e n - 1

abbrev pub work_length : ℕ → ℕ → ℕ
work_length e n = scratch_length n + 64 * e

-- PLACES

abbrev pub prepared_start : ℕ → ℕ → ℕ
prepared_start n s = s * n

abbrev pub wire_start : ℕ → ℕ → ℕ → ℕ
wire_start e n c = c * wire_length e n

abbrev pub z_start : ℕ → ℕ → ℕ
z_start e n = 3 * wire_length e n

abbrev pub t_start : ℕ → ℕ → ℕ
t_start e n = z_start e n + z_length e n

abbrev pub transcript_length : ℕ → ℕ → ℕ
transcript_length e n = t_start e n + quotient_length e n

-- a transcript of neither length is taken for one that is not blinded, and has a wrong length as such
unfoldable pub blinded_by : ℕ → List ℕ → ℕ
blinded_by n l = cond (eqb (length l) (transcript_length 1 n)) 1 0

-- PARTS

abbrev pub prepared_part : ℕ → ℕ → List ℕ → List ℕ
prepared_part n s l = take n (drop (prepared_start n s) l)

abbrev pub wire_part : ℕ → ℕ → ℕ → List ℕ → List ℕ
wire_part e n c l = take (wire_length e n) (drop (wire_start e n c) l)

abbrev pub z_part : ℕ → ℕ → List ℕ → List ℕ
z_part e n l = take (z_length e n) (drop (z_start e n) l)

abbrev pub t_part : ℕ → ℕ → List ℕ → List ℕ
t_part e n l = drop (t_start e n) l

abbrev pub by_number : {A : Type 0} (k : ℕ) (pre wire : ℕ → A) (z t none : A) → A
by_number k pre wire z t none =
    cond (ltb k wire_number) (pre k) (cond (ltb k z_number) (wire (k - wire_number)) (cond (eqb k z_number) z (cond (eqb k t_number) t none)))
