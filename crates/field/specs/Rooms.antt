-- The arrays that are lent on, by what they have room for at the greatest number of rows, 1,024. Those of polynomials have room for blinded ones too
-- (document 02, request 9), whose wires have n + 2 coefficients, z n + 3 and t 3n + 6.
--
-- rows_room          a number for each row
-- positions_room     a number for each position
-- wire_room          the coefficients of a wire, or of z
-- pair_room          those of the product of two wires, or of two polynomials as long
-- product_room       those of the product of three; or of t
-- domain_room        a number for each point of the largest domain
--
-- Assumes nothing.
use Rattle.std.specs.Prelude.{ℕ, ◌+◌, ◌*◌}

abbrev pub rows_room : ℕ
rows_room = 1024

abbrev pub positions_room : ℕ
positions_room = 3 * rows_room

abbrev pub wire_room : ℕ
wire_room = rows_room + 3

abbrev pub pair_room : ℕ
pair_room = 2 * rows_room + 3

abbrev pub product_room : ℕ
product_room = 3 * rows_room + 6

abbrev pub domain_room : ℕ
domain_room = 8192
