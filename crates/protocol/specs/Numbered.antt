-- Polynomials by number (document 01, "Polynomials"): the part that `polynomial` hands back of a prepared circuit and of a transcript is the
-- polynomial of that number.
--
-- numbered                 where n is a number of rows and the lengths are right, `polynomial` hands back the numbered part
-- numbered_prepared        the polynomials of the prepared circuit
-- numbered_wire            the wires
-- numbered_z, numbered_t   z; t
--
-- Assumes nothing.
use Rattle.std.specs.Prelude.{◌≡◌, true, List, [], ℕ, zero, suc, ◌+◌, ◌≤◌, ◌<◌, length, take}
use Rattle.std.proofs.Common.{sym, ap, subst, ◌∙◌, append-nil, arith, take_at, lt-ltb, eq-eqb}
use Rattle.std.specs.Borrow.{Bor}
use Rattle.field.specs.Domain.{Domain}
use Rattle.circuit.specs.Circuit.{Constraints}
use Rattle.circuit.specs.Buffers.{wire_number, z_number, t_number, prepared_length, wire_length, z_length, quotient_length, transcript_length, prepared_part, wire_part, z_part, t_part}
use Rattle.circuit.specs.Parts.{blinded_of}
use Rattle.circuit.specs.Promises.{any_rows, Part, prepared_place, numbered_part, polynomial_part, Hands}
use Rattle.protocol.specs.Protocol.{prepared_poly, prepared, transcript}
use Rattle.protocol.specs.Layout.{prepared_part_lem, wire_part_lem, z_part_lem, t_part_lem}

-- r is the part that is handed back of the buffers pre and lent
module _ (e n : ℕ) (small : e ≤ 1) (pre lent r : Bor (List ℕ)) where
  pub numbered : (k : ℕ) → any_rows n ≡ true → length pre.now ≡ prepared_length n → length lent.now ≡ transcript_length e n
      → Hands (polynomial_part n k pre lent) r → Hands (numbered_part e n k pre lent) r
  numbered k a b c H =
      let is : polynomial_part n k pre lent ≡ numbered_part e n k pre lent = rw (blinded_of e n lent.now small c, a, eq-eqb (length pre.now) (prepared_length n) b, eq-eqb (length lent.now) (transcript_length e n) c) in
      subst (λ (P : Part). Hands P r) is H

  pub numbered_prepared : {p : ℕ} → Domain p n → (C : Constraints) → pre.now ≡ prepared p n C → (k : ℕ) → k < wire_number → Hands (numbered_part e n k pre lent) r
      → r.now ≡ prepared_poly p n C k
  numbered_prepared D C is-pre k l H =
      let is : numbered_part e n k pre lent ≡ prepared_place n k pre = rw (lt-ltb k wire_number (omega arith)) in
      (subst (λ (P : Part). Hands P r) is H).numbers ∙ ap (prepared_part n k) is-pre ∙ prepared_part_lem D C k l

  module _ (wire : ℕ → List ℕ) (z t : List ℕ) (lw : (c : ℕ) → c < 3 → length (wire c) ≡ wire_length e n) (is : lent.now ≡ transcript wire z t) where
    pub numbered_wire : (c : ℕ) → c < 3 → Hands (numbered_part e n (wire_number + c) pre lent) r → r.now ≡ wire c
    numbered_wire zero l H = H.numbers ∙ ap (wire_part e n 0) is ∙ wire_part_lem e n wire z t lw 0 l
    numbered_wire (suc zero) l H = H.numbers ∙ ap (wire_part e n 1) is ∙ wire_part_lem e n wire z t lw 1 l
    numbered_wire (suc (suc zero)) l H = H.numbers ∙ ap (wire_part e n 2) is ∙ wire_part_lem e n wire z t lw 2 l
    numbered_wire (suc (suc (suc c))) l H = absurd (omega arith)

    pub numbered_z : length z ≡ z_length e n → Hands (numbered_part e n z_number pre lent) r → r.now ≡ z
    numbered_z lz H = H.numbers ∙ ap (z_part e n) is ∙ z_part_lem e n wire z t lw lz

    pub numbered_t : length z ≡ z_length e n → length t ≡ quotient_length e n → Hands (numbered_part e n t_number pre lent) r → r.now ≡ t
    numbered_t lz lt H =
        H.numbers
        ∙ ap (λ (xs : List ℕ). take (quotient_length e n) (t_part e n xs)) is
        ∙ ap (take (quotient_length e n)) (t_part_lem e n wire z t lw lz ∙ sym (append-nil t))
        ∙ take_at t [] (quotient_length e n) lt
