-- `joining::lines::put_sheet` meets its contract: the first line, the gates, the wire values, the public inputs of both, the challenges. Assumes nothing.
use mathlib.Core.Path.{◌≡◌}
use mathlib.Core.List.{[], ◌∷◌}
use Prim.Native.Nat.{◌+◌, ◌*◌, ◌≤◌}
use native.Mathlib.Omega.{arith}
use lib.ListN.{length}
use Rattle.text.specs.Text.{line_of}
use Rattle.text.specs.Puts.{field_bytes, puts_both, length_numbers}
use Rattle.sheet.specs.Sheet.{gate_fields}
use Rattle.sheet.specs.LaidLines.{laid_long}
use Rattle.joining.specs.Lines.{row_in, public_in}
use Rattle.joining.proofs.LineLaws.{before_labels, gate_lines, wire_lines, row_long, public_long}
use Rattle.joining.proofs.lines.put_sheet.Goals as goal
use Rattle.joining.proofs.lines.put_sheet.Goals.{After-put_numbers-gates, After-put_rows-publics}
use Rattle.transform.specs.Parts.{laid}
use mathlib.Core.List.{List}
use Prim.Native.Nat.{ℕ}

-- how long each part of the text is at most
line_size : (p n l m : ℕ) → length (line_of (p ∷ (2 * n) ∷ (l + m) ∷ [])) ≤ field_bytes * 3
line_size p n l m = length_numbers (p ∷ (2 * n) ∷ (l + m) ∷ []) (omega arith)

gates_size : (n l m : ℕ) (t u : List ℕ) → length (laid (λ i. line_of (row_in n l m 1 gate_fields t u i)) (2 * n)) ≤ field_bytes * gate_fields * (2 * n)
gates_size n l m t u =
    laid_long (λ i. line_of (row_in n l m 1 gate_fields t u i)) (field_bytes * gate_fields) (2 * n) (λ i h. row_long n l m 1 gate_fields t u i (omega arith))

wires_size : (n l m : ℕ) (t u : List ℕ) → length (laid (λ i. line_of (row_in n l m (n + 1) 3 t u i)) (2 * n)) ≤ field_bytes * 3 * (2 * n)
wires_size n l m t u =
    laid_long (λ i. line_of (row_in n l m (n + 1) 3 t u i)) (field_bytes * 3) (2 * n) (λ i h. row_long n l m (n + 1) 3 t u i (omega arith))

publics_size : (n k : ℕ) (t : List ℕ) → length (laid (λ i. line_of (public_in n t i)) k) ≤ field_bytes * k
publics_size n k t = laid_long (λ i. line_of (public_in n t i)) field_bytes k (λ i h. public_long n t i)

-- where the lines of the gates begin, those of the wire values and the public inputs; the buffer keeps its length
gates_at : (c : After-put_numbers-gates) → (c.put_numbers-gates.result ≤ field_bytes * 3) × (length c.put_numbers-gates.new.out ≡ 65536)
gates_at c = (
  omega (arith, c.put_numbers-gates.ensures.place, line_size c.args.p c.args.n c.args.l c.args.m),
  omega (arith, c.put_numbers-gates.auto.out, c.requires.1),
)

publics_at : (c : After-put_rows-publics)
    → (c.put_rows-publics.result ≤ field_bytes * (3 + (gate_fields + 3) * (2 * c.args.n))) × (length c.put_rows-publics.new.out ≡ 65536)
publics_at c =
    let a = c.args in (
      omega (
        arith,
        c.put_numbers-gates.ensures.place,
        line_size a.p a.n a.l a.m,
        c.put_rows-witness.ensures.place,
        gates_size a.n a.l a.m a.first.now a.second.now,
        c.put_rows-publics.ensures.place,
        wires_size a.n a.l a.m a.first.now a.second.now,
      ),
      omega (arith, c.put_numbers-gates.auto.out, c.put_rows-witness.auto.out, c.put_rows-publics.auto.out, c.requires.1),
    )

pub put_rows-witness-requires : goal.put_rows-witness-requires
put_rows-witness-requires c =
    let far = gates_at (goal.at.put_rows-witness-requires c).After-put_numbers-gates in
    (gate_lines c.requires.0, omega (arith, far.0, far.1, c.requires.0.few))

pub put_rows-publics-requires : goal.put_rows-publics-requires
put_rows-publics-requires c =
    let a = c.args in
    let far = gates_at (goal.at.put_rows-publics-requires c).After-put_numbers-gates in (
      wire_lines c.requires.0,
      omega (
        arith,
        far.0,
        far.1,
        c.put_rows-witness.ensures.place,
        gates_size a.n a.l a.m a.first.now a.second.now,
        c.put_rows-witness.auto.out,
        c.requires.0.few,
      ),
    )

pub put_publics-others-requires : goal.put_publics-others-requires
put_publics-others-requires c =
    let P = c.requires.0 in
    let far = publics_at (goal.at.put_publics-others-requires c).After-put_rows-publics in
    (omega (arith, P.few), P.one_few, P.one_long, omega (arith, far.0, far.1, P.few, P.one_few))

pub put_publics-challenges-requires : goal.put_publics-challenges-requires
put_publics-challenges-requires c =
    let a = c.args in
    let P = c.requires.0 in
    let far = publics_at (goal.at.put_publics-challenges-requires c).After-put_rows-publics in (
      omega (arith, P.few),
      P.two_few,
      P.two_long,
      omega (
        arith,
        far.0,
        far.1,
        c.put_publics-others.ensures.place,
        publics_size a.n a.l a.first.now,
        c.put_publics-others.auto.out,
        P.few,
        P.one_few,
        P.two_few,
      ),
    )

pub put_words-requires : goal.put_words-requires
put_words-requires c =
    let a = c.args in
    let P = c.requires.0 in
    let far = publics_at (goal.at.put_words-requires c).After-put_rows-publics in (
      before_labels _ P.one_long (omega (arith, P.few, P.one_few)) (omega arith),
      omega arith,
      omega (
        arith,
        far.0,
        far.1,
        c.put_publics-others.ensures.place,
        publics_size a.n a.l a.first.now,
        c.put_publics-others.auto.out,
        c.put_publics-challenges.ensures.place,
        publics_size a.n a.m a.second.now,
        c.put_publics-challenges.auto.out,
        P.few,
        P.one_few,
        P.two_few,
      ),
    )

pub returns : goal.returns
returns c =
    puts_both c.put_numbers-gates.ensures
    (puts_both c.put_rows-witness.ensures
    (puts_both c.put_rows-publics.ensures
    (puts_both c.put_publics-others.ensures (puts_both c.put_publics-challenges.ensures c.put_words.ensures))))
