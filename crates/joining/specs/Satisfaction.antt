-- The joined circuit: that it is one, that its wiring keeps the two sheets apart, and that it is satisfied exactly if both are.
--
-- joined_circuit       the joined constraints are a circuit, of 2n rows with the public inputs of both
-- wiring_apart         the joined wiring never leads from one sheet's positions to the other's
-- both_of, joined_of   the joined contents satisfy the joined circuit with the joined public inputs exactly if both did
--
-- Assumes nothing.
use Rattle.std.specs.Prelude.{◌≡◌, ◌⊎◌, true, false, List, ◌++◌, leb, get_or}
use Rattle.std.proofs.Math.Path.{refl, sym}
use Rattle.std.proofs.Common.{ap, subst, ◌∙◌, inl, inr, true≢false, mod-lt, div-lt_iff_lt-mul, arith, length-append, get_or-append-add, le-leb}
use Prim.Native.Nat.{ℕ, ◌+◌, ◌*◌, ◌/◌, ◌%◌, ◌≤◌, ◌<◌, pred}
use Rattle.std.proofs.Math.ListN.{get_or-append, get_or-eq_default}
use Rattle.std.proofs.lemmas.Bool.{lt-leb}
use Rattle.algebra.specs.Ends.{run_room}
use Rattle.algebra.specs.Tables.{get_or-tab}
use Rattle.field.specs.Primes.{rows-power}
use Rattle.circuit.specs.Circuit.{Circuit, position, is_public, is_public_row, permutation, gate}
use Rattle.circuit.specs.Buffers.{selector_count}
use Rattle.circuit.specs.Permutation.{permutation_perm, permutation-label}
use Rattle.circuit.specs.Witness.{lent_laid}
use Rattle.joining.specs.Joining.{Numbers, constraints_of, public_of, witness_of, Satisfied, source_row, from_row, from_second, joined_at, joined_numbers}
use Rattle.joining.specs.Rows.{source_one, source_two, source_three, source_four, by_kind, Below, source_below, Stands, one_stands, two_stands, joined_word, joined_position, at_one, at_two}
use Rattle.joining.specs.Deciding.{Filled, Joinable}

-- a gate, from what stands in its row
abbrev gate_of : (p q_l q_r q_o q_m q_c a b c x : ℕ) → ℕ
gate_of p q_l q_r q_o q_m q_c a b c x = (q_l * a + q_r * b + q_o * c + q_m * a * b + q_c + pred p * x) % p

-- TWO SHEETS OF n ROWS OVER p, WITH l AND m PUBLIC INPUTS

module _ (p n l m : ℕ) (selectors labels witness publics challenges selectors' labels' witness' publics' challenges' : List ℕ) where
  abbrev A : Numbers
  A =
      record { p = p; n = n; l = l; selectors = selectors; labels = labels; witness = witness; publics = publics; challenges = challenges }

  abbrev B : Numbers
  B =
      record { p = p; n = n; l = m; selectors = selectors'; labels = labels'; witness = witness'; publics = publics'; challenges = challenges' }

  abbrev J : Numbers
  J = joined_numbers A B

  abbrev source : ℕ → ℕ ⊎ ℕ
  source i = source_row n l m i

  -- selector s of a row is that of the row it comes from
  selector : (s i : ℕ) → s < selector_count → i < 2 * n
      → get_or J.selectors (position (2 * n) s i) 0 ≡ from_row (λ r. get_or selectors (position n s r) 0) (λ r. get_or selectors' (position n s r) 0) (source i)
  selector s i h k = joined_word n l m selector_count (λ k. get_or selectors k 0) (λ k. get_or selectors' k 0) s i h k

  label_at : (k : ℕ) → k < 3 * (2 * n) → (constraints_of J).label k ≡ joined_at n l m (λ k. get_or labels k 0) (λ k. 3 * n + get_or labels' k 0) k
  label_at k h = get_or-tab (joined_at n l m (λ k. get_or labels k 0) (λ k. 3 * n + get_or labels' k 0)) (3 * (2 * n)) k h

  witness_at : (k : ℕ) → k < 3 * (2 * n) → witness_of J k ≡ joined_at n l m (witness_of A) (witness_of B) k
  witness_at k h = lent_laid (2 * n) (joined_at n l m (witness_of A) (witness_of B)) k h

  wire : (c i : ℕ) → c < 3 → i < 2 * n
      → witness_of J (position (2 * n) c i) ≡ from_row (λ r. witness_of A (position n c r)) (λ r. witness_of B (position n c r)) (source i)
  wire c i h k =
      witness_at (position (2 * n) c i) (omega (arith, run_room c 3 (2 * n) h)) ∙ joined_position n l m (witness_of A) (witness_of B) c i k

  module _ (one : Filled A) (two : Filled B) (some : 0 < n) where
    few : l ≤ n
    few = one.circuit-right.circuit.publics_few

    few' : m ≤ n
    few' = two.circuit-right.circuit.publics_few

    rowed : (k : ℕ) → k % (2 * n) < 2 * n
    rowed k = mod-lt k (omega arith)

    columned : (k : ℕ) → k < 3 * (2 * n) → k / (2 * n) < 3
    columned k h = let pos : 0 < 2 * n = omega arith in (div-lt_iff_lt-mul {x = k} {y = 3} pos).1 h

    -- the position in a column and a row below n
    within : (c r : ℕ) → c < 3 → r < n → position n c r < 3 * n
    within c r h k = omega (arith, run_room c 3 n h)

    -- PUBLIC INPUTS

    public_at : (i : ℕ) → i < 2 * n → public_of J i ≡ from_row (public_of A) (public_of B) (source i)
    public_at =
        by_kind n l m few few' (λ i. public_of J i ≡ from_row (public_of A) (public_of B) (source i))
        (λ r h. rw (source_one n l m r h) (get_or-append publics publics' 0 r (omega (arith, one.publics-right.long))))
        (λ r h. rw (source_two n l m r h, ← one.publics-right.long) (get_or-append-add publics publics' r 0))
        (λ r g h. rw (source_three n l m r g h) (past (r + m) (omega arith) ∙ sym (get_or-eq_default publics 0 (omega (arith, one.publics-right.long)))))
        (λ r g h. rw (source_four n l m r few g) (past (n + r) (omega arith) ∙ sym (get_or-eq_default publics' 0 (omega (arith, two.publics-right.long)))))
      where
        past : (i : ℕ) → l + m ≤ i → public_of J i ≡ 0
        past i h =
            get_or-eq_default (publics ++ publics') 0 (omega (arith, length-append publics publics', one.publics-right.long, two.publics-right.long))

    -- THE CIRCUIT

    -- a selector of a row, where it is so of each sheet's
    selector_of : (P : ℕ → Type 0) (s i : ℕ) → s < selector_count → i < 2 * n → ((r : ℕ) → r < n → P (get_or selectors (position n s r) 0))
        → ((r : ℕ) → r < n → P (get_or selectors' (position n s r) 0)) → P (get_or J.selectors (position (2 * n) s i) 0)
    selector_of P s i h k f g =
        subst P (sym (selector s i h k)) (picked P (source i) (source_below n l m few few' i k) f g)
      where
        picked : (P : ℕ → Type 0) (t : ℕ ⊎ ℕ) → Below n t → ((r : ℕ) → r < n → P (get_or selectors (position n s r) 0))
            → ((r : ℕ) → r < n → P (get_or selectors' (position n s r) 0))
            → P (from_row (λ r. get_or selectors (position n s r) 0) (λ r. get_or selectors' (position n s r) 0) t)
        picked P (inl r) b f g = f r b
        picked P (inr r) b f g = g r b

    -- the label of a column and a row: of the first it is below 3n, of the second from 3n to below 6n
    label_of : (c : ℕ) → c < 3 → (t : ℕ ⊎ ℕ) → Below n t
        → (from_row (λ r. get_or labels (position n c r) 0) (λ r. 3 * n + get_or labels' (position n c r) 0) t < 3 * (2 * n))
        × (from_row (λ r. false) (λ r. true) t ≡ leb (3 * n) (from_row (λ r. get_or labels (position n c r) 0) (λ r. 3 * n + get_or labels' (position n c r) 0) t))
    label_of c h (inl r) b =
        let low = one.circuit-right.circuit.labels (position n c r) (within c r h b) in
        (omega (arith, low), sym (lt-leb (3 * n) (get_or labels (position n c r) 0) low))
    label_of c h (inr r) b =
        let low = two.circuit-right.circuit.labels (position n c r) (within c r h b) in
        (omega (arith, low), sym (le-leb (3 * n) (3 * n + get_or labels' (position n c r) 0) (omega arith)))

    label_both : (k : ℕ) → k < 3 * (2 * n) → ((constraints_of J).label k < 3 * (2 * n)) × (from_second n l m k ≡ leb (3 * n) ((constraints_of J).label k))
    unfolding joined_at
    label_both k h =
        rw (label_at k h) (label_of (k / (2 * n)) (columned k h) (source (k % (2 * n))) (source_below n l m few few' (k % (2 * n)) (rowed k)))

    public_rows : (i : ℕ) → i < l + m → is_public_row (constraints_of J) i ≡ true
    public_rows i h =
        rw (selector 0 i (omega arith) (omega arith), selector 1 i (omega arith) (omega arith), selector 2 i (omega arith) (omega arith), selector 3 i (omega arith) (omega arith), selector 4 i (omega arith) (omega arith))
        (by_kind n l m few few' (λ i. i < l + m → Public (source i))
        (λ r g u. rw (source_one n l m r g) (one.circuit-right.circuit.public_rows r g))
        (λ r g u. rw (source_two n l m r g) (two.circuit-right.circuit.public_rows r g))
        (λ r f g u. absurd (omega arith))
        (λ r f g u. absurd (omega arith))
        i (omega arith) h)
      where
        Public : ℕ ⊎ ℕ → Type 0
        Public t =
            is_public (pick 0 t) (pick 1 t) (pick 2 t) (pick 3 t) (pick 4 t) ≡ true
          where
            pick : ℕ → ℕ ⊎ ℕ → ℕ
            pick s t = from_row (λ r. get_or selectors (position n s r) 0) (λ r. get_or selectors' (position n s r) 0) t

    joined_right : Circuit p (2 * n) (l + m) (constraints_of J)
    joined_right =
        let a = one.circuit-right.circuit.selectors in
        let b = two.circuit-right.circuit.selectors in
        let P : ℕ → Type 0 = λ q. q < p in
        record {
          publics_few = omega (arith, few, few');
          selectors = λ i h. (
            selector_of P 0 i (omega arith) h (λ r k. (a r k).0) (λ r k. (b r k).0),
            selector_of P 1 i (omega arith) h (λ r k. (a r k).1) (λ r k. (b r k).1),
            selector_of P 2 i (omega arith) h (λ r k. (a r k).2) (λ r k. (b r k).2),
            selector_of P 3 i (omega arith) h (λ r k. (a r k).3) (λ r k. (b r k).3),
            selector_of P 4 i (omega arith) h (λ r k. (a r k).4) (λ r k. (b r k).4),
          );
          labels = λ k h. (label_both k h).0;
          public_rows = public_rows;
        }

    -- THE WIRING

    same_label : (j k : ℕ) → j < 3 * (2 * n) → k < 3 * (2 * n) → (constraints_of J).label j ≡ (constraints_of J).label k
        → from_second n l m j ≡ from_second n l m k
    same_label j k h g e = (label_both j h).1 ∙ ap (leb (3 * n)) e ∙ sym (label_both k g).1

    apart : (k : ℕ) → k < 3 * (2 * n) → from_second n l m (permutation (3 * (2 * n)) (constraints_of J).label k) ≡ from_second n l m k
    apart k h =
        let label : ℕ → ℕ = (constraints_of J).label in
        same_label (permutation (3 * (2 * n)) label k) k ((permutation_perm (3 * (2 * n)) label).into k h) h (permutation-label (3 * (2 * n)) label k h)

    -- THE GATES

    gate_at_lem : (i : ℕ) → i < 2 * n
        → gate p (2 * n) (constraints_of J) (public_of J) (witness_of J) i
        ≡ from_row (gate p n (constraints_of A) (public_of A) (witness_of A)) (gate p n (constraints_of B) (public_of B) (witness_of B)) (source i)
    unfolding gate
    gate_at_lem i h =
        rw (
          selector 0 i (omega arith) h,
          selector 1 i (omega arith) h,
          selector 2 i (omega arith) h,
          selector 3 i (omega arith) h,
          selector 4 i (omega arith) h,
          wire 0 i (omega arith) h,
          wire 1 i (omega arith) h,
          wire 2 i (omega arith) h,
          public_at i h,
        )
        (go (source i))
      where
        go : (t : ℕ ⊎ ℕ) → gate_of p
            (from_row (constraints_of A).q_l (constraints_of B).q_l t)
            (from_row (constraints_of A).q_r (constraints_of B).q_r t)
            (from_row (constraints_of A).q_o (constraints_of B).q_o t)
            (from_row (constraints_of A).q_m (constraints_of B).q_m t)
            (from_row (constraints_of A).q_c (constraints_of B).q_c t)
            (from_row (λ r. witness_of A (position n 0 r)) (λ r. witness_of B (position n 0 r)) t)
            (from_row (λ r. witness_of A (position n 1 r)) (λ r. witness_of B (position n 1 r)) t)
            (from_row (λ r. witness_of A (position n 2 r)) (λ r. witness_of B (position n 2 r)) t)
            (from_row (public_of A) (public_of B) t)
            ≡ from_row (gate p n (constraints_of A) (public_of A) (witness_of A)) (gate p n (constraints_of B) (public_of B) (witness_of B)) t
        go (inl r) = refl
        go (inr r) = refl

    -- SATISFIED

    -- a position of either sheet stands somewhere, with its wire value and its label
    abbrev At : (v label : ℕ → ℕ) → ℕ → Type 0
    At v label k = Stands (3 * (2 * n)) (λ j. (witness_of J j ≡ v k) × ((constraints_of J).label j ≡ label k))

    -- f k for a position of the first, g k for one of the second
    at_of : (pick : (f g : ℕ → ℕ) → ℕ) → Stands (3 * (2 * n)) (λ j. (f g : ℕ → ℕ) → joined_at n l m f g j ≡ pick f g)
        → Stands (3 * (2 * n)) (λ j. (witness_of J j ≡ pick (witness_of A) (witness_of B)) × ((constraints_of J).label j ≡ pick (λ k. get_or labels k 0) (λ k. 3 * n + get_or labels' k 0)))
    at_of pick a =
        record {
          at = a.at;
          within = a.within;
          there = (
            witness_at a.at a.within ∙ a.there (witness_of A) (witness_of B),
            label_at a.at a.within ∙ a.there (λ k. get_or labels k 0) (λ k. 3 * n + get_or labels' k 0),
          );
        }

    one_at : (k : ℕ) → k < 3 * n → At (witness_of A) (λ k. get_or labels k 0) k
    one_at k h = at_of (λ f g. f k) (at_one n l m few few' some k h)

    two_at : (k : ℕ) → k < 3 * n → At (witness_of B) (λ k. 3 * n + get_or labels' k 0) k
    two_at k h = at_of (λ f g. g k) (at_two n l m few few' some k h)

    agree : Satisfied J → (v label : ℕ → ℕ) → ((k : ℕ) → k < 3 * n → At v label k) → (j k : ℕ) → j < 3 * n → k < 3 * n → label j ≡ label k → v j ≡ v k
    agree S v label at j k h g e =
        let a = at j h in
        let b = at k g in
        sym a.there.0 ∙ S.copies a.at b.at a.within b.within (a.there.1 ∙ e ∙ sym b.there.1) ∙ b.there.0

    abbrev gates : ℕ ⊎ ℕ → ℕ
    gates t = from_row (gate p n (constraints_of A) (public_of A) (witness_of A)) (gate p n (constraints_of B) (public_of B) (witness_of B)) t

    both_right : Satisfied J → Satisfied A × Satisfied B
    both_right S = (
      record {
        gates = λ r h.
            let at = one_stands n l m few few' r h in
            sym (ap gates at.there) ∙ sym (gate_at_lem at.at at.within) ∙ S.gates at.at at.within;
        copies = agree S (witness_of A) (λ k. get_or labels k 0) one_at;
      },
      record {
        gates = λ r h.
            let at = two_stands n l m few few' r h in
            sym (ap gates at.there) ∙ sym (gate_at_lem at.at at.within) ∙ S.gates at.at at.within;
        copies = λ j k h g e. agree S (witness_of B) (λ k. 3 * n + get_or labels' k 0) two_at j k h g (ap (λ (a : ℕ). 3 * n + a) e);
      },
    )

    joined_satisfied : Satisfied A → Satisfied B → Satisfied J
    unfolding joined_at
    joined_satisfied S T =
        record {
          gates = λ i h. gate_at_lem i h ∙ hold (source i) (source_below n l m few few' i h);
          copies = λ j k h g e.
              witness_at j h
              ∙ same (j / (2 * n)) (k / (2 * n)) (columned j h) (columned k g) (source (j % (2 * n))) (source (k % (2 * n))) (source_below n l m few few' (j % (2 * n)) (rowed j)) (source_below n l m few few' (k % (2 * n)) (rowed k)) (same_label j k h g e) (sym (label_at j h) ∙ e ∙ label_at k g)
              ∙ sym (witness_at k g);
        }
      where
        hold : (t : ℕ ⊎ ℕ) → Below n t → gates t ≡ 0
        hold (inl r) b = S.gates r b
        hold (inr r) b = T.gates r b

        same : (c d : ℕ) → c < 3 → d < 3 → (t u : ℕ ⊎ ℕ) → Below n t → Below n u → from_row (λ r. false) (λ r. true) t ≡ from_row (λ r. false) (λ r. true) u
            → from_row (λ r. get_or labels (position n c r) 0) (λ r. 3 * n + get_or labels' (position n c r) 0) t
            ≡ from_row (λ r. get_or labels (position n d r) 0) (λ r. 3 * n + get_or labels' (position n d r) 0) u
            → from_row (λ r. witness_of A (position n c r)) (λ r. witness_of B (position n c r)) t
            ≡ from_row (λ r. witness_of A (position n d r)) (λ r. witness_of B (position n d r)) u
        same c d h g (inl r) (inl q) b a s e = S.copies (position n c r) (position n d q) (within c r h b) (within d q g a) e
        same c d h g (inl r) (inr q) b a s e = absurd (true≢false (sym s))
        same c d h g (inr r) (inl q) b a s e = absurd (true≢false s)
        same c d h g (inr r) (inr q) b a s e = T.copies (position n c r) (position n d q) (within c r h b) (within d q g a) (omega arith)

-- THE THEOREMS

module _ (A B : Numbers) (joinable : Joinable A B) where
  some : 0 < A.n
  some = omega (arith, (rows-power A.p (2 * A.n) joinable.admissible.rows).least)

  -- the second sheet with the prime and n of the first, which are its own
  abbrev with : ℕ → ℕ → Numbers
  with p n =
      record { p = p; n = n; l = B.l; selectors = B.selectors; labels = B.labels; witness = B.witness; publics = B.publics; challenges = B.challenges }

  -- what holds of two sheets of one p and one n, by these names, holds of A and B
  carried : (T : Numbers → Type 0) → (Filled (with A.p A.n) → T (with A.p A.n)) → T B
  carried T f =
      subst (λ (p : ℕ). Filled (with p B.n) → T (with p B.n)) joinable.same_p
      (subst (λ (n : ℕ). Filled (with A.p n) → T (with A.p n)) joinable.same_n f) joinable.two

  pub joined_circuit : Circuit A.p (2 * A.n) (A.l + B.l) (constraints_of (joined_numbers A B))
  joined_circuit =
      carried (λ B. Circuit A.p (2 * A.n) (A.l + B.l) (constraints_of (joined_numbers A B)))
      (λ two. joined_right A.p A.n A.l B.l A.selectors A.labels A.witness A.publics A.challenges B.selectors B.labels B.witness B.publics B.challenges joinable.one two some)

  pub wiring_apart : (k : ℕ) → k < 3 * (2 * A.n)
      → from_second A.n A.l B.l (permutation (3 * (2 * A.n)) (constraints_of (joined_numbers A B)).label k) ≡ from_second A.n A.l B.l k
  wiring_apart =
      carried (λ B. (k : ℕ) → k < 3 * (2 * A.n) → from_second A.n A.l B.l (permutation (3 * (2 * A.n)) (constraints_of (joined_numbers A B)).label k) ≡ from_second A.n A.l B.l k)
      (λ two. apart A.p A.n A.l B.l A.selectors A.labels A.witness A.publics A.challenges B.selectors B.labels B.witness B.publics B.challenges joinable.one two some)

  pub both_of : Satisfied (joined_numbers A B) → Satisfied A × Satisfied B
  both_of =
      carried (λ B. Satisfied (joined_numbers A B) → Satisfied A × Satisfied B)
      (λ two. both_right A.p A.n A.l B.l A.selectors A.labels A.witness A.publics A.challenges B.selectors B.labels B.witness B.publics B.challenges joinable.one two some)

  pub joined_of : Satisfied A → Satisfied B → Satisfied (joined_numbers A B)
  joined_of =
      carried (λ B. Satisfied A → Satisfied B → Satisfied (joined_numbers A B))
      (λ two. joined_satisfied A.p A.n A.l B.l A.selectors A.labels A.witness A.publics A.challenges B.selectors B.labels B.witness B.publics B.challenges joinable.one two some)
