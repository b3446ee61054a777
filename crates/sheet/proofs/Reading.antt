-- From the decision and the blocks that are laid out to what `read` promises.
--
-- buffers          the lent buffers have the right lengths, where no reason applies
-- ready            the table is full, for the n and l that were found
-- read_accepted    no reason applies, and the blocks of the table are laid out
--
-- Assumes nothing.
use Rattle.std.specs.Prelude.{◌≡◌, cond, List, [], ◌∷◌, ℕ, length, Ok}
use Rattle.std.proofs.Common.{refl, sym, ap, subst, ◌∙◌, arith}
use Rattle.field.specs.Reasons.{outcome, Reason, answer_of}
use Rattle.circuit.specs.Buffers.{selectors_length, labels_length, witness_length}
use Rattle.sheet.specs.declared.Sheet.{Sheet}
use Rattle.sheet.specs.Sheet.{sheet_rows, sheet_n, sheet_l, sheet_of, sheet_blinded, on_selectors, on_labels, on_witness, on_publics, sheet_lengths, sheet_reasons}
use Rattle.sheet.specs.Table.{table_length, Full, Room, Laid, selectors_in, labels_in, witness_in, publics_in}
use Rattle.sheet.specs.Deciding.{Decides, Taken, taken_of}
use Rattle.sheet.specs.Promises.{Reads}
use Rattle.sheet.proofs.BlockLaws.{padded_same}
use Rattle.sheet.specs.TableLaws.{selectors_same, labels_same, witness_same, publics_same, drawn_same}
use Rattle.sheet.proofs.Decided.{full_of, roomy}

module _ (s selectors labels witness publics challenges : List ℕ) (f : Sheet) (t : List ℕ)
    (d : Decides s (sheet_reasons s (length selectors) (length labels) (length witness) (length publics) (length challenges)) (outcome (Ok f)) t) where
  abbrev lengths : Reason
  lengths = sheet_lengths s (length selectors) (length labels) (length witness) (length publics) (length challenges)

  is : f ≡ sheet_of s
  is = cc d.value

  taken : Taken s × ((answer_of (lengths ∷ [])).number ≡ 0)
  taken = taken_of s (lengths ∷ []) (omega arith, tt) (ap (λ a. a.number) (sym d.answer))

  pub buffers : Room selectors labels witness publics challenges
  buffers = roomy s selectors labels witness publics challenges taken.1

  module _ (long : length t ≡ table_length) where
    filled : Full (sheet_n s) (sheet_l s) t
    filled = full_of t taken.0.shape long

    pub ready : Full f.n f.l t
    ready = rw is filled

    pub read_accepted : (e : ℕ) → e ≡ cond f.blinded 1 0 → (selectors' labels' witness' publics' challenges' : List ℕ)
        → Laid e f.n f.l t selectors' labels' witness' publics' challenges'
        → Reads s selectors labels witness publics challenges (outcome (Ok f)) selectors' labels' witness' publics' challenges'
    read_accepted e some selectors' labels' witness' publics' challenges' laid =
        let same : Laid (sheet_blinded s (sheet_n s) (sheet_l s)) (sheet_n s) (sheet_l s) t selectors' labels' witness' publics' challenges' =
        subst (λ (g : Sheet). Laid (cond g.blinded 1 0) g.n g.l t selectors' labels' witness' publics' challenges') is (rw (← some) laid)
        in
        let held = d.held refl in
        let n = sheet_n s in
        let l = sheet_l s in
        record {
          answer = d.answer;
          value = d.value;
          selectors-laid = same.selectors-laid ∙ padded_same (selectors_length sheet_rows) (selectors_length n) (selectors_in t n) (on_selectors s n l) (selectors_same s n l t filled held);
          labels-laid = same.labels-laid ∙ padded_same (labels_length sheet_rows) (labels_length n) (labels_in t n) (on_labels s n l) (labels_same s n l t filled held);
          witness-laid = same.witness-laid ∙ padded_same (witness_length sheet_rows) (witness_length n) (witness_in t n) (on_witness s n l) (witness_same s n l t filled held);
          publics-laid = same.publics-laid ∙ padded_same sheet_rows l (publics_in t n l) (on_publics s n l) (publics_same s n l t filled held);
          challenges_laid = same.challenges_laid ∙ drawn_same s n l t filled held;
        }
