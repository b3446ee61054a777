-- `archive::print_read` meets its contract: what stands at the start of each buffer is lent on. Assumes nothing.
use mathlib.Core.Path.{◌≡◌, sym, subst}
use mathlib.Core.List.{List}
use Prim.Native.Nat.{ℕ, ◌+◌, ◌*◌, ◌-◌}
use native.Mathlib.Omega.{arith}
use lib.ListN.{take, drop}
use lib.Seq.{length-take-le}
use Rattle.circuit.specs.Buffers.{blinder_count, selectors_length, labels_length, witness_length}
use Rattle.sheet.specs.Sheet.{challenge_count}
use Rattle.archive.specs.Work.{Workable}
use Rattle.archive.specs.Printed.{work_text}
use Rattle.text.specs.Puts.{Puts}
use Rattle.archive.proofs.print_read.Goals as goal

cut : (e p n l : ℕ) (s w v x c d : List ℕ) {i j k m : ℕ} → i ≡ selectors_length n → j ≡ labels_length n → k ≡ witness_length n → m ≡ blinder_count * e → work_text e p n l (take i s) (take j w) (take k v) x c (take m d) ≡ work_text e p n l (take (selectors_length n) s) (take (labels_length n) w) (take (witness_length n) v) x c (take (blinder_count * e) d)
cut e p n l s w v x c d f g h i = rw (f, g, h, i)

pub slice_bounds-print_work-end : goal.slice_bounds-print_work-end
slice_bounds-print_work-end c =
    sym (length-take-le _ _ (omega (arith, c.selectors_length-selectors_end.ensures, c.requires.n_in_bounds.0)))

pub slice_bounds-print_work-end-2 : goal.slice_bounds-print_work-end-2
slice_bounds-print_work-end-2 c =
    sym (length-take-le _ _ (omega (arith, c.labels_length-labels_end.ensures, c.requires.n_in_bounds.1)))

pub slice_bounds-print_work-end-3 : goal.slice_bounds-print_work-end-3
slice_bounds-print_work-end-3 c =
    sym (length-take-le _ _ (omega (arith, c.witness_length-witness_end.ensures, c.requires.n_in_bounds.2)))

pub slice_bounds-print_work-end-4 : goal.slice_bounds-print_work-end-4
slice_bounds-print_work-end-4 c = sym (length-take-le _ _ c.requires.n_in_bounds.3)

pub slice_bounds-print_work-end-5 : goal.slice_bounds-print_work-end-5
slice_bounds-print_work-end-5 c =
    sym (length-take-le challenge_count c.args.drawn.now (omega (arith, c.requires.workable.1)))

pub slice_bounds-print_work-end-6 : goal.slice_bounds-print_work-end-6
slice_bounds-print_work-end-6 c = omega (arith, c.requires.workable.1, c.requires.workable.0.blinded)

pub print_work-requires : goal.print_work-requires
print_work-requires c =
    let a = c.args in
    subst (λ (m : ℕ). Workable a.e a.p a.n (take challenge_count a.drawn.now) (take m (drop challenge_count a.drawn.now)) a.text.now) (sym ((let it : challenge_count + blinder_count * c.args.e - challenge_count ≡ blinder_count * c.args.e = omega arith in it))) c.requires.workable.0

pub returns : goal.returns
returns c =
    let a = c.args in
    subst (λ (b : List ℕ). Puts 0 b a.text.now c.print_work.result c.print_work.new.text)
    (cut a.e a.p a.n a.l a.selectors.now a.labels.now a.witness.now _ _ (drop challenge_count a.drawn.now) c.selectors_length-selectors_end.ensures c.labels_length-labels_end.ensures c.witness_length-witness_end.ensures ((let it : challenge_count + blinder_count * c.args.e - challenge_count ≡ blinder_count * c.args.e = omega arith in it)))
    c.print_work.ensures
