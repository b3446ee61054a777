-- Each block is passed after those before it.
use Rattle.std.proofs.Common.{◌≡◌, ◌++◌, ◌+◌, length, sym, ap, ◌∙◌, append_assoc, length-append}
use Rattle.algebra.specs.Lists.{tab}
use Rattle.algebra.specs.Tables.{length-tab}
use Rattle.field.specs.Reasons.{first_above}
use Rattle.field.specs.ReasonLaws.{further}
use Rattle.sheet.specs.Sheet.{challenge_count}
use Rattle.sheet.specs.Table.{in_table}
use Rattle.sheet.proofs.numbers.elements.Goals as goal

pub returns : goal.returns
returns c =
    let p = c.args.p in
    let t = c.args.table.now in
    let s = c.selectors_length-selectors.ensures in
    let w = c.witness_length.ensures in
    let one = tab (in_table t c.selectors.result) c.selectors.result.count in
    let two = one ++ tab (in_table t c.witness.result) c.witness.result.count in
    let three = two ++ tab (in_table t c.publics.result) c.publics.result.count in
    let four = three ++ tab (in_table t c.challenges.result) c.challenges.result.count in
    let long-one : c.selectors_length-selectors.result ≡ length one = s ∙ sym (length-tab _ _ ∙ rw c.selectors.ensures) in
    let long-two : c.selectors_length-selectors.result + c.witness_length.result ≡ length two = rw (s, w) (simp (length-append, length-tab) (rw (c.selectors.ensures, c.witness.ensures))) in
    let long-three : c.selectors_length-selectors.result + c.witness_length.result + c.args.l ≡ length three =
    rw (s, w) (simp (length-append, length-tab) (rw (c.selectors.ensures, c.witness.ensures, c.publics.ensures)))
    in
    let long-four : c.selectors_length-selectors.result + c.witness_length.result + c.args.l + challenge_count ≡ length four =
    rw (s, w) (simp (length-append, length-tab) (rw (c.selectors.ensures, c.witness.ensures, c.publics.ensures, c.challenges.ensures)))
    in
    let at_two = further p one _ _ _ _ c.above-a.ensures long-one c.then_above-b.ensures in
    let at-three = further p two _ _ _ _ at_two long-two c.then_above-c.ensures in
    let at-four = further p three _ _ _ _ at-three long-three c.then_above-d.ensures in
    further p four _ _ _ _ at-four long-four c.then_above.ensures
    ∙ ap (first_above p) (rw (c.selectors.ensures, c.witness.ensures, c.publics.ensures, c.challenges.ensures, c.blinders.ensures) (simp append_assoc))
