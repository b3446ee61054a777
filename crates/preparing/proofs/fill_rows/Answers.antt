-- Behind the selectors there is room for a tag of each position.
use Rattle.std.proofs.Common.{◌∙◌, length, arith}
use Rattle.algebra.specs.Ends.{rest_length}
use Rattle.circuit.specs.RightlyLent.{labels_of}
use Rattle.preparing.proofs.fill_rows.Goals as goal

pub wired_tags-requires : goal.wired_tags-requires
wired_tags-requires c =
    let labels = c.requires.labels in
    let copied = c.copy in (
      labels_of _ c.args.labels.now labels c.args.domain.now.admissible,
      labels.long,
      rest_length (length c.args.selectors.now) c.args.out.now copied.new.to (omega arith) copied.auto.to ∙ omega arith,
    )
