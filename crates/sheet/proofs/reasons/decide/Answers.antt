-- What the first line says is what reading the lines behind it asks.
use Rattle.sheet.proofs.Decided.{begun}
use Rattle.sheet.proofs.reasons.decide.Goals as goal

pub decide_behind-requires : goal.decide_behind-requires
decide_behind-requires c =
    let opened = c.in_ok-first.ensures.opened in
    (begun _ _ _ _ _ opened.0 _ opened.1 c.requires.0, c.requires.1, c.requires.2)
