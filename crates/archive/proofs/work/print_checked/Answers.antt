-- `archive::work::print_checked` meets its contract: the lines of the polynomials, and that of the verdict. Assumes nothing.
use mathlib.Core.Path.{subst}
use native.Mathlib.Omega.{arith}
use Rattle.pointcheck.specs.declared.Judged.{Judged}
use Rattle.archive.specs.Printed.{judged_text}
use Rattle.text.specs.Puts.{Puts, puts_both}
use Rattle.archive.specs.Lines.{transcript_fits}
use Rattle.archive.specs.Work.{laid_lines}
use Rattle.archive.proofs.work.print_checked.Goals as goal

pub put_transcript-next-requires : goal.put_transcript-next-requires
put_transcript-next-requires c = laid_lines _ c.requires.0 c.requires.1

pub put_judged-requires : goal.put_judged-requires
put_judged-requires c =
    omega (arith, c.put_transcript-next.ensures.place, c.put_transcript-next.auto, transcript_fits c.args.e c.args.n c.requires.0.blinded c.requires.0.few c.args.transcript.now c.requires.0.transcript-right.long, c.requires.1)

pub returns : goal.returns
returns c =
    puts_both c.put_transcript-next.ensures
    (subst (λ (v : Judged). Puts c.put_transcript-next.result (judged_text v) c.put_transcript-next.new.out c.put_judged.result c.put_judged.new.out) c.judge-verdict.ensures c.put_judged.ensures)
