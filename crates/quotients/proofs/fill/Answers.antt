-- The three parts of F are added to zeros.
use Rattle.std.proofs.Common.{ap, ◌∙◌, ℕ, replicate}
use Rattle.circuit.specs.Buffers.{f_length}
use Rattle.protocol.specs.Protocol.{poly_f}
use Rattle.quotients.proofs.SumLaws.{from_zeros, then}
use Rattle.quotients.proofs.fill.Goals as goal

pub returns : goal.returns
unfolding poly_f
returns c =
    from_zeros (f_length c.args.e c.args.domain.now.n)
    (c.fill.ensures.after (λ y h. h) ∙ ap (λ (m : ℕ). replicate m 0) c.requires.out_length)
    (then (then c.add_public_gate.ensures record { sum = c.add_step.ensures }) c.add_start.ensures)
