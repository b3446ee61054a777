-- The array has room for the prepared circuit, the scratch for that of preparing, and for F.
use Rattle.std.proofs.Common.{◌≤◌, ◌++◌, drop, length, sym, ◌∙◌, arith, length-take-le}
use Rattle.std.proofs.Math.Seq.{length_front}
use Rattle.algebra.specs.Ends.{front_fits}
use Rattle.prover.proofs.Fits.{scratch_fits, filling_fits, prepared_fits}
use Rattle.prover.proofs.fill_f.Goals as goal

pub slice_bounds-prepared-end : goal.slice_bounds-prepared-end
slice_bounds-prepared-end c = prepared_fits c.args.domain.now.admissible _ _ c.prepared_length-k.ensures c.room-prepared.ensures

pub slice_bounds-work-end : goal.slice_bounds-work-end
slice_bounds-work-end c = sym (length-take-le _ _ (prepared_fits c.args.domain.now.admissible _ _ c.prepared_length-k.ensures c.room-prepared.ensures))

pub work-requires : goal.work-requires
work-requires c =
    let R = c.requires.0 in
    let A = c.args.domain.now.admissible in
    let scratch : c.scratch_length-room.result ≤ length c.args.scratch.now = omega (arith, c.scratch_length-room.ensures, scratch_fits R) in
    record {
      admissible = A;
      elements = R.elements;
      labelled = R.labelled;
      written_length = length-take-le _ _ (prepared_fits A _ _ c.prepared_length-k.ensures c.room-prepared.ensures) ∙ c.prepared_length-k.ensures;
      scratch_length_lem = length-take-le _ _ scratch ∙ c.scratch_length-room.ensures;
    }

pub slice_bounds-prepared-end-2 : goal.slice_bounds-prepared-end-2
slice_bounds-prepared-end-2 c =
    front_fits _ _ c.work.new.out (prepared_fits c.args.domain.now.admissible _ _ c.prepared_length-k.ensures c.room-prepared.ensures) c.work.auto.out

pub slice_bounds-fill-end : goal.slice_bounds-fill-end
slice_bounds-fill-end c =
    sym
    (length-take-le _ _
    (front_fits _ _ c.work.new.out (prepared_fits c.args.domain.now.admissible _ _ c.prepared_length-k.ensures c.room-prepared.ensures) c.work.auto.out))

pub fill-requires : goal.fill-requires
fill-requires c =
    let R = c.requires.0 in
    let A = c.args.domain.now.admissible in
    let prepared = front_fits _ _ c.work.new.out (prepared_fits A _ _ c.prepared_length-k.ensures c.room-prepared.ensures) c.work.auto.out in
    let filling : c.f_length-end.result ≤ length (c.work.new.scratch ++ drop c.scratch_length-room.result c.args.scratch.now) =
    omega (arith, length_front c.args.scratch.now c.work.new.scratch c.scratch_length-room.result c.work.auto.scratch, c.f_length-end.ensures, filling_fits R)
    in
    record {
      blinded = R.small;
      elements = R.publics_below;
      prepared_length_lem = length-take-le _ _ prepared ∙ c.prepared_length-k.ensures;
      laid-length = c.requires.1;
      out_length = length-take-le _ _ filling ∙ c.f_length-end.ensures;
    }
