use Rattle.std.proofs.Common.{arith}
use Rattle.track_layout.proofs.Steps.{all_taken}
use Rattle.track_layout.proofs.sweep.tracks_of.Goals as goal

pub returns : goal.returns
returns c =
    all_taken c.args.circuit.now c.loop-col.sweep.tracks.items c.loop-col.sweep.count c.loop-col.col _ _ (omega (arith, c.loop-col-test.false, c.column_count-columns.ensures.count)) c.loop-col.invariant.swept
