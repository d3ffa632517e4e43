use Rattle.track_layout.proofs.Steps.{rise, no_rise}
use Rattle.track_layout.proofs.sweep.begin.Goals as goal

pub returns-then-col-eq4-clause-swept : goal.returns-then-col-eq4-clause-swept
returns-then-col-eq4-clause-swept c =
    rw c.next_track-track.ensures.tracks (rise c.args.circuit.now c.args.sweep.now.tracks.items c.args.sweep.now.count c.next_track-track.new.sweep.count c.args.col c.args.net c.next_track-track.result _ _
    c.requires.nets c.requires.net c.if-col-eq4.true c.requires.swept c.next_track-track.ensures.next)

pub returns-else-col-eq4-clause-swept : goal.returns-else-col-eq4-clause-swept
returns-else-col-eq4-clause-swept c = no_rise c.args.circuit.now c.args.sweep.now.tracks.items c.args.sweep.now.count c.args.col _ c.if-col-eq4.false c.requires.swept
