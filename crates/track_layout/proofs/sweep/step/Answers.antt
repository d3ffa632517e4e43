use Rattle.std.proofs.Common.{sym}
use Rattle.track_layout.proofs.Steps.{no_net}
use Rattle.track_layout.proofs.sweep.step.Goals as goal

pub returns-in-None-clause-swept : goal.returns-in-None-clause-swept
returns-in-None-clause-swept c =
    no_net c.args.circuit.now c.args.sweep.now.tracks.items c.args.sweep.now.count c.args.col _ c.requires.some c.requires.col (sym c.in-None.ensures.net) c.requires.swept
