use Rattle.track_layout.proofs.Turns.{list_of, turns_are_tracks}
use Rattle.track_layout.proofs.laws.circuits_have_tracks.Goals as goal

pub returns-clause-list : goal.returns-clause-list
returns-clause-list c = list_of c.args.circuit.now

pub returns-clause-tracks : goal.returns-clause-tracks
returns-clause-tracks c = turns_are_tracks c.args.circuit.now c.circuit_facts.ensures.nets
