use Rattle.gate_layout.proofs.LawLemmas.{placed_is}
use Rattle.track_layout.specs.Tracks.{on_tracks}
use Rattle.track_layout.proofs.Placing.{tracks_placed}
use Rattle.track_layout.proofs.laws.compact_tables_are_well_formed.Goals as goal

pub returns : goal.returns
returns c tracks count are =
    let list = c.args.circuit.now in
    let facts = c.circuit_facts.ensures in
    placed_is list (on_tracks list tracks count) facts.nets facts.inputs facts.outputs (tracks_placed list tracks count facts.nets facts.outputs are)
