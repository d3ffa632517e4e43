use Rattle.track_layout.proofs.Unique.{one_list}
use Rattle.track_layout.proofs.laws.tracks_are_one_list.Goals as goal

pub returns : goal.returns
returns c tracks others count more are also = one_list c.args.circuit.now tracks others count more are also
