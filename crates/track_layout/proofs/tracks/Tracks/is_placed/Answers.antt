use Rattle.gate_layout.specs.Placed.{IsPlaced}
use Rattle.std.proofs.Common.{subst}
use Rattle.track_layout.specs.Tracks.{placing}
use Rattle.track_layout.proofs.Placing.{tracks_placed}
use Rattle.track_layout.proofs.tracks.Tracks.is_placed.Goals as goal

pub returns : goal.returns
returns c =
    let t = c.self.inside in
    let facts = c.circuit_facts.ensures in
    subst (λ v. IsPlaced v.list (placing v)) c.self.view_is (tracks_placed t.circuit.now t.tracks.items t.count facts.nets facts.outputs c.self.invariant.0)
