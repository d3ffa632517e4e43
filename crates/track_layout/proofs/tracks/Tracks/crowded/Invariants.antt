use Rattle.std.proofs.Common.{◌≡◌, ℕ, ◌+◌, ◌<◌}
use Rattle.gate_layout.specs.Nets.{net_of}
use Rattle.track_layout.specs.Tracks.{track_in}
use Rattle.track_layout.proofs.tracks.Tracks.crowded.Given as goal

abbrev pub invariant-loop-gate : goal.invariant-loop-gate
invariant-loop-gate l = (g : ℕ) → g < l.gate → track_in l.self.tracks (net_of l.self.list.nets g) + 1 ≡ l.self.count → ⊥
