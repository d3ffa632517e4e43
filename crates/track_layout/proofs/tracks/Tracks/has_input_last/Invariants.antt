use Rattle.std.proofs.Common.{◌≡◌, ℕ, ◌+◌, ◌<◌}
use Rattle.track_layout.specs.Spans.{first}
use Rattle.track_layout.specs.Tracks.{track_in}
use Rattle.track_layout.proofs.tracks.Tracks.has_input_last.Given as goal

abbrev pub invariant-loop-net : goal.invariant-loop-net
invariant-loop-net l = (n : ℕ) → n < l.net → track_in l.self.tracks n + 1 ≡ l.self.count → 0 < first l.self.list n
