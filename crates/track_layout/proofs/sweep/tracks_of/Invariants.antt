use Rattle.std.proofs.Common.{◌+◌, ◌≤◌, heap_items}
use Rattle.track_layout.specs.Free.{has}
use Rattle.track_layout.specs.Sweep.{IsSwept, BeginsBy}
use Rattle.track_layout.proofs.sweep.tracks_of.Given as goal

abbrev pub invariant-loop-col : goal.invariant-loop-col
invariant-loop-col l =
    record {
      few : l.sweep.count ≤ 65536 + l.col;
      swept : IsSwept l.circuit l.sweep.tracks.items l.sweep.count (has (heap_items l.sweep.free) (λ r. r.0)) (BeginsBy l.circuit l.col) (λ n. l.col);
    }
