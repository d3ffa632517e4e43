use Rattle.std.proofs.Common.{◌≡◌, ℕ, ◌≤◌, length, false, heap_items}
use Rattle.track_layout.specs.Free.{has}
use Rattle.track_layout.specs.Sweep.{IsSwept, IsInputBy, seen}
use Rattle.track_layout.proofs.sweep.inputs.Given as goal

abbrev pub invariant-loop-net : goal.invariant-loop-net
invariant-loop-net l =
    record {
      few : l.sweep.count ≤ l.net;
      none : (k : ℕ) → has (heap_items l.sweep.free) (λ r. r.0) k ≡ false;
      swept : IsSwept l.circuit l.sweep.tracks.items l.sweep.count (has (heap_items l.sweep.free) (λ r. r.0)) (IsInputBy l.circuit l.net) (λ n. 0);
    }

abbrev pub invariant-loop-input : goal.invariant-loop-input
invariant-loop-input l =
    record {
      few : l.sweep.count ≤ 65536;
      swept : IsSwept l.circuit l.sweep.tracks.items l.sweep.count (has (heap_items l.sweep.free) (λ r. r.0)) (IsInputBy l.circuit (length l.circuit.nets)) (seen l.input);
    }
