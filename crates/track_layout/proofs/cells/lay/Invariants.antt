use Rattle.std.proofs.Common.{◌≡◌, ℕ, ◌+◌, ◌<◌, length, Some, None, get_or, if◌then◌else◌}
use Rattle.std.specs.Prelude.{nat_le, nat_lt, ◌&&◌}
use Rattle.track_layout.proofs.cells.lay.Given as goal

abbrev pub invariant-loop-cell : goal.invariant-loop-cell
invariant-loop-cell l =
    record {
      still : l.to + 1 < l.from → l.cell ≡ l.from;
      size : length l.cells.items ≡ length l.fn.cells.items;
      each : (i : ℕ) → get_or l.cells.items i None ≡ (if nat_le l.from i && nat_lt i l.cell then Some l.net else get_or l.fn.cells.items i None);
    }
