use Rattle.std.proofs.Common.{◌≡◌, ◌+◌, ◌≤◌, drop, length}
use Rattle.region_run.specs.Starts.{received_entries_below}
use Rattle.region_run.proofs.region.Region.received_below.Given as goal

abbrev pub invariant-loop-i : goal.invariant-loop-i
invariant-loop-i l = record {
  count : l.received + length (received_entries_below l.key (drop l.i l.entries)) ≡ length (received_entries_below l.key l.entries);
  few : l.received ≤ l.i;
}
