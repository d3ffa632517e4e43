use Rattle.std.proofs.Common.{◌≡◌, ◌+◌, ◌≤◌, ◌++◌, drop, length}
use Rattle.std.specs.Prelude.{vec_len, vec_capacity}
use Rattle.region_run.specs.Starts.{own_entries_below}
use Rattle.region_run.proofs.region.Region.own_below.Given as goal

abbrev pub invariant-loop-i : goal.invariant-loop-i
invariant-loop-i l = record {
  items : l.out.items ++ own_entries_below l.key (drop l.i l.entries) ≡ l.fn.out.items ++ own_entries_below l.key l.entries;
  room : vec_len l.out + length l.entries ≤ vec_capacity l.out + l.i;
}
