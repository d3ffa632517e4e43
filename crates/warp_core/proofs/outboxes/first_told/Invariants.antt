use Rattle.std.proofs.Common.{◌≡◌, drop}
use Rattle.timeline.specs.TimelineView.{events_of}
use Rattle.warp_core.specs.Backs.{is_told_of_own}
use Rattle.warp_core.proofs.Machine.Scans.{scan_of}
use Rattle.warp_core.proofs.outboxes.first_told.Given as goal

abbrev pub invariant-loop-i : goal.invariant-loop-i
invariant-loop-i l = scan_of (is_told_of_own l.cut l.region l.l) l.key (events_of l.entries) ≡ scan_of (is_told_of_own l.cut l.region l.l) l.key (events_of (drop l.i l.entries))
