use Rattle.std.proofs.Common.{◌≡◌, drop}
use Rattle.timeline.specs.TimelineView.{events_of}
use Rattle.region_run.specs.Sides.{first_told_of}
use Rattle.region_run.proofs.telling.first_told.Given as goal

abbrev pub invariant-loop-i : goal.invariant-loop-i
invariant-loop-i l = first_told_of l.cut l.id l.side l.key (events_of l.entries) ≡ first_told_of l.cut l.id l.side l.key (events_of (drop l.i l.entries))
