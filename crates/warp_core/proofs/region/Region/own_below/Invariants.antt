use Rattle.std.proofs.Common.{◌≡◌, ◌++◌, drop}
use Rattle.timeline.specs.TimelineView.{events_of}
use Rattle.warp_core.specs.Regions.{own_below}
use Rattle.warp_core.proofs.region.Region.own_below.Given as goal

abbrev pub invariant-loop-entry : goal.invariant-loop-entry
invariant-loop-entry l = l.events.items ++ own_below l.cut l.region l.key (events_of (drop l.entry-index l.entry-items)) ≡ own_below l.cut l.region l.key (events_of l.entry-items)
