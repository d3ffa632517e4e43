use Rattle.timeline.specs.TimelineView.{events_of}
use Rattle.warp_core.specs.Backs.{back_puts}
use Rattle.warp_core.proofs.Machine.Vectors.{Putting}
use Rattle.warp_core.proofs.outboxes.take_back.Given as goal

abbrev pub invariant-loop-l : goal.invariant-loop-l
invariant-loop-l l = Putting (back_puts l.cut l.region l.key (events_of l.entries)) l.fn.outboxes.items l.outboxes.items l.l
