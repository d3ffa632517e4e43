use Rattle.regions.specs.Seen.{is_told}
use Rattle.warp_core.specs.Parts.{fire_puts}
use Rattle.warp_core.proofs.Machine.Vectors.{Putting}
use Rattle.warp_core.proofs.outboxes.tell.Given as goal

abbrev pub invariant-loop-l : goal.invariant-loop-l
invariant-loop-l l = Putting (fire_puts (is_told l.cut) l.event) l.fn.outboxes.items l.outboxes.items l.l
