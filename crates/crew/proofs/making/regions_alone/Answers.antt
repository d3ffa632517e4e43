use Rattle.crew.proofs.Firsts.{one_more_made}
use Rattle.crew.proofs.making.regions_alone.Goals as goal

pub loop-i-preserved : goal.loop-i-preserved
loop-i-preserved c = rw c.in_ok-push.ensures.items (one_more_made c.args.plan.now c.args.cut.now c.args.start.now c.loop-i.i c.loop-i.regions.items c.in_ok-region.region c.loop-i.invariant c.in_ok-region.ensures)
