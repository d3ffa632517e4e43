use Rattle.std.proofs.Common.{arith}
use Rattle.std.proofs.lemmas.Grind.{common_steps}
use Rattle.warp_core.proofs.Machine.Starts.{first_more}
use Rattle.warp_core.proofs.region.first_regions.Goals as goal

pub loop-preserved : goal.loop-preserved
loop-preserved c = first_more c.args.start.now c.args.count c.loop.counter c.loop.regions.items c.push.new.self.items c.in_ok-region.region c.loop.invariant c.in_ok-region.ensures (grind (arith, common_steps))
