use Rattle.crew.proofs.NewRings.{stay_on}
use Rattle.crew.proofs.making.join_all.Goals as goal

pub loop-i-preserved : goal.loop-i-preserved
loop-i-preserved c = (c.in_ok-join_neighbours.ensures.joined, stay_on c.args.regions.now c.loop-i.regions c.join_neighbours.new.regions c.loop-i.invariant.1 c.in_ok-join_neighbours.ensures.first)
