use Rattle.region_run.proofs.Delivering.{one_looked, other_looked, both_know, known_tied, one_spare, other_spare}
use Rattle.region_run.specs.Regions.{ends_with}
use Rattle.region_run.proofs.deliveries.look.Goals as goal

pub returns-clause-one : goal.returns-clause-one
returns-clause-one c = one_looked c.args.one.now c.args.other.now c.meet_regions.new.one c.meet_regions.new.other c.meet_regions.ensures

pub returns-clause-other : goal.returns-clause-other
returns-clause-other c = other_looked c.args.one.now c.args.other.now c.meet_regions.new.one c.meet_regions.new.other c.meet_regions.ensures

pub returns-clause-ties : goal.returns-clause-ties
returns-clause-ties c =
    known_tied (ends_with c.meet_regions.new.one c.meet_regions.new.other.id) (ends_with c.meet_regions.new.other c.meet_regions.new.one.id)
    (both_know c.args.one.now c.args.other.now c.meet_regions.new.one c.meet_regions.new.other c.meet_regions.ensures)

pub returns-clause-known : goal.returns-clause-known
returns-clause-known c = both_know c.args.one.now c.args.other.now c.meet_regions.new.one c.meet_regions.new.other c.meet_regions.ensures

pub returns-clause-spare : goal.returns-clause-spare
returns-clause-spare c = one_spare c.args.one.now c.args.other.now c.meet_regions.new.one c.meet_regions.new.other c.meet_regions.ensures

pub returns-clause-other_spare : goal.returns-clause-other_spare
returns-clause-other_spare c = other_spare c.args.one.now c.args.other.now c.meet_regions.new.one c.meet_regions.new.other c.meet_regions.ensures
