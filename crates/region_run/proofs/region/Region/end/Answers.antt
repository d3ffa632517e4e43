use Rattle.std.proofs.Common.{refl}
use Rattle.region_run.proofs.Applies.{ended}
use Rattle.region_run.proofs.Spares.{side_self}
use Rattle.region_run.proofs.Works.{works_none, works_end, is_at_end}
use Rattle.region_run.proofs.region.Region.end.Goals as goal

pub returns-in-Some-clause-works : goal.returns-in-Some-clause-works
returns-in-Some-clause-works c n b x g = works_none n b c.args.until x c.args.self.now 0 g

pub returns-in-Some-clause-left : goal.returns-in-Some-clause-left
returns-in-Some-clause-left c n b x g = (c.in-Some._event, c.in-Some.ensures.some n b x g)

pub returns-in-None-clause-works : goal.returns-in-None-clause-works
returns-in-None-clause-works c n b x g =
    works_end n b c.args.until x c.args.self.now _ g (ended n b c.args.until x c.args.self.now g (c.in-None.ensures.none n b x g)) (side_self c.args.self.now.first, side_self c.args.self.now.second)

pub returns-in-None-clause-left : goal.returns-in-None-clause-left
returns-in-None-clause-left c n b x g = is_at_end n b c.args.until x c.args.self.now _ (ended n b c.args.until x c.args.self.now g (c.in-None.ensures.none n b x g)) refl
