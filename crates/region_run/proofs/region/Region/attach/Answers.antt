use Rattle.std.proofs.Common.{refl}
use Rattle.region_run.proofs.Renumbered.{renumbered}
use Rattle.region_run.proofs.Roomier.{given_other}
use Rattle.region_run.proofs.region.Region.attach.Goals as goal

pub returns-then-is_neighbour-clause-region : goal.returns-then-is_neighbour-clause-region
returns-then-is_neighbour-clause-region c n b until x g =
    renumbered n b until x c.args.self.now c.give.new.side c.args.self.now.second (given_other c.args.self.now.first c.give.new.side _ c.give.ensures) (λ l. refl) g

pub returns-then-is_neighbour-2-clause-region : goal.returns-then-is_neighbour-2-clause-region
returns-then-is_neighbour-2-clause-region c n b until x g =
    renumbered n b until x c.args.self.now c.args.self.now.first c.give-then-is_neighbour-2.new.side (λ l. refl) (given_other c.args.self.now.second c.give-then-is_neighbour-2.new.side _ c.give-then-is_neighbour-2.ensures) g
