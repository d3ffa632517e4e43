use Rattle.std.proofs.Common.{refl, rules}
use Rattle.region_run.proofs.Roomier.{roomier, roomy_other}
use Rattle.region_run.proofs.region.Region.prepare.Goals as goal

pub returns-in_err-reserve-2-clause-region : goal.returns-in_err-reserve-2-clause-region
returns-in_err-reserve-2-clause-region c n b until x g =
    roomier n b until x c.args.self.now c.reserve.new.self c.reserve-2.new.self c.reserve.ensures.same c.reserve.ensures.entries c.reserve.ensures.items (search rules) c.args.self.now.first c.args.self.now.second (λ l. refl) (λ l. refl) g

pub returns-in_err-reserve_side-clause-region : goal.returns-in_err-reserve_side-clause-region
returns-in_err-reserve_side-clause-region c n b until x g =
    roomier n b until x c.args.self.now c.reserve.new.self c.reserve-2.new.self c.reserve.ensures.same c.reserve.ensures.entries c.reserve.ensures.items (search rules) c.reserve_side.new.side c.args.self.now.second
    (roomy_other c.args.self.now.first c.reserve_side.new.side c.reserve_side.ensures.same) (λ l. refl) g

pub returns-clause-region : goal.returns-clause-region
returns-clause-region c n b until x g =
    roomier n b until x c.args.self.now c.reserve.new.self c.reserve-2.new.self c.reserve.ensures.same c.reserve.ensures.entries c.reserve.ensures.items (search rules) c.reserve_side.new.side c.reserve_side-2.new.side
    (roomy_other c.args.self.now.first c.reserve_side.new.side c.reserve_side.ensures.same) (roomy_other c.args.self.now.second c.reserve_side-2.new.side c.reserve_side-2.ensures.same) g
