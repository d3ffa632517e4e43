use Rattle.warp_core.proofs.Machine.Alike.{ground_alike}
use Rattle.warp_core.proofs.region.Region.take.Goals as goal

pub returns-clause-ground : goal.returns-clause-ground
returns-clause-ground c n cells past base g =
    c.absorb.ensures.ground n cells past base (ground_alike n cells past base c.args.self.now c.reserve.new.self c.reserve.ensures.alike g)
