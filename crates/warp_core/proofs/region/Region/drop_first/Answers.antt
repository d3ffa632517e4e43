use Rattle.std.proofs.Common.{◌≡◌, arith, drop}
use Rattle.std.proofs.lemmas.Grind.{common_steps}
use Rattle.warp_core.proofs.Machine.Vectors.{items_dropped}
use Rattle.warp_core.proofs.region.Region.drop_first.Goals as goal

pub returns-clause-outboxes : goal.returns-clause-outboxes
returns-clause-outboxes c l =
    let less : c.remove.new.self.items ≡ drop 1 c.index_mut.result.now.items = grind (arith, common_steps) in
    items_dropped c.args.self.now.outboxes.items c.args.to c.index_mut.result.now c.remove.new.self c.requires.to c.index_mut.ensures.value less l
