use Rattle.std.proofs.Common.{refl}
use Rattle.crew.proofs.Begins.{ready_first, are_first}
use Rattle.crew.proofs.crew.Crew.new.Goals as goal

pub invariant_of-result : goal.invariant_of-result
invariant_of-result c = ready_first _ (are_first _ c.args.start.now c.in_ok-copy.ensures refl c.requires.fresh c.count.ensures.cut c.requires.cut c.requires.until c.in_ok-regions.ensures.first) c.requires.quota.0 c.requires.quota.1 refl refl
