use Rattle.std.proofs.Common.{sym, subst}
use Rattle.warp_core.specs.declared.region.Region.{Region}
use Rattle.warp_core.specs.Grounds.{IsGround}
use Rattle.warp_core.proofs.Machine.Alike.{ground_alike, below_alike}
use Rattle.warp_core.proofs.region.Region.enter.Goals as goal

pub apply-requires-clause-ground : goal.apply-requires-clause-ground
apply-requires-clause-ground c =
    let w = c.requires.ground in
    (w.0, w.1, w.2, ground_alike c.args.plan.now w.0 w.1 w.2 c.args.self.now c.reserve.new.self c.reserve.ensures.alike w.3, below_alike w.1 c.args.event c.args.self.now c.reserve.new.self c.reserve.ensures.alike w.4)

pub returns-then-own-clause-ground : goal.returns-then-own-clause-ground
returns-then-own-clause-ground c cells past base g all =
    let a = c.reserve.ensures.alike in
    let after = c.apply.ensures.ground cells past base (ground_alike c.args.plan.now cells past base c.args.self.now c.reserve.new.self a g) (below_alike past c.args.event c.args.self.now c.reserve.new.self a all) in
    subst (λ (r : Region). IsGround c.args.plan.now cells past base r.timeline.entries r.surface) (sym c.tell.ensures.same) after

pub returns-else-own-clause-ground : goal.returns-else-own-clause-ground
returns-else-own-clause-ground c cells past base g all =
    let a = c.reserve.ensures.alike in
    c.apply.ensures.ground cells past base (ground_alike c.args.plan.now cells past base c.args.self.now c.reserve.new.self a g) (below_alike past c.args.event c.args.self.now c.reserve.new.self a all)
