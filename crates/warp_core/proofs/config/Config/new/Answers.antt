use Rattle.std.proofs.Common.{refl, subst}
use Rattle.warp_core.specs.FirstRegions.{AreFirst}
use Rattle.surf_kinds.specs.Keys.{origin}
use Rattle.warp_core.proofs.Machine.First.{first_core_is, first_config}
use Rattle.warp_core.proofs.config.Config.new.Goals as goal

pub returns-clause-first : goal.returns-clause-first
returns-clause-first c = first_core_is c.args.plan.now c.args.start.now c.args.cut c.args.until (record { alloc = c.args.alloc; cut = c.args.cut; until = c.args.until; horizon = origin; committed = c.new.result; regions = c.in_ok-regions.regions }) c.requires.lattice c.requires.cut c.count.ensures.cut c.requires.species c.requires.fresh c.requires.until refl refl refl c.new.ensures.items (subst (λ k. AreFirst c.args.start.now k k c.in_ok-regions.regions.items) c.count.ensures.count c.in_ok-regions.ensures)

pub returns-clause-config : goal.returns-clause-config
returns-clause-config c = first_config c.args.plan.now c.args.start.now c.args.cut c.args.until (record { alloc = c.args.alloc; cut = c.args.cut; until = c.args.until; horizon = origin; committed = c.new.result; regions = c.in_ok-regions.regions }) c.requires.lattice c.requires.cut c.count.ensures.cut c.requires.species c.requires.fresh c.requires.until refl refl refl c.new.ensures.items (subst (λ k. AreFirst c.args.start.now k k c.in_ok-regions.regions.items) c.count.ensures.count c.in_ok-regions.ensures)
