use Rattle.std.proofs.Common.{◌≡◌, ℕ, ◌<◌, length, sym, ap, ◌∙◌, subst, Option, Some, None, refl}
use Rattle.plan.specs.Network.{Network}
use Rattle.warp_core.specs.Simulation.{Setting}
use Rattle.warp_core.specs.Configs.{IsConfigOf, IsHome}
use Rattle.warp_core.specs.declared.config.Config.{Config}
use Rattle.warp_core.specs.declared.region.Region.{Region}
use Rattle.warp_core.proofs.Machine.Homes.{home}
use Rattle.warp_core.proofs.Machine.Ground.{ground_lattice, ground_bounds}
use Rattle.warp_core.proofs.Machine.Entries.{some_entry, none_entry}
use Rattle.warp_core.proofs.config.Config.next_entry.Goals as goal

home_of : (n : Network) (c : Config) (i : ℕ) (r : Region) (s : Setting) (g : IsConfigOf n s c) → i < length c.regions.items → r ≡ Rattle.std.proofs.Common.slice_index_or c.regions.items i r → IsHome n s c.horizon c.committed.items i r
home_of n c i r s g inside is = home n s c.horizon c.committed.items c.regions.items g.setting g.count g.consistent g.homes i r inside is

pub next_entry-requires-clause-lattice : goal.next_entry-requires-clause-lattice
next_entry-requires-clause-lattice c =
    let w = c.requires.config in
    let h = home_of c.args.plan.now c.args.self.now c.args.region c.index-here.result.now w.0 w.1 c.requires.region c.index-here.ensures in
    ground_lattice c.args.plan.now w.0.cells h.past h.base c.index-here.result.now.timeline.entries c.index-here.result.now.surface h.ground

pub next_entry-requires-clause-bounds : goal.next_entry-requires-clause-bounds
next_entry-requires-clause-bounds c =
    let w = c.requires.config in
    let h = home_of c.args.plan.now c.args.self.now c.args.region c.index-here.result.now w.0 w.1 c.requires.region c.index-here.ensures in
    ground_bounds c.args.plan.now w.0.cells h.past h.base c.index-here.result.now.timeline.entries c.index-here.result.now.surface h.ground

pub returns-clause-some : goal.returns-clause-some
returns-clause-some c s g = some_entry c.args.plan.now c.args.self.now c.args.region c.index-here.result.now s g c.requires.region c.index-here.ensures c.next_entry.result c.next_entry.ensures

pub returns-clause-none : goal.returns-clause-none
returns-clause-none c s g = none_entry c.args.plan.now c.args.self.now c.args.region c.index-here.result.now s g c.requires.region c.index-here.ensures c.next_entry.result c.next_entry.ensures
