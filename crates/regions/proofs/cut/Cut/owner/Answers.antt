use Rattle.std.proofs.Common.{sym, ap, ◌∙◌}
use Rattle.regions.specs.Bands.{region_of}
use Rattle.regions.proofs.Owners.{sites_at, owner_is}
use Rattle.regions.proofs.cut.Cut.owner.Goals as goal

pub returns-clause-owner : goal.returns-clause-owner
returns-clause-owner c =
    let p = sites_at c.args.self.now.lattice c.args.place.0 c.requires in
    c.region_of.ensures.region ∙ ap (region_of c.args.self.now) c.row_of.ensures.row ∙ sym (owner_is c.args.self.now c.args.place.0 p.0 p.1)
