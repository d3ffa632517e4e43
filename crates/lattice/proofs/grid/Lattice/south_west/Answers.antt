use Rattle.std.proofs.Common.{sym, ◌∙◌, arith}
use Rattle.std.proofs.lemmas.Grind.{common_steps}
use Rattle.lattice.proofs.Steps.{south_of_west}
use Rattle.lattice.proofs.grid.Lattice.south_west.Goals as goal

pub south-requires : goal.south-requires
south-requires c = record { site = (south_of_west c.args.self.now c.args.site c.in-Some.west c.requires.site (sym c.west.ensures ∙ c.in-Some.is)).0 }

pub returns-in-Some : goal.returns-in-Some
returns-in-Some c =
    let west = south_of_west c.args.self.now c.args.site c.in-Some.west c.requires.site (sym c.west.ensures ∙ c.in-Some.is) in
    grind (arith, common_steps, west)
