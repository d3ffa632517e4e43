use Rattle.std.proofs.Common.{sym, ◌∙◌, arith}
use Rattle.std.proofs.lemmas.Grind.{common_steps}
use Rattle.lattice.proofs.Steps.{east_of_north}
use Rattle.lattice.proofs.grid.Lattice.north_east.Goals as goal

pub east-requires : goal.east-requires
east-requires c =
    let north = east_of_north c.args.self.now c.args.site c.in-Some.north c.requires.site (sym c.north.ensures ∙ c.in-Some.is) in
    record { site = north.0; col = c.requires.col ∙ north.1 }

pub returns-in-Some : goal.returns-in-Some
returns-in-Some c =
    let north = east_of_north c.args.self.now c.args.site c.in-Some.north c.requires.site (sym c.north.ensures ∙ c.in-Some.is) in
    grind (arith, common_steps, north)
