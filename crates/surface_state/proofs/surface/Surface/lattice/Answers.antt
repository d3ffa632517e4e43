use Rattle.surface_state.proofs.Columns.{long_of}
use Rattle.surface_state.proofs.surface.Surface.lattice.Goals as goal

pub returns-clause-sites : goal.returns-clause-sites
returns-clause-sites c =
    rw (← c.self.view_is) (long_of c.self.inside.lattice c.self.inside.species.items c.self.inside.marks.items c.self.inside.counts.items c.self.invariant)
