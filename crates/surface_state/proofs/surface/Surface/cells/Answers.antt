use Rattle.std.proofs.Common.{sym, ◌∙◌}
use Rattle.surface_state.proofs.Columns.{states-species}
use Rattle.surface_state.proofs.surface.Surface.cells.Goals as goal

pub returns-clause-cells : goal.returns-clause-cells
returns-clause-cells c =
    rw (← c.self.view_is)
    (c.deref.ensures.value ∙ sym (states-species c.self.inside.species.items c.self.inside.marks.items (c.self.invariant.marks_long ∙ sym c.self.invariant.species_long)))
