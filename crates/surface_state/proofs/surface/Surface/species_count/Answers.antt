use Rattle.std.proofs.Common.{rules, length, ◌<◌, subst}
use Rattle.std.specs.Prelude.{All}
use Rattle.surf_kinds.specs.declared.site.SiteState.{SiteState}
use Rattle.surface_state.specs.Columns.{states}
use Rattle.surface_state.proofs.Columns.{states-All}
use Rattle.surface_state.proofs.surface.Surface.species_count.Goals as goal

pub returns-clause-below : goal.returns-clause-below
returns-clause-below c =
    rw (← c.self.view_is, c.len.ensures) (subst (λ n. All (λ (s : SiteState). s.species.0 < n) (states c.self.inside.species.items c.self.inside.marks.items)) (search rules) (states-All c.self.inside.species.items c.self.inside.marks.items (length c.self.inside.counts.items) c.self.invariant.below))
