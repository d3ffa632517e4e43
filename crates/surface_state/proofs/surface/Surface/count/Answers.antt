use Rattle.std.proofs.Common.{sym, ap, subst, ◌∙◌, ◌<◌, get_or}
use Rattle.surface_state.specs.SurfaceView.{SurfaceView}
use Rattle.surface_state.proofs.Columns.{states-count}
use Rattle.surface_state.proofs.surface.Surface.count.Goals as goal

pub returns : goal.returns
returns c =
    rw (← c.self.view_is)
    (c.index.ensures ∙ ap (λ k. get_or c.self.inside.counts.items k c.index.result.now) c.from.ensures ∙ c.self.invariant.counted c.args.species.0 c.index.result.now (subst (λ (v : SurfaceView). c.args.species.0 < v.species_count) (sym c.self.view_is) c.requires)
    ∙ sym (states-count c.self.inside.species.items c.self.inside.marks.items c.args.species.0 (c.self.invariant.marks_long ∙ sym c.self.invariant.species_long)))
