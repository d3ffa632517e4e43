use Rattle.std.proofs.Common.{sym, ap, subst, ◌<◌, ◌*◌, ◌∙◌}
use Rattle.lattice.specs.Places.{sites_of}
use Rattle.lattice.proofs.LawLemmas.{first_below, second_below}
use Rattle.surface_state.specs.SurfaceView.{SurfaceView}
use Rattle.surface_state.proofs.surface.Surface.undo.Goals as goal

pub put-requires-clause-site : goal.put-requires-clause-site
put-requires-clause-site c =
    first_below c.args.self.now.lattice c.args.before.event.place.0 c.unwrap-place.result
    (ap (λ (v : SurfaceView). sites_of v.lattice c.args.before.event.place.0) (sym c.self.view_is) ∙ sym c.sites_of.ensures ∙ c.unwrap-place.ensures)

pub put-requires-in-Some-Some-clause-site : goal.put-requires-in-Some-Some-clause-site
put-requires-in-Some-Some-clause-site c =
    subst (λ (v : SurfaceView). c.in-Some-Some.site.0 < v.lattice.rows * v.lattice.cols) (sym c.put.ensures)
    (second_below c.args.self.now.lattice c.args.before.event.place.0 c.unwrap-place.result c.in-Some-Some.site
    (ap (λ (v : SurfaceView). sites_of v.lattice c.args.before.event.place.0) (sym c.self.view_is) ∙ sym c.sites_of.ensures ∙ c.unwrap-place.ensures) c.in-Some-Some.is-0)
