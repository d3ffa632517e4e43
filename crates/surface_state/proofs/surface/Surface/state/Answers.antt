use Rattle.std.proofs.Common.{Some, get_or, sym, ap, subst, ◌<◌, ◌*◌, ◌∙◌, arith}
use Rattle.surface_state.specs.Columns.{state_of}
use Rattle.surface_state.specs.SurfaceView.{SurfaceView}
use Rattle.surface_state.proofs.Columns.{states-get}
use Rattle.surface_state.proofs.surface.Surface.state.Goals as goal

pub returns-clause-state : goal.returns-clause-state
returns-clause-state c =
    let species = c.self.inside.species.items in
    let marks = c.self.inside.marks.items in
    let within : c.args.site.0 < c.self.inside.lattice.rows * c.self.inside.lattice.cols = subst (λ (v : SurfaceView). c.args.site.0 < v.lattice.rows * v.lattice.cols) (sym c.self.view_is) c.requires in
    rw (← c.self.view_is)
    (states-get species marks c.args.site.0 c.index.result.now c.index-mark.result.now (omega (arith, within, c.self.invariant.species_long)) (omega (arith, within, c.self.invariant.marks_long))
    ∙ ap (λ s. Some (state_of s (get_or marks c.args.site.0 c.index-mark.result.now))) (sym c.index.ensures)
    ∙ ap (λ m. Some (state_of c.index.result.now m)) (sym c.index-mark.ensures))
