use Rattle.std.proofs.Common.{Option, Some, refl, sym, ap, subst, ◌∙◌}
use Rattle.surf_kinds.specs.declared.site.SpeciesId.{SpeciesId}
use Rattle.lattice.specs.Places.{IsPlace, sites_of}
use Rattle.surface_state.specs.Changes.{applied, IsSecondOf, IsLeft}
use Rattle.surface_state.specs.SurfaceView.{SurfaceView}
use Rattle.surface_state.proofs.Undoing.{left_applied}
use Rattle.surface_state.proofs.tests.an_event_is_taken_back.Goals as goal

pub apply-before-requires-clause-place : goal.apply-before-requires-clause-place
unfolding sites_of
apply-before-requires-clause-place g c =
    subst (λ (v : SurfaceView). IsPlace v.lattice 1) (sym c.in_ok-surface.ensures) (subst (λ l. IsPlace l 1) (sym c.in_ok-lattice.ensures.ok) refl)

pub apply-before-requires-clause-pair : goal.apply-before-requires-clause-pair
unfolding sites_of
apply-before-requires-clause-pair g c =
    subst (λ (v : SurfaceView). IsSecondOf {X = SpeciesId} v.lattice 1 (Some (record { 0 = 0 }))) (sym c.in_ok-surface.ensures) (subst (λ l. IsSecondOf {X = SpeciesId} l 1 (Some (record { 0 = 0 }))) (sym c.in_ok-lattice.ensures.ok) refl)

pub undo-requires-clause-left : goal.undo-requires-clause-left
undo-requires-clause-left g c =
    let to : SpeciesId × Option SpeciesId = (record { 0 = 2 }, Some (record { 0 = 0 })) in
    subst (λ (v : SurfaceView). IsLeft v c.apply-before.result)
    (sym (c.apply-before.ensures.surface ∙ ap (λ e. applied c.in_ok-surface.surface e to) (sym c.apply-before.ensures.event)))
    (left_applied c.in_ok-surface.surface c.apply-before.result to c.apply-before.ensures.stood)
