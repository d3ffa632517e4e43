use Rattle.std.proofs.Common.{Some, refl, sym, subst}
use Rattle.surf_kinds.specs.declared.site.SpeciesId.{SpeciesId}
use Rattle.lattice.specs.Places.{IsPlace, sites_of}
use Rattle.surface_state.specs.Changes.{IsSecondOf}
use Rattle.surface_state.specs.SurfaceView.{SurfaceView}
use Rattle.surface_state.proofs.tests.an_event_rewrites_its_sites.Goals as goal

pub apply-requires-clause-place : goal.apply-requires-clause-place
unfolding sites_of
apply-requires-clause-place g c =
    subst (λ (v : SurfaceView). IsPlace v.lattice 1) (sym c.in_ok-surface.ensures) (subst (λ l. IsPlace l 1) (sym c.in_ok-lattice.ensures.ok) refl)

pub apply-requires-clause-pair : goal.apply-requires-clause-pair
unfolding sites_of
apply-requires-clause-pair g c =
    subst (λ (v : SurfaceView). IsSecondOf {X = SpeciesId} v.lattice 1 (Some (record { 0 = 0 }))) (sym c.in_ok-surface.ensures) (subst (λ l. IsSecondOf {X = SpeciesId} l 1 (Some (record { 0 = 0 }))) (sym c.in_ok-lattice.ensures.ok) refl)
