use Rattle.std.proofs.Common.{None, refl, sym, subst}
use Rattle.surf_kinds.specs.declared.site.SpeciesId.{SpeciesId}
use Rattle.lattice.specs.Places.{IsPlace, sites_of}
use Rattle.surface_state.specs.Changes.{IsSecondOf}
use Rattle.surface_state.specs.SurfaceView.{SurfaceView}
use Rattle.surface_state.proofs.tests.a_copy_stays_as_it_is.Goals as goal

pub apply-requires-clause-place : goal.apply-requires-clause-place
unfolding sites_of
apply-requires-clause-place g c =
    subst (λ (v : SurfaceView). IsPlace v.lattice 8) (sym c.in_ok-surface.ensures) (subst (λ l. IsPlace l 8) (sym c.in_ok-lattice.ensures.ok) refl)

pub apply-requires-clause-pair : goal.apply-requires-clause-pair
unfolding sites_of
apply-requires-clause-pair g c =
    subst (λ (v : SurfaceView). IsSecondOf {X = SpeciesId} v.lattice 8 (None)) (sym c.in_ok-surface.ensures) (subst (λ l. IsSecondOf {X = SpeciesId} l 8 (None)) (sym c.in_ok-lattice.ensures.ok) refl)
