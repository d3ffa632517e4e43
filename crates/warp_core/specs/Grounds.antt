-- The surface of a region: entries that lead to it from a base, each undone in turn.
use Rattle.std.specs.Prelude.{◌≡◌, ◌^◌, ◌≤◌, List, [], ◌∷◌, ◌++◌, All}
use Rattle.surf_kinds.specs.declared.event.Event.{Event}
use Rattle.surf_kinds.specs.declared.event.Key.{Key}
use Rattle.surf_kinds.specs.declared.site.SpeciesId.{SpeciesId}
use Rattle.surf_kinds.specs.Keys.{AllKeys, IsRising}
use Rattle.lattice.specs.Shape.{Shape}
use Rattle.lattice.specs.Places.{IsPlace}
use Rattle.lattice.specs.Surface.{after_all, first_surface}
use Rattle.plan.specs.Network.{Network}
use Rattle.plan.specs.Products.{LeavesWithin}
use Rattle.surface_state.specs.SurfaceView.{SurfaceView}
use Rattle.timeline.specs.declared.entry.Entry.{Entry}
use Rattle.timeline.specs.TimelineView.{events_of}
use Rattle.timeline.specs.Led.{IsStep}
use Rattle.warp_core.specs.Simulation.{surface_after}

-- the entry's event, with the products of its channel, took the surface s to now
pub record IsStepBy (n : Network) (s : SurfaceView) (e : Entry) (now : SurfaceView) : Type 0 where
  pub step : IsStep s e now
  pub after : now ≡ record s { sites = surface_after n s.sites e.before.event }

-- the entries, one after another, took the surface s to now
abbrev pub RunTo : Network → SurfaceView → List Entry → SurfaceView → Type 0
RunTo n s [] now = now ≡ s
RunTo n s (e ∷ es) now = (next : SurfaceView) × IsStepBy n s e next × RunTo n next es now

-- a tick at which an event may come
abbrev pub IsTimely : Key → Type 0
IsTimely k = (1 ≤ k.time) × (k.time ≤ 10 ^ 15)

-- The base is the first surface after past events, the entries lead from it to the surface s, and all keys rise.
pub record IsGround (n : Network) (cells : List SpeciesId) (past : List Event) (base : SurfaceView) (es : List Entry) (s : SurfaceView) : Type 0 where
  pub lattice : base.lattice ≡ n.lattice
  pub species : All (LeavesWithin base.species_count) n.rules
  pub start : base.sites ≡ after_all n.lattice n.rules (first_surface cells) past
  pub rising : IsRising (past ++ events_of es)
  pub timely : AllKeys IsTimely (past ++ events_of es)
  pub run : RunTo n base es s

-- the entries are at places of the lattice
abbrev pub ArePlaces : Shape → List Entry → Type 0
ArePlaces l [] = Unit {0}
ArePlaces l (e ∷ es) = IsPlace l e.before.event.place.0 × ArePlaces l es
