-- How entries lead from one surface to another.
use Rattle.std.specs.Prelude.{◌≡◌, List, [], ◌∷◌, Option}
use Rattle.surf_kinds.specs.declared.site.SpeciesId.{SpeciesId}
use Rattle.surface_state.specs.SurfaceView.{SurfaceView}
use Rattle.surface_state.specs.Changes.{applied, IsBefore, IsBelow}
use Rattle.timeline.specs.declared.entry.Entry.{Entry}

-- the entry's event, with some species as its products, took the surface s to now, and the entry keeps what stood at
-- its sites
pub record IsStep (s : SurfaceView) (e : Entry) (now : SurfaceView) : Type 0 where
  pub products : SpeciesId × Option SpeciesId
  pub stood : IsBefore s e.before
  pub known : IsBelow s.species_count e.before
  pub left : now ≡ applied s e.before.event products

-- the entries, one after another, took the surface s to now
abbrev pub LedTo : SurfaceView → List Entry → SurfaceView → Type 0
LedTo s [] now = now ≡ s
LedTo s (e ∷ entries) now = (next : SurfaceView) × IsStep s e next × LedTo next entries now
