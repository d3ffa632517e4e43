-- The simulation on a lattice that is cut into regions, as a world of the core.
use Rattle.std.specs.Prelude.{ℕ, List}
use Rattle.surf_kinds.specs.declared.event.Event.{Event}
use Rattle.surf_kinds.specs.declared.site.SiteState.{SiteState}
use Rattle.surf_kinds.specs.declared.site.SpeciesId.{SpeciesId}
use Rattle.lattice.specs.Surface.{after, first_surface}
use Rattle.plan.specs.Network.{Network}
use Rattle.plan.specs.Next.{next}
use Rattle.plan.specs.History.{history}
use Rattle.plan.specs.Products.{fits_place}
use Rattle.regions.specs.Bands.{Bands, owner_of}
use Rattle.regions.specs.Seen.{sees, is_told}
use Rattle.warp_core.specs.World.{World}

-- the surface after an event
abbrev pub surface_after : Network → List SiteState → Event → List SiteState
surface_after n sites e = after n.lattice n.rules sites e

-- the network on a lattice that is cut, from a first surface to a last tick
abbrev pub world_of : Network → Bands → ℕ → List SiteState → World
world_of n b until start =
    record {
      start = start;
      until = until;
      after = surface_after n;
      next = λ p sites. next n sites p;
      history = history n until start;
      regions = b.count;
      owner = owner_of b;
      sees = sees b;
      told = is_told b;
      fits = λ e. fits_place n e.place.0 e.channel;
    }

-- What a run is set up with beside the network: the cut, the last tick, and the first species.
pub record Setting : Type 0 where
  pub bands : Bands
  pub until : ℕ
  pub cells : List SpeciesId

abbrev pub world_in : Network → Setting → World
world_in n s = world_of n s.bands s.until (first_surface s.cells)
