-- A run of which the events are counted alone.
use Rattle.std.specs.Prelude.{◌≡◌, ◌+◌, List, [], length, All}
use Rattle.surf_kinds.specs.declared.site.SiteState.{SiteState}
use Rattle.plan.specs.Network.{Network}
use Rattle.plan.specs.Products.{LeavesWithin}
use Rattle.surface_state.specs.SurfaceView.{SurfaceView}
use Rattle.one_engine.specs.Running.{IsSettled}
use Rattle.run_writer.specs.declared.counting.RunEnd.{RunEnd}
use Rattle.run_writer.specs.Cuts.{surface_after}
use Rattle.run_writer.specs.RunText.{Scene, Reached, events_of}
use Rattle.run_writer.specs.StressText.{last_time}

-- a surface on which events of the network can happen one after the other
pub record GoesOn (n : Network) (v : SurfaceView) : Type 0 where
  pub lattice : v.lattice ≡ n.lattice
  pub species : All (LeavesWithin v.species_count) n.rules
  pub settled : All IsSettled v.sites

-- how far a run has come, of which no surface is shown
abbrev pub counted_of : SurfaceView → RunEnd → Reached
counted_of v end = record { sites = v.sites; events = end.events; ticks = [] }

-- A run that has come to one surface and one that has come to another end alike: with as many events in all, with the same
-- last one, and with the same surface.
pub record EndsAlike (s : Scene) (v : List SiteState) (a : RunEnd) (u : List SiteState) (b : RunEnd) : Type 0 where
  pub count : a.events + length (events_of s v) ≡ b.events + length (events_of s u)
  pub last : last_time a.last (events_of s v) ≡ last_time b.last (events_of s u)
  pub sites : surface_after s v (events_of s v) ≡ surface_after s u (events_of s u)
