-- What holds of an engine between its calls.
use Rattle.std.specs.Prelude.{◌≡◌, ℕ, ◌*◌, ◌^◌, ◌≤◌, Bool, true, List, All}
use Rattle.surf_kinds.specs.declared.site.SiteState.{SiteState}
use Rattle.surf_kinds.specs.declared.event.Event.{Event}
use Rattle.lattice.specs.Places.{IsPlace}
use Rattle.lattice.specs.Surface.{IsChannelOf, HasRoom}
use Rattle.event_queue.specs.QueueView.{QueueView}
use Rattle.plan.specs.Network.{Network}
use Rattle.surface_state.specs.SurfaceView.{SurfaceView}
use Rattle.next_events.specs.Entries.{all_places, CoversRange, AreUpToDate}
use Rattle.plan.specs.Products.{LeavesWithin}

-- every place is one of the queue's
abbrev pub each_place : ℕ → Bool
each_place place = true

-- the site was rewritten at most seven times a tick, and the last time by tick 10 ^ 15
pub record IsSettled (s : SiteState) : Type 0 where
  pub version : s.version ≤ 7 * s.last
  pub last : s.last ≤ 10 ^ 15

-- the queue has the next event of every place
pub record IsRunning (n : Network) (s : SurfaceView) (q : QueueView) : Type 0 where
  pub lattice : s.lattice ≡ n.lattice
  pub species : All (LeavesWithin s.species_count) n.rules
  pub settled : All IsSettled s.sites
  pub covers : CoversRange (all_places n.lattice) q
  pub up_to_date : AreUpToDate n s.sites each_place q

-- the event's place and channel are there, and the sites have room for it
pub record CanFire (n : Network) (sites : List SiteState) (e : Event) : Type 0 where
  pub place : IsPlace n.lattice e.place.0
  pub channel : IsChannelOf n.rules e.channel
  pub has_room : HasRoom n.lattice sites e.place.0
