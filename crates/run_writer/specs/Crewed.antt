-- A run by a crew, and how far it has come.
use Rattle.std.specs.Prelude.{◌≡◌, ℕ, ◌+◌, ◌<◌, List, length, if◌then◌else◌}
use Rattle.surf_kinds.specs.declared.event.Event.{Event}
use Rattle.surf_kinds.specs.declared.site.SiteState.{SiteState}
use Rattle.surf_kinds.specs.Keys.{below, same_key}
use Rattle.lattice.specs.Surface.{after_all}
use Rattle.warp_core.specs.World.{end_key}
use Rattle.crew.specs.Crews.{CrewView, world_in}
use Rattle.run_writer.specs.RunText.{Scene, Reached, events_of}

-- the first surface of a crew's run, and the events that it has handed out

abbrev pub first_in : CrewView → List SiteState
first_in c = (world_in c).start

abbrev pub handed_by : CrewView → List Event
handed_by c = below c.horizon (world_in c).history

-- The crew runs the scene, which has come as far as the events that the crew has handed out.
pub record IsAlong (s : Scene) (c : CrewView) (r : Reached) : Type 0 where
  pub network : c.network ≡ s.network
  pub until : c.until ≡ s.until
  pub reached : r.sites ≡ after_all c.network.lattice c.network.rules (world_in c).start (below c.horizon (world_in c).history)
  pub count : r.events ≡ length (below c.horizon (world_in c).history)

-- the crew has handed out more events than the limit
abbrev pub IsPastLimit : Scene → CrewView → Type 0
IsPastLimit s c = s.limit < length (below c.horizon (world_in c).history)

-- The two are one crew at two times: both are made of the same plan, bands, start and settings.
pub record IsSameCrew (old new : CrewView) : Type 0 where
  pub network : new.network ≡ old.network
  pub bands : new.bands ≡ old.bands
  pub start : new.start ≡ old.start
  pub until : new.until ≡ old.until
  pub quota : new.quota ≡ old.quota
  pub slots : new.slots ≡ old.slots

-- at most so many rounds are left: one for each event that is still due, and one without events
abbrev pub rounds_left : Scene → CrewView → List SiteState → ℕ
rounds_left s c sites = length (events_of s sites) + (if same_key c.horizon (end_key (world_in c)) then 0 else 1)
