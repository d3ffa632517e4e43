-- The crew of a run of a manifest.
use Rattle.std.specs.Prelude.{◌≡◌, ℕ, length}
use Rattle.lattice.specs.Surface.{first_surface}
use Rattle.plan.specs.Network.{Network}
use Rattle.surface_state.specs.SurfaceView.{SurfaceView}
use Rattle.regions.specs.Bands.{cut_for}
use Rattle.crew.specs.Crews.{CrewView}
use Rattle.manifest_read.specs.declared.manifest.Manifest.{Manifest}
use Rattle.surface_top.specs.declared.run.RunOptions.{RunOptions}

-- the plan of a manifest with a seed, and its first surface

abbrev pub network_of : ℕ → Manifest → Network
network_of seed m = record { lattice = m.lattice; rules = m.rules; seed = seed }

abbrev pub first_of : Manifest → SurfaceView
first_of m = record { lattice = m.lattice; species_count = length m.names; sites = first_surface m.cells }

-- The crew runs this plan from this first surface up to a tick, with the bands, the quota and the slots of the options.
pub record IsCrewFor (n : Network) (tick : ℕ) (first : SurfaceView) (o : RunOptions) (c : CrewView) : Type 0 where
  pub network : c.network ≡ n
  pub bands : c.bands ≡ cut_for n.lattice o.workers
  pub start : c.start ≡ first
  pub until : c.until ≡ tick
  pub quota : c.quota ≡ o.quota
  pub slots : c.slots ≡ o.slots
