-- Where a run begins, and what stands when it has ended.
use Rattle.std.specs.Prelude.{◌≡◌, ℕ, ◌^◌, ◌≤◌, List, length, All, Option, Result, OnOk, IsErrOf}
use Rattle.surf_kinds.specs.declared.site.SpeciesId.{SpeciesId}
use Rattle.surf_kinds.specs.Keys.{origin}
use Rattle.surf_outside.specs.Causes.{Rose}
use Rattle.surf_outside.specs.Known.{AppendsPrefix}
use Rattle.lattice.specs.Surface.{first_surface}
use Rattle.plan.specs.Products.{LeavesWithin}
use Rattle.warp_core.specs.World.{end_key}
use Rattle.crew.specs.Crews.{CrewView, world_in}
use Rattle.run_writer.specs.declared.pages.Stop.{Stop}
use Rattle.run_writer.specs.declared.pages.Stop.TheVariants as stop
use Rattle.run_writer.specs.Crewed.{IsPastLimit, IsSameCrew}
use Rattle.run_writer.specs.RunText.{Scene, run_text}
use Rattle.run_writer.specs.Stops.{IsLimited, RunGains}

-- the crew stands at the beginning of the run of a scene
pub record MayRun (s : Scene) (c : CrewView) : Type 0 where
  pub lattice : c.start.lattice ≡ s.network.lattice
  pub species_count : c.start.species_count ≡ length s.names
  pub species : All (LeavesWithin c.start.species_count) s.network.rules
  pub first : (cells : List SpeciesId) × (c.start.sites ≡ first_surface cells)
  pub duration : s.until ≤ 10 ^ 15
  pub network : c.network ≡ s.network
  pub until : c.until ≡ s.until
  pub horizon : c.horizon ≡ origin

-- How a run from the crew's first surface on has ended or stopped: whether it had more events than the limit, that a write
-- failed only at a fault of the sink, and how far the crew has come.
pub record HasEnded {T : Type 0} (result : Result T Stop) (s : Scene) (c d : CrewView) (faults now : ℕ) : Type 0 where
  pub limited : IsLimited result s c.start.sites
  pub write : IsErrOf result stop.Write → Rose faults now
  pub finished : OnOk result (d.horizon ≡ end_key (world_in d))
  pub past : IsErrOf result stop.Limit → IsPastLimit s d
  pub same : IsSameCrew c d

-- What stands when a run whose text is written has ended or stopped: how it ended, and what the sink has gained of the text.
pub record HasRun {T : Type 0} (result : Result T Stop) (s : Scene) (c d : CrewView) (old new : Option (List ℕ)) (faults now : ℕ) : Type 0 where
  pub ended : HasEnded result s c d faults now
  pub text : RunGains result (run_text s c.start.sites) old new
  pub prefix : AppendsPrefix old new (run_text s c.start.sites)
  pub later : faults ≤ now
