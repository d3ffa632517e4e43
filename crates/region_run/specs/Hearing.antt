-- What a region does in a part of a turn.
use Rattle.std.specs.Prelude.{◌≡◌, ℕ, ◌≤◌, ◌<◌, Bool, List, if◌then◌else◌}
use Rattle.plan.specs.Network.{Network}
use Rattle.regions.specs.Bands.{Bands}
use Rattle.warp_core.specs.Parts.{PartStep}
use Rattle.region_run.specs.Regions.{Base}
use Rattle.region_run.specs.Counts.{added_in, taken_in}
use Rattle.region_run.specs.Turns.{Hears}
use Rattle.region_run.specs.declared.region.Region.{Region}

-- From old to new the region asked its rings so often, and took what they handed out: one message, if there was one.
pub record Asks (n : Network) (b : Bands) (until : ℕ) (x : Base) (old : Region) (asks1 asks2 : ℕ) (is_one : Bool) (new : Region) : Type 0 where
  pub steps : List PartStep
  pub hears : Hears n b until x old asks1 asks2 steps new
  pub adds : added_in steps ≡ 0
  pub takes : taken_in steps ≡ (if is_one then 1 else 0)

-- From old to new the region added so many entries and took so many messages, at most this many; where it took fewer, each ring was asked so often or more.
pub record Works (n : Network) (b : Bands) (until : ℕ) (x : Base) (most : ℕ) (old : Region) (added taken times : ℕ) (new : Region) : Type 0 where
  pub steps : List PartStep
  pub asks1 : ℕ
  pub asks2 : ℕ
  pub hears : Hears n b until x old asks1 asks2 steps new
  pub adds : added_in steps ≡ added
  pub takes : taken_in steps ≡ taken
  pub few : taken ≤ most
  pub asked : taken < most → (times ≤ asks1) × (times ≤ asks2)
