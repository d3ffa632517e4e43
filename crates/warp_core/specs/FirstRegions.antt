-- The regions of a configuration at the start.
use Rattle.std.specs.Prelude.{ℕ, ◌≡◌, ◌<◌, List, length, slice_index_or}
use Rattle.surface_state.specs.SurfaceView.{SurfaceView}
use Rattle.warp_core.specs.Regions.{IsFirstRegion}
use Rattle.warp_core.specs.declared.region.Region.{Region}

-- so many regions at the start
pub record AreFirst (start : SurfaceView) (count made : ℕ) (rs : List Region) : Type 0 where
  pub long : length rs ≡ made
  pub each : (i : ℕ) (d : Region) → i < made → IsFirstRegion start count (slice_index_or rs i d)
