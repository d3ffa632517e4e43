-- Two regions with rings between them.
use Rattle.std.specs.Prelude.{◌≡◌}
use Rattle.plan.specs.Network.{Network}
use Rattle.regions.specs.Bands.{Bands}
use Rattle.region_run.specs.declared.region.Region.{Region}
use Rattle.region_run.specs.Regions.{Base, IsRegion, ends_with}
use Rattle.region_run.specs.Channels.{AreTied}

-- The first two regions of a cut, up to tick 5, with the ends of the rings between them.
pub record IsPair (n : Network) (b : Bands) (upper lower : Region) : Type 0 where
  pub first : upper.id ≡ 0
  pub second : lower.id ≡ 1
  pub ties : AreTied (ends_with upper 1) (ends_with lower 0)
  pub upper_base : Base
  pub is_upper : IsRegion n b 5 upper_base upper
  pub lower_base : Base
  pub is_lower : IsRegion n b 5 lower_base lower
