-- What a site keeps to, so that its next events have times and draws.
use Rattle.std.specs.Prelude.{◌^◌, ◌<◌, ◌≤◌}
use Rattle.surf_kinds.specs.declared.site.SiteState.{SiteState}

-- the version is below 2 ^ 53, and the last tick is at most 10 ^ 15
pub record IsWithinBounds (s : SiteState) : Type 0 where
  pub version : s.version < 2 ^ 53
  pub last : s.last ≤ 10 ^ 15
