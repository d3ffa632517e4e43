-- How late the sites of a surface were rewritten, and how fast its rules are.
use Rattle.std.specs.Prelude.{◌≡◌, ℕ, ◌≤◌, List, Some, slice_get}
use Rattle.surf_kinds.specs.declared.site.SiteState.{SiteState}
use Rattle.surf_kinds.specs.declared.rule.Rule.{Rule}
use Rattle.lattice.specs.Channels.{rate_of}

-- no site was rewritten after this tick
abbrev pub AreLastBy : ℕ → List SiteState → Type 0
AreLastBy time sites = (k : ℕ) (s : SiteState) → slice_get sites k ≡ Some s → s.last ≤ time

-- each rule has the rate 1
abbrev pub HaveRateOne : List Rule → Type 0
HaveRateOne rules = (k : ℕ) (rule : Rule) → slice_get rules k ≡ Some rule → rate_of rule ≡ record { p = 1; q = 1 }
