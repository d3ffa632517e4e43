-- A number that each firing lowers by one, and what a history has that uses it up.
use Rattle.std.specs.Prelude.{◌≡◌, ℕ, ◌+◌, List, length}
use Rattle.surf_kinds.specs.declared.rule.Rule.{Rule}
use Rattle.surf_kinds.specs.declared.site.SpeciesId.{SpeciesId}
use Rattle.surf_kinds.specs.declared.site.SiteState.{SiteState}
use Rattle.surf_kinds.specs.declared.event.Event.{Event}
use Rattle.lattice.specs.Shape.{Shape}
use Rattle.lattice.specs.Surface.{after_all}
use Rattle.reach.specs.Reach.{Firing, species_in, Fires, IsReached, IsAtRest}

-- on all that is reached from S, each firing lowers the number by one, and it is 0 at rest
pub record CountsDown (l : Shape) (rules : List Rule) (S : List SpeciesId) (work : List SpeciesId → ℕ) : Type 0 where
  pub falls : (T U : List SpeciesId) (f : Firing) → IsReached l rules S T → Fires l rules f T U → work U + 1 ≡ work T
  pub ends : (T : List SpeciesId) → IsReached l rules S T → IsAtRest l rules T → work T ≡ 0

-- these events are as many as the number, and leave 0
pub record UsesUp (l : Shape) (rules : List Rule) (work : List SpeciesId → ℕ) (sites : List SiteState) (es : List Event) : Type 0 where
  pub count : length es ≡ work (species_in sites)
  pub ended : work (species_in (after_all l rules sites es)) ≡ 0
