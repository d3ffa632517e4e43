-- What viewers see of a run.
use Rattle.std.specs.Prelude.{◌≡◌, ℕ, List, length, map, take, All}
use Rattle.surf_kinds.specs.declared.event.Event.{Event}
use Rattle.surf_kinds.specs.declared.site.SiteState.{SiteState}
use Rattle.plan.specs.Network.{Network}
use Rattle.frames.specs.declared.sample.Sample.{Sample}
use Rattle.watching.specs.Changes.{state_after}
use Rattle.watching.specs.Lines.{IsView}

-- So many viewers saw a run with these events from a first surface on, each so often: each sample is the state after so many of the first events, never fewer than the sample before, and the last is the state after all.
pub record AreViews (n : Network) (kinds viewers frames : ℕ) (first : List SiteState) (events : List Event) (views : List (List Sample)) : Type 0 where
  pub numbers : List (List ℕ)
  pub count : length numbers ≡ viewers
  pub each : All (IsView frames (length events)) numbers
  pub states : views ≡ map (λ es. map (λ e. state_after n.lattice n.rules kinds first (take e events)) es) numbers
