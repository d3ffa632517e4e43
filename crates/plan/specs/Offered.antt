-- What is known of the event that a place offers.
use Rattle.std.specs.Prelude.{◌≡◌, ℕ, ◌+◌, true, List, Option, Some, None, ⊤, slice_get}
use Rattle.std.specs.Option.{option_map}
use Rattle.surf_kinds.specs.declared.rule.Rule.{Rule}
use Rattle.surf_kinds.specs.declared.site.SiteId.{SiteId}
use Rattle.surf_kinds.specs.declared.site.Sites.{Sites}
use Rattle.surf_kinds.specs.declared.site.SiteState.{SiteState}
use Rattle.surf_kinds.specs.declared.event.Event.{Event}
use Rattle.surf_kinds.specs.Channels.{rule_of_channel, way_of_channel}
use Rattle.lattice.specs.Shape.{Shape}
use Rattle.lattice.specs.Places.{sites_of}
use Rattle.lattice.specs.Channels.{matches, rate_of}
use Rattle.draws.specs.Draw.{draw_of}
use Rattle.rates.specs.Waits.{wait_of}
use Rattle.plan.specs.Network.{Network}
use Rattle.plan.specs.Next.{latest, occurrence}

-- the state of the second site, where there is one
abbrev pub IsSecondState : List SiteState → Option SiteId → Option SiteState → Type 0
IsSecondState sites None None = ⊤
IsSecondState sites None (Some t) = ⊥
IsSecondState sites (Some j) None = ⊥
IsSecondState sites (Some j) (Some t) = slice_get sites j.0 ≡ Some t

-- the sites of the place have these states
pub record AreStatesOf (l : Shape) (sites : List SiteState) (place : ℕ) (first_state : SiteState) (second_state : Option SiteState) : Type 0 where
  pub pair : Sites
  pub is : sites_of l place ≡ Some pair
  pub first : slice_get sites pair.first.0 ≡ Some first_state
  pub second : IsSecondState sites pair.second second_state

-- The event is one of the place, by a channel whose rule matches what stands there, and comes after the last rewriting
-- of the place's sites by the wait of the channel's draw.
pub record IsOffered (n : Network) (sites : List SiteState) (place : ℕ) (e : Event) : Type 0 where
  pub state : SiteState
  pub second : Option SiteState
  pub states : AreStatesOf n.lattice sites place state second
  pub at_place : e.place.0 ≡ place
  pub rule : Rule
  pub rule_is : slice_get n.rules (rule_of_channel e.channel) ≡ Some rule
  pub matching : matches rule (way_of_channel e.channel) state.species (option_map (λ (x : SiteState). x.species) second) ≡ true
  pub time : e.time ≡ latest state second + wait_of (rate_of rule) (draw_of n.seed place (occurrence state second) e.channel)
