-- What an event makes of a surface, which is a list of the states of its sites.
use Rattle.std.specs.Prelude.{◌≡◌, ℕ, ◌+◌, List, [], ◌∷◌, Option, Some, None, slice_get, slice_set, unwrap_or, map, length, ◌<◌, ◌^◌, IfSome}
use Rattle.surf_kinds.specs.declared.rule.Rule.{Rule}
use Rattle.surf_kinds.specs.declared.site.SiteState.{SiteState}
use Rattle.surf_kinds.specs.declared.site.SpeciesId.{SpeciesId}
use Rattle.surf_kinds.specs.declared.site.SiteId.{SiteId}
use Rattle.surf_kinds.specs.declared.site.Sites.{Sites}
use Rattle.surf_kinds.specs.declared.event.Event.{Event}
use Rattle.lattice.specs.Shape.{Shape}
use Rattle.surf_kinds.specs.Channels.{rule_of_channel, way_of_channel}
use Rattle.lattice.specs.Places.{sites_of, HasSite}
use Rattle.lattice.specs.Channels.{products}

-- a site that was never rewritten
abbrev pub fresh : SpeciesId → SiteState
fresh species = record { species = species; version = 0; last = 0 }

-- the first surface of these species
abbrev pub first_surface : List SpeciesId → List SiteState
first_surface cells = map fresh cells

-- the new species of the first site, by the rule and the way of the channel; without a rule the species stays
abbrev pub first_product : Option Rule → ℕ → SpeciesId → SpeciesId
first_product None way s = s
first_product (Some rule) way s = (products way rule).0

-- the new species of the second site; a rule of one site leaves the old one there
abbrev pub second_product : Option Rule → ℕ → SpeciesId → SpeciesId
second_product None way s = s
second_product (Some rule) way s = unwrap_or (products way rule).1 s

-- the same by an event's channel
abbrev pub first_product_of : List Rule → Event → SpeciesId → SpeciesId
first_product_of rules e = first_product (slice_get rules (rule_of_channel e.channel)) (way_of_channel e.channel)

abbrev pub second_product_of : List Rule → Event → SpeciesId → SpeciesId
second_product_of rules e = second_product (slice_get rules (rule_of_channel e.channel)) (way_of_channel e.channel)

abbrev pub rewritten : SpeciesId → ℕ → SiteState → SiteState
rewritten species time s = record { species = species; version = s.version + 1; last = time }

-- a site with a new species, also where that is the old one; the others stay
abbrev pub rewrite : (SpeciesId → SpeciesId) → ℕ → ℕ → Option SiteState → List SiteState → List SiteState
rewrite product time i None sites = sites
rewrite product time i (Some s) sites = slice_set sites i (rewritten (product s.species) time s)

abbrev pub rewrite_second : (SpeciesId → SpeciesId) → ℕ → Option SiteId → List SiteState → List SiteState
rewrite_second product time None sites = sites
rewrite_second product time (Some j) sites = rewrite product time j.0 (slice_get sites j.0) sites

abbrev pub rewrite_all : List Rule → Event → Option Sites → List SiteState → List SiteState
rewrite_all rules e None sites = sites
rewrite_all rules e (Some p) sites =
    rewrite_second (second_product_of rules e) e.time p.second
    (rewrite (first_product_of rules e) e.time p.first.0 (slice_get sites p.first.0) sites)

-- the surface after an event: each site of its place is rewritten, and all others stay
abbrev pub after : Shape → List Rule → List SiteState → Event → List SiteState
after l rules sites e = rewrite_all rules e (sites_of l e.place.0) sites

-- a site of the event's place, which the event rewrote
pub record Rewritten (l : Shape) (sites : List SiteState) (e : Event) (k : ℕ) (s : SiteState) : Type 0 where
  pub has : HasSite l e.place.0 k
  pub old : SiteState
  pub was : slice_get sites k ≡ Some old
  pub version : s.version ≡ old.version + 1
  pub last : s.last ≡ e.time

-- after a list of events, from the first to the last
abbrev pub after_all : Shape → List Rule → List SiteState → List Event → List SiteState
after_all l rules sites [] = sites
after_all l rules sites (e ∷ es) = after_all l rules (after l rules sites e) es

-- the last of the events, of which e is the first
abbrev pub last_from : Event → List Event → Event
last_from e [] = e
last_from e (f ∷ fs) = last_from f fs

-- the time of the last event, and 0 where there is none
abbrev pub end_time : List Event → ℕ
end_time [] = 0
end_time (e ∷ es) = (last_from e es).time

-- the channel is one of a rule
abbrev pub IsChannelOf : List Rule → ℕ → Type 0
IsChannelOf rules channel = rule_of_channel channel < length rules

-- each site of the place was rewritten less than 2 ^ 53 times
abbrev pub HasRoom : Shape → List SiteState → ℕ → Type 0
HasRoom l sites place = (s : ℕ) → HasSite l place s → IfSome (slice_get sites s) (λ x. x.version < 2 ^ 53)
