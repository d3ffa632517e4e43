-- The lists of species that firings reach. Neither times nor draws occur here.
use Rattle.std.specs.Prelude.{◌≡◌, ℕ, List, [], ◌∷◌, map, Option, Some, None, true, slice_get, slice_set, ⊤}
use Rattle.surf_kinds.specs.declared.rule.Rule.{Rule}
use Rattle.surf_kinds.specs.declared.site.SpeciesId.{SpeciesId}
use Rattle.surf_kinds.specs.declared.site.SiteId.{SiteId}
use Rattle.surf_kinds.specs.declared.site.SiteState.{SiteState}
use Rattle.surf_kinds.specs.declared.site.Sites.{Sites}
use Rattle.surf_kinds.specs.declared.event.Event.{Event}
use Rattle.surf_kinds.specs.Channels.{rule_of_channel, way_of_channel}
use Rattle.lattice.specs.Shape.{Shape}
use Rattle.lattice.specs.Places.{sites_of}
use Rattle.lattice.specs.Channels.{matches, products}

-- the species of a surface
abbrev pub species_in : List SiteState → List SpeciesId
species_in sites = map (λ s. s.species) sites

-- a channel at a place
pub record Firing : Type 0 where
  pub place : ℕ
  pub channel : ℕ

abbrev pub firing_of : Event → Firing
firing_of e = record { place = e.place.0; channel = e.channel }

-- what stands at a place's second site, where it has one
abbrev pub IsSecond : List SpeciesId → Option SiteId → Option SpeciesId → Type 0
IsSecond S None None = ⊤
IsSecond S (Some j) (Some t) = slice_get S j.0 ≡ Some t
IsSecond S j t = ⊥

-- a species put at a site, where there are both
abbrev pub put_second : Option SiteId → Option SpeciesId → List SpeciesId → List SpeciesId
put_second (Some j) (Some t) S = slice_set S j.0 t
put_second j t S = S

-- species put at the sites of a place
abbrev pub put : Sites → SpeciesId × Option SpeciesId → List SpeciesId → List SpeciesId
put p to S = put_second p.second to.1 (slice_set S p.first.0 to.0)

-- the firing makes U of S: its rule matches, in its way, what stands at the sites of its place, and puts its products there
pub record Fires (l : Shape) (rules : List Rule) (f : Firing) (S U : List SpeciesId) : Type 0 where
  pub sites : Sites
  pub at : sites_of l f.place ≡ Some sites
  pub first : SpeciesId
  pub first_is : slice_get S sites.first.0 ≡ Some first
  pub second : Option SpeciesId
  pub second_is : IsSecond S sites.second second
  pub rule : Rule
  pub rule_is : slice_get rules (rule_of_channel f.channel) ≡ Some rule
  pub matching : matches rule (way_of_channel f.channel) first second ≡ true
  pub makes : U ≡ put sites (products (way_of_channel f.channel) rule) S

-- these firings, one after the other, lead from S to T
abbrev pub Reaches : Shape → List Rule → List SpeciesId → List Firing → List SpeciesId → Type 0
Reaches l rules S [] T = S ≡ T
Reaches l rules S (f ∷ fs) T = (U : List SpeciesId) × Fires l rules f S U × Reaches l rules U fs T

-- T is reached from S
abbrev pub IsReached : Shape → List Rule → List SpeciesId → List SpeciesId → Type 0
IsReached l rules S T = (fs : List Firing) × Reaches l rules S fs T

-- nothing can fire
abbrev pub IsAtRest : Shape → List Rule → List SpeciesId → Type 0
IsAtRest l rules S = (f : Firing) (U : List SpeciesId) → Fires l rules f S U → ⊥
