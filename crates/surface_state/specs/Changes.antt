-- How events change a surface, and how they are taken back.
use Rattle.std.specs.Prelude.{◌≡◌, ℕ, ◌+◌, ◌<◌, List, Option, Some, None, is_some, unwrap_or, IfSome, slice_get, slice_set}
use Rattle.std.specs.Option.{option_map}
use Rattle.surf_kinds.specs.declared.rule.Rule.{Rule}
use Rattle.surf_kinds.specs.declared.site.SiteState.{SiteState}
use Rattle.surf_kinds.specs.declared.site.SpeciesId.{SpeciesId}
use Rattle.surf_kinds.specs.declared.site.SiteId.{SiteId}
use Rattle.surf_kinds.specs.declared.site.Sites.{Sites}
use Rattle.surf_kinds.specs.declared.event.Event.{Event}
use Rattle.lattice.specs.Shape.{Shape}
use Rattle.lattice.specs.Places.{sites_of}
use Rattle.surf_kinds.specs.Channels.{rule_of_channel, way_of_channel}
use Rattle.lattice.specs.Channels.{products}
use Rattle.lattice.specs.Surface.{rewrite, rewrite_second}
use Rattle.surface_state.specs.declared.before.Before.{Before}
use Rattle.surface_state.specs.SurfaceView.{SurfaceView}

-- each site of the place is rewritten, the first to the first species and the second to the second, or to its own
-- where none is given; the others stay
abbrev pub rewrite_to : SpeciesId × Option SpeciesId → ℕ → Option Sites → List SiteState → List SiteState
rewrite_to to time None sites = sites
rewrite_to to time (Some p) sites =
    rewrite_second (unwrap_or to.1) time p.second
    (rewrite (λ _. to.0) time p.first.0 (slice_get sites p.first.0) sites)

-- the surface with the sites of the event's place rewritten
abbrev pub applied : SurfaceView → Event → SpeciesId × Option SpeciesId → SurfaceView
applied s e to = record s { sites = rewrite_to to e.time (sites_of s.lattice e.place.0) s.sites }

-- the state put at the second site, where there is one
abbrev pub put_second : Option SiteId → Option SiteState → List SiteState → List SiteState
put_second None state sites = sites
put_second (Some n) None sites = sites
put_second (Some n) (Some state) sites = slice_set sites n.0 state

abbrev pub put_back : Before → Option Sites → List SiteState → List SiteState
put_back b None sites = sites
put_back b (Some p) sites = put_second p.second b.second (slice_set sites p.first.0 b.first)

-- the surface with the sites of the event's place as they were before it
abbrev pub undone : SurfaceView → Before → SurfaceView
undone s b = record s { sites = put_back b (sites_of s.lattice b.event.place.0) s.sites }

-- what stands at a site, where there is one
abbrev pub state_at : List SiteState → Option SiteId → Option SiteState
state_at sites None = None
state_at sites (Some n) = slice_get sites n.0

-- this stands at the sites of the event's place
pub record IsBefore (s : SurfaceView) (b : Before) : Type 0 where
  pub place : Sites
  pub is : sites_of s.lattice b.event.place.0 ≡ Some place
  pub first : slice_get s.sites place.first.0 ≡ Some b.first
  pub second : state_at s.sites place.second ≡ b.second
  pub both : is_some b.second ≡ is_some place.second

-- the site was rewritten once more, at this time
abbrev pub IsLeftAt : ℕ → SiteState → Option SiteState → Type 0
IsLeftAt time old now = IfSome now (λ s. (s.version ≡ old.version + 1) × (s.last ≡ time))

-- what the event left stands at the sites of its place
abbrev pub IsLeft : SurfaceView → Before → Type 0
IsLeft s b =
    IfSome (sites_of s.lattice b.event.place.0)
    (λ p. IsLeftAt b.event.time b.first (slice_get s.sites p.first.0)
    × IfSome b.second (λ old. IsLeftAt b.event.time old (state_at s.sites p.second)))

-- it is there exactly where the place is a pair
abbrev pub IsSecondOf : {X : Type 0} → Shape → ℕ → Option X → Type 0
IsSecondOf l place second = IfSome (sites_of l place) (λ p. is_some second ≡ is_some p.second)

-- these species have numbers below the number of species
abbrev pub AreBelow : ℕ → SpeciesId → Option SpeciesId → Type 0
AreBelow species_count first second = (first.0 < species_count) × IfSome second (λ s. s.0 < species_count)

abbrev pub IsBelow : ℕ → Before → Type 0
IsBelow species_count b = (b.first.species.0 < species_count) × IfSome b.second (λ s. s.species.0 < species_count)

-- the species that the event's channel gives the sites of its place: the products of its rule, in its way
abbrev pub AreProducts : List Rule → Event → SpeciesId × Option SpeciesId → Type 0
AreProducts rules e to = Some to ≡ option_map (products (way_of_channel e.channel)) (slice_get rules (rule_of_channel e.channel))
