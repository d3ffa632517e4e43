-- The history of a surface.
use Rattle.std.specs.Prelude.{◌≡◌, ℕ, zero, suc, ◌+◌, ◌*◌, List, [], ◌∷◌, Option, Some, None, nat_le, if◌then◌else◌, ◌⊎◌, ⊤}
use Rattle.std.specs.Option.{option_map_or}
use Rattle.surf_kinds.specs.declared.site.SiteState.{SiteState}
use Rattle.surf_kinds.specs.declared.event.Event.{Event}
use Rattle.surf_kinds.specs.declared.event.Key.{Key}
use Rattle.surf_kinds.specs.Keys.{key_of, same_key}
use Rattle.surf_kinds.specs.Steps.{end_of_places}
use Rattle.lattice.specs.Surface.{after}
use Rattle.plan.specs.Network.{Network}
use Rattle.plan.specs.Next.{least}

-- the event, where its time is within the duration
abbrev pub within : ℕ → Option Event → Option Event
within until None = None
within until (Some e) = if nat_le e.time until then Some e else None

-- the next event of the surface within the duration
abbrev pub due : Network → ℕ → List SiteState → Option Event
due n until sites = within until (least n sites)

-- the first m events of the history, or all where there are fewer
abbrev pub first_events : Network → ℕ → ℕ → List SiteState → List Event
first_events n until zero sites = []
first_events n until (suc m) sites =
    option_map_or (λ e. e ∷ first_events n until m (after n.lattice n.rules sites e)) (due n until sites) []

-- the number of keys within the duration; keys rise from event to event, so there are no more events
abbrev pub key_count : Network → ℕ → ℕ
key_count n until = (until + 1) * end_of_places (n.lattice.rows * n.lattice.cols)

-- the history: each event is the next one of the surface after those before it, as long as one is due
unfoldable pub history : Network → ℕ → List SiteState → List Event
history n until sites = first_events n until (key_count n until) sites

-- the same as a relation: these are the events of a surface, one after the other, to the last that is due
abbrev pub IsHistory : Network → ℕ → List SiteState → List Event → Type 0
IsHistory n until sites [] = due n until sites ≡ None
IsHistory n until sites (e ∷ es) = (due n until sites ≡ Some e) × IsHistory n until (after n.lattice n.rules sites e) es

-- these are the next events of a surface, one after the other, and there may be more
abbrev pub AreNext : Network → ℕ → List SiteState → List Event → Type 0
AreNext n until sites [] = ⊤
AreNext n until sites (e ∷ es) = (due n until sites ≡ Some e) × AreNext n until (after n.lattice n.rules sites e) es

-- the event is one of these
abbrev pub IsIn : Event → List Event → Type 0
IsIn e [] = ⊥
IsIn e (f ∷ fs) = (f ≡ e) ⊎ IsIn e fs

-- the event, where it has this key
abbrev pub if_at : Key → Option Event → Option Event
if_at k None = None
if_at k (Some e) = if same_key (key_of e) k then Some e else None
