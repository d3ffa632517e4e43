-- The next event of a place, and of a surface.
use Rattle.std.specs.Prelude.{ℕ, zero, suc, ◌+◌, ◌*◌, max, List, fold, Option, Some, None, option_and_then, slice_get}
use Rattle.std.specs.Option.{option_map}
use Rattle.surf_kinds.specs.declared.site.SiteState.{SiteState}
use Rattle.surf_kinds.specs.declared.site.SiteId.{SiteId}
use Rattle.surf_kinds.specs.declared.site.Sites.{Sites}
use Rattle.surf_kinds.specs.declared.event.Event.{Event}
use Rattle.surf_kinds.specs.Keys.{earlier}
use Rattle.surf_kinds.specs.Steps.{end_of_places}
use Rattle.lattice.specs.Shape.{Shape}
use Rattle.lattice.specs.Places.{sites_of}
use Rattle.draws.specs.Draw.{draw_of}
use Rattle.rates.specs.Waits.{wait_of}
use Rattle.plan.specs.Network.{Network}
use Rattle.plan.specs.Channels.{reactants_of, channels_of}
use Rattle.plan.specs.declared.index.Channel.{Channel}

-- The states of a place's sites

-- the first state, with that of the second site where there is one
abbrev pub with_second : List SiteState → Option SiteId → SiteState → Option (SiteState × Option SiteState)
with_second sites None s = Some (s, None)
with_second sites (Some j) s = option_map (λ (t : SiteState). (s, Some t)) (slice_get sites j.0)

-- the states of a place's sites on a surface; none where the number is no place
abbrev pub states_at : Shape → List SiteState → ℕ → Option (SiteState × Option SiteState)
states_at l sites place = option_and_then (λ (p : Sites). option_and_then (with_second sites p.second) (slice_get sites p.first.0)) (sites_of l place)

-- The next event of these states

-- the greatest last
abbrev pub latest : SiteState → Option SiteState → ℕ
latest s None = s.last
latest s (Some t) = max s.last t.last

-- the sum of the versions
abbrev pub occurrence : SiteState → Option SiteState → ℕ
occurrence s None = s.version
occurrence s (Some t) = s.version + t.version

-- the event of a channel of a place, at an occurrence, whose wait begins at a tick: after the wait of the channel's draw
abbrev pub armed : ℕ → ℕ → ℕ → ℕ → Channel → Event
armed seed place occurrence from c =
    record { time = from + wait_of c.rate (draw_of seed place occurrence c.number); place = record { 0 = place }; channel = c.number }

-- the earliest of an event and those of the channels; of equal times, the first
abbrev pub earliest : ℕ → ℕ → ℕ → ℕ → Option Event → List Channel → Option Event
earliest seed place occurrence from best channels = fold (λ (b : Option Event) (c : Channel). earlier b (Some (armed seed place occurrence from c))) best channels

-- the earliest event of the channels that stand there: their waits begin at the greatest last
abbrev pub next_at : Network → ℕ → SiteState → Option SiteState → Option Event
next_at n place s t = earliest n.seed place (occurrence s t) (latest s t) None (channels_of n.rules (reactants_of s t))

-- the next event of a place on a surface
abbrev pub next : Network → List SiteState → ℕ → Option Event
next n sites place = option_and_then (λ (s : SiteState × Option SiteState). next_at n place s.0 s.1) (states_at n.lattice sites place)

-- The next event of a surface

-- the event of least key among the next events of the places below m
abbrev pub least_upto : Network → List SiteState → ℕ → Option Event
least_upto n sites zero = None
least_upto n sites (suc m) = earlier (least_upto n sites m) (next n sites m)

-- the least of all places
abbrev pub least : Network → List SiteState → Option Event
least n sites = least_upto n sites (end_of_places (n.lattice.rows * n.lattice.cols))
