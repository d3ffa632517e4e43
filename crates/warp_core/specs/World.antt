-- What the core knows of the simulation: the world, and the laws that it rests on.
use Rattle.std.specs.Prelude.{◌⊎◌, ℕ, ◌+◌, ◌^◌, ◌<◌, ◌≤◌, Bool, ◌&&◌, ◌==◌, ◌≡◌, true, false, List, [], ◌∷◌, Option, Some, slice_get}
use Rattle.surf_kinds.specs.declared.event.Key.{Key}
use Rattle.surf_kinds.specs.declared.event.Event.{Event}
use Rattle.surf_kinds.specs.declared.site.SiteState.{SiteState}
use Rattle.plan.specs.History.{if_at}
use Rattle.surf_kinds.specs.Keys.{at, below, AllKeys, IsRising, ◌is_below◌}

-- A simulation, cut into regions. Places, sites and regions are numbers.
pub record World : Type 0 where
  -- the first surface, and the last tick
  pub start : List SiteState
  pub until : ℕ
  -- the surface after an event, and the next event of a place on a surface
  pub after : List SiteState → Event → List SiteState
  pub next : ℕ → List SiteState → Option Event
  -- the events of the whole surface, in order
  pub history : List Event
  pub regions : ℕ
  -- the region of a place, whether a region sees a site, and whether a region is told of the events of a place
  pub owner : ℕ → ℕ
  pub sees : ℕ → ℕ → Bool
  pub told : ℕ → ℕ → Bool
  -- whether the event's number is a place, and its channel one of a rule with that place's number of sites
  pub fits : Event → Bool

-- the first key behind the last tick
abbrev pub end_key : World → Key
end_key w = record { time = w.until + 1; place = record { 0 = 0 } }

-- the surface after a list of events
abbrev pub after_all : World → List SiteState → List Event → List SiteState
after_all w sites [] = sites
after_all w sites (e ∷ es) = after_all w (w.after sites e) es

-- the key's place is one of region i
abbrev pub is_own : World → ℕ → Key → Bool
is_own w i k = w.owner k.place.0 == i

-- the key's place is one of region j, and region i is told of its events
abbrev pub is_told_by : World → ℕ → ℕ → Key → Bool
is_told_by w j i k = is_own w j k && w.told i k.place.0

-- two surfaces are the same at the sites that region i sees
abbrev pub Agree : World → ℕ → List SiteState → List SiteState → Type 0
Agree w i a b = (s : ℕ) → w.sees i s ≡ true → slice_get a s ≡ slice_get b s

-- The laws of a simulation that the core rests on.
pub record IsWorld (w : World) : Type 0 where
  pub short : w.until ≤ 10 ^ 15
  -- each place has a region, which is not told of the place's events
  pub not_itself : (p : ℕ) → w.told (w.owner p) p ≡ false
  pub owned : (p : ℕ) → w.owner p < w.regions
  -- locality: the next event of a place, and what an event leaves at the sites that a region sees, depend on the sites that the region sees alone
  pub same_next : (p : ℕ) (a b : List SiteState) → Agree w (w.owner p) a b → w.next p a ≡ w.next p b
  pub same_after : (i : ℕ) (e : Event) (a b : List SiteState) → Agree w i a b → Agree w i (w.after a e) (w.after b e)
  -- an event that is neither at a place of the region nor told to it leaves its sites alone
  pub unseen : (i : ℕ) (e : Event) (a : List SiteState) → (w.owner e.place.0 == i) ≡ false → w.told i e.place.0 ≡ false → Agree w i (w.after a e) a
  -- the next event of a place is at that place, after the start, and fits
  pub at_place : (p : ℕ) (a : List SiteState) (e : Event) → w.next p a ≡ Some e → e.place.0 ≡ p
  pub after_start : (p : ℕ) (a : List SiteState) (e : Event) → w.next p a ≡ Some e → 1 ≤ e.time
  pub fitting : (p : ℕ) (a : List SiteState) (e : Event) → w.next p a ≡ Some e → w.fits e ≡ true
  -- the history key by key: it has at each key what the surface after the events below the key offers there
  pub rising : IsRising w.history
  pub within : AllKeys (λ k. k is_below end_key w) w.history
  pub pointwise : (k : Key) → k is_below end_key w → at k w.history ≡ if_at k (w.next k.place.0 (after_all w w.start (below k w.history)))

-- An event leaves the next event of a place as it was, or makes it one at a later time than its own; at its own place it always makes it one at a later time.
pub record IsMonotone (w : World) : Type 0 where
  pub overtaken : (p : ℕ) (a : List SiteState) (f e : Event) → w.next p (w.after a f) ≡ Some e → (w.next p a ≡ Some e) ⊎ (f.time < e.time)
  pub renewed : (a : List SiteState) (f e : Event) → w.next f.place.0 (w.after a f) ≡ Some e → f.time < e.time
