-- Local timelines.
use Rattle.std.specs.Prelude.{◌≤◌, Bool, ◌≡◌, List, Option, Some, None, if◌then◌else◌}
use Rattle.surf_kinds.specs.declared.event.Key.{Key}
use Rattle.surf_kinds.specs.declared.event.Event.{Event}
use Rattle.surf_kinds.specs.declared.site.SiteState.{SiteState}
use Rattle.surf_kinds.specs.Keys.{◌is_below◌, ◌is_upto◌, key_of, at, below, AllKeys, IsRising}
use Rattle.plan.specs.History.{if_at}
use Rattle.warp_core.specs.World.{World, after_all, end_key}

-- What is due at a key on a surface: at a place that is mine the place's next event, if it has that key; elsewhere the incoming event of that key.
abbrev pub due_at : World → (Key → Bool) → (Key → Option Event) → List SiteState → Key → Option Event
due_at w mine ins sites k = if mine k then if_at k (w.next k.place.0 sites) else ins k

-- The timeline es, from the key floor on and below the key clock, over a base surface: its keys rise strictly, and at each key between it has exactly what is due there after its events below that key.
pub record IsLocal (w : World) (mine : Key → Bool) (base : List SiteState) (floor : Key) (ins : Key → Option Event) (clock : Key) (es : List Event) : Type 0 where
  pub rising : IsRising es
  pub span : AllKeys (λ k. (floor is_upto k) × (k is_below clock)) es
  pub each : (k : Key) → floor is_upto k → k is_below clock → at k es ≡ due_at w mine ins (after_all w base (below k es)) k

-- The event is the first that is due from the clock on, and it is within the duration.
pub record IsNext (w : World) (mine : Key → Bool) (ins : Key → Option Event) (sites : List SiteState) (clock : Key) (e : Event) : Type 0 where
  pub later : clock is_upto key_of e
  pub in_time : e.time ≤ w.until
  pub here : due_at w mine ins sites (key_of e) ≡ Some e
  pub first : (k : Key) → clock is_upto k → k is_below key_of e → due_at w mine ins sites k ≡ None

-- Nothing is due from the clock on, up to the end.
abbrev pub IsNothingDue : World → (Key → Bool) → (Key → Option Event) → List SiteState → Key → Type 0
IsNothingDue w mine ins sites clock = (k : Key) → clock is_upto k → k is_below end_key w → due_at w mine ins sites k ≡ None
