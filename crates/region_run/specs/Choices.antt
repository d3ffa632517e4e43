-- How a region finds its next entry: the first of its queue's least event and the first events of its stacks.
use Rattle.std.specs.Prelude.{◌≡◌, List, [], ◌∷◌, Option, Some, None}
use Rattle.surf_kinds.specs.declared.event.Event.{Event}
use Rattle.surf_kinds.specs.declared.event.Key.{Key}
use Rattle.surf_kinds.specs.Keys.{key_of, ◌is_upto◌}

abbrev pub first_of : List Event → Option Event
first_of [] = None
first_of (e ∷ es) = Some e

-- The first that is due from the clock on, of what is seen here.
pub record IsFirst (due : Key → Option Event) (clock : Key) (seen : Key → Type 0) (o : Option Event) : Type 0 where
  pub is_due : (e : Event) → o ≡ Some e → (clock is_upto key_of e) × (due (key_of e) ≡ Some e)
  pub least : (k : Key) (f : Event) → seen k → clock is_upto k → due k ≡ Some f → (e : Event) × (o ≡ Some e) × (key_of e is_upto k)
