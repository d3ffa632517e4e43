-- How a region finds its next entry: the first of the events that its own places offer and that its stacks have.
use Rattle.std.specs.Prelude.{ℕ, zero, suc, ◌*◌, Bool, ◌&&◌, ◌==◌, nat_le, not, true, List, [], ◌∷◌, Option, Some, None, if◌then◌else◌}
use Rattle.surf_kinds.specs.declared.event.Event.{Event}
use Rattle.surf_kinds.specs.declared.event.Key.{Key}
use Rattle.surf_kinds.specs.declared.site.SiteState.{SiteState}
use Rattle.surf_kinds.specs.Keys.{is_before, key_of}
use Rattle.plan.specs.Network.{Network}
use Rattle.regions.specs.Bands.{Bands, owner_of}
use Rattle.plan.specs.Next.{next}
use Rattle.surf_kinds.specs.Steps.{end_of_places}

-- the event is from the clock on, and up to the end
abbrev pub counts : Key → ℕ → Event → Bool
counts clock until e = not (is_before (key_of e) clock) && nat_le e.time until

-- the event is before the best so far
abbrev pub beats : Option Event → Event → Bool
beats None e = true
beats (Some b) e = is_before (key_of e) (key_of b)

abbrev pub earlier_due : Key → ℕ → Option Event → Event → Option Event
earlier_due clock until best e = if counts clock until e && beats best e then Some e else best

abbrev pub earlier_due_of : Key → ℕ → Option Event → Option Event → Option Event
earlier_due_of clock until best None = best
earlier_due_of clock until best (Some e) = earlier_due clock until best e

-- the next event of a place, where it is one of the region
abbrev pub own_event : Network → Bands → ℕ → List SiteState → ℕ → Option Event
own_event n b region sites p = if owner_of b p == region then next n sites p else None

-- the first of the events of the region's places below a number
abbrev pub first_own : Network → Bands → ℕ → List SiteState → Key → ℕ → ℕ → Option Event
first_own n b region sites clock until zero = None
first_own n b region sites clock until (suc p) = earlier_due_of clock until (first_own n b region sites clock until p) (own_event n b region sites p)

-- the first of the best so far and the events of a list
abbrev pub first_in : Key → ℕ → Option Event → List Event → Option Event
first_in clock until best [] = best
first_in clock until best (e ∷ es) = first_in clock until (earlier_due clock until best e) es

-- the first of the region's own events and those of the stacks of the first senders
abbrev pub first_entry_in : Key → ℕ → ℕ → (ℕ → List Event) → Option Event → ℕ → Option Event
first_entry_in clock until region stack own zero = own
first_entry_in clock until region stack own (suc j) =
    if j == region then first_entry_in clock until region stack own j else first_in clock until (first_entry_in clock until region stack own j) (stack j)

abbrev pub first_entry : Network → Bands → ℕ → List SiteState → (ℕ → List Event) → Key → ℕ → ℕ → Option Event
first_entry n b region sites stack clock until senders =
    first_entry_in clock until region stack (first_own n b region sites clock until (end_of_places (n.lattice.rows * n.lattice.cols))) senders
