-- The first event from a key on, in a stack and in a timeline, by where the events below the key end.
use Rattle.std.proofs.Common.{◌≡◌, ℕ, zero, suc, ◌<◌, true, false, List, [], ◌∷◌, length, drop, refl, sym, ap, ◌∙◌, arith, Some, None}
use Rattle.std.specs.Prelude.{not, slice_index_or}
use Rattle.std.specs.List.Sorted.{IsPartitionedBy, IsPartitionPoint}
use Rattle.std.proofs.lemmas.List.{get_or-map, length-map}
use Rattle.surf_kinds.specs.declared.event.Event.{Event}
use Rattle.surf_kinds.specs.declared.event.Key.{Key}
use Rattle.surf_kinds.specs.Keys.{is_before, key_of, from, AllKeys, IsRising, ◌is_below◌}
use Rattle.surf_kinds.proofs.Order.{lt_lt}
use Rattle.surf_kinds.proofs.Tables.{keep_yes, keep_no}
use Rattle.timeline.specs.declared.entry.Entry.{Entry}
use Rattle.timeline.specs.TimelineView.{events_of, entry_key}
use Rattle.region_run.specs.Choices.{first_of}

key_at : (P : Key → Type 0) (es : List Event) (j : ℕ) (d : Event) → AllKeys P es → j < length es → P (key_of (slice_index_or es j d))
key_at P [] j d a h = absurd (omega (arith, h))
key_at P (e ∷ es) zero d a h = a.0
key_at P (e ∷ es) (suc j) d a h = key_at P es j d a.1 (omega (arith, h))

-- in a rising list the events below a key come before the others
pub parts : (k : Key) (es : List Event) → IsRising es → IsPartitionedBy (λ e. is_before (key_of e) k) es
parts k [] r i j d le within h = absurd (omega (arith, within))
parts k (e ∷ es) r zero zero d le within h = h
parts k (e ∷ es) r zero (suc j) d le within h = lt_lt (key_of e) (key_of (slice_index_or es j d)) k (key_at (λ q. key_of e is_below q) es j d r.0 (omega (arith, within))) h
parts k (e ∷ es) r (suc i) zero d le within h = absurd (omega (arith, le))
parts k (e ∷ es) r (suc i) (suc j) d le within h = parts k es r.1 i j d (omega (arith, le)) (omega (arith, within)) h

pub first_at : (k : Key) (es : List Event) (i : ℕ) (d : Event) → ((j : ℕ) → j < i → is_before (key_of (slice_index_or es j d)) k ≡ true) → i < length es → is_before (key_of (slice_index_or es i d)) k ≡ false → first_of (from k es) ≡ Some (slice_index_or es i d)
first_at k [] i d early within late = absurd (omega (arith, within))
first_at k (e ∷ es) zero d early within late = ap first_of (keep_yes (λ j. not (is_before j k)) e es (ap not late))
first_at k (e ∷ es) (suc i) d early within late =
    ap first_of (keep_no (λ j. not (is_before j k)) e es (ap not (early zero (omega arith)))) ∙ first_at k es i d (λ j h. early (suc j) (omega (arith, h))) (omega (arith, within)) late

pub first_none : (k : Key) (es : List Event) (d : Event) → ((j : ℕ) → j < length es → is_before (key_of (slice_index_or es j d)) k ≡ true) → first_of (from k es) ≡ None
first_none k [] d early = refl
first_none k (e ∷ es) d early = ap first_of (keep_no (λ j. not (is_before j k)) e es (ap not (early zero (omega arith)))) ∙ first_none k es d (λ j h. early (suc j) (omega (arith, h)))

-- the same of entries

event_at : (es : List Entry) (j : ℕ) (d : Entry) → j < length es → slice_index_or (events_of es) j d.before.event ≡ (slice_index_or es j d).before.event
event_at es j d within = get_or-map (λ e. e.before.event) es j d d.before.event within

pub entry_parts : (k : Key) (es : List Entry) → IsRising (events_of es) → IsPartitionedBy (λ e. is_before (entry_key e) k) es
entry_parts k es r i j d le within h =
    let many : length (events_of es) ≡ length es = length-map es (λ e. e.before.event) in
    let late = ap (λ e. is_before (key_of e) k) (event_at es j d within) in
    let early = ap (λ e. is_before (key_of e) k) (event_at es i d (omega (arith, le, within))) in
    sym early ∙ parts k (events_of es) r i j d.before.event le (omega (arith, many, within)) (late ∙ h)

pub from_point : (k : Key) (es : List Entry) (i : ℕ) → IsPartitionPoint (λ e. is_before (entry_key e) k ≡ true) (λ e. is_before (entry_key e) k ≡ false) es i → from k (events_of es) ≡ from k (events_of (drop i es))
from_point k [] zero p = refl
from_point k [] (suc i) p = refl
from_point k (e ∷ es) zero p = refl
from_point k (e ∷ es) (suc i) p =
    keep_no (λ j. not (is_before j k)) e.before.event (events_of es) (ap not (p.0 0 e (omega arith) (omega arith)))
    ∙ from_point k es i ((λ j d lo hi. p.0 (suc j) d (omega arith) (omega (arith, hi))), (λ j d lo hi. p.1 (suc j) d (omega (arith, lo)) (omega (arith, hi))))
