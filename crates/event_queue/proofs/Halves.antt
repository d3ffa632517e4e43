-- What stands at each offset, and the queue that is seen from it.
use Rattle.std.proofs.Common.{◌≡◌, ℕ, ◌+◌, ◌-◌, ◌%◌, ◌<◌, ◌≤◌, ◌^◌, inl, List, length, set, refl, sym, ap, ◌∙◌, subst, arith, slice_index_or, Option, Some, None, replicate, get_or-set_same, get_or-set_other}
use mathlib.Core.Logic.{⊎_elim}
use Rattle.std.proofs.lemmas.List.{same_lists, length-set, set-get_or, get_or_past, get_or-replicate, length-replicate}
use Rattle.std.proofs.lemmas.List.FromFn.{length-map-range_with_len, get_or-map-range_with_len}
use Rattle.std.proofs.lemmas.Bool.{lt-ltb, le-ltb, cases_lt}
use Rattle.std.proofs.lemmas.Bool.Decides.{nat_tests}
use Rattle.surf_kinds.specs.declared.event.Event.{Event}
use Rattle.surf_kinds.specs.declared.place.Place.{Place}
use Rattle.event_queue.specs.declared.entry.Entry.{Entry}
use Rattle.event_queue.specs.QueueView.{QueueView, HasPlace, event_at}
use Rattle.event_queue.specs.Tournament.{entry_at, nothing, event_of}
use Rattle.event_queue.specs.Halves.{half_of, number_of, low_offset, high_offset, standing, low_with, high_with, event_if, seen, MayStand, IsSound}
use Rattle.event_queue.proofs.Order.{same_or}

-- Numbers and offsets

pub number_within : (count o : ℕ) → o < count → number_of o < half_of count
number_within count o l = omega arith

pub low_number : (i : ℕ) → number_of (low_offset i) ≡ i
low_number i = omega arith

pub low_side : (i : ℕ) → low_offset i % 8 < 4
low_side i = omega arith

pub high_number : (i : ℕ) → number_of (high_offset i) ≡ i
high_number i = omega arith

pub high_side : (i : ℕ) → 4 ≤ high_offset i % 8
high_side i = omega arith

both_low : (k o : ℕ) → (k ≡ o → ⊥) → k % 8 < 4 → o % 8 < 4 → number_of k ≡ number_of o → ⊥
both_low k o ne kl ol e = omega (arith, ne)

both_high : (k o : ℕ) → (k ≡ o → ⊥) → 4 ≤ k % 8 → 4 ≤ o % 8 → number_of k ≡ number_of o → ⊥
both_high k o ne kl ol e = omega (arith, ne)

-- What stands at an offset

pub standing_low : (low high : List Entry) (o : ℕ) → o % 8 < 4 → standing low high o ≡ entry_at low (number_of o)
standing_low low high o l = rw (lt-ltb (o % 8) 4 l) refl

pub standing_high : (low high : List Entry) (o : ℕ) → 4 ≤ o % 8 → standing low high o ≡ entry_at high (number_of o)
standing_high low high o l = rw (le-ltb (o % 8) 4 l) refl

low_with_low : (low : List Entry) (o : ℕ) (e : Entry) → o % 8 < 4 → low_with low o e ≡ set low (number_of o) e
low_with_low low o e l = rw (lt-ltb (o % 8) 4 l) refl

low_with_high : (low : List Entry) (o : ℕ) (e : Entry) → 4 ≤ o % 8 → low_with low o e ≡ low
low_with_high low o e l = rw (le-ltb (o % 8) 4 l) refl

high_with_low : (high : List Entry) (o : ℕ) (e : Entry) → o % 8 < 4 → high_with high o e ≡ high
high_with_low high o e l = rw (lt-ltb (o % 8) 4 l) refl

high_with_high : (high : List Entry) (o : ℕ) (e : Entry) → 4 ≤ o % 8 → high_with high o e ≡ set high (number_of o) e
high_with_high high o e l = rw (le-ltb (o % 8) 4 l) refl

pub length-low_with : (low : List Entry) (o : ℕ) (e : Entry) → length (low_with low o e) ≡ length low
length-low_with low o e = ⊎_elim (λ l. ap length (low_with_low low o e l) ∙ length-set low (number_of o) e) (λ l. ap length (low_with_high low o e l)) (cases_lt (o % 8) 4)

pub length-high_with : (high : List Entry) (o : ℕ) (e : Entry) → length (high_with high o e) ≡ length high
length-high_with high o e = ⊎_elim (λ l. ap length (high_with_low high o e l)) (λ l. ap length (high_with_high high o e l) ∙ length-set high (number_of o) e) (cases_lt (o % 8) 4)

module _ (low high : List Entry) (o : ℕ) (e : Entry) where
  pub standing_same : number_of o < length low → number_of o < length high → standing (low_with low o e) (high_with high o e) o ≡ e
  standing_same ll hl = ⊎_elim
      (λ l. standing_low (low_with low o e) (high_with high o e) o l ∙ ap (λ x. entry_at x (number_of o)) (low_with_low low o e l) ∙ get_or-set_same low (number_of o) e nothing ll)
      (λ l. standing_high (low_with low o e) (high_with high o e) o l ∙ ap (λ x. entry_at x (number_of o)) (high_with_high high o e l) ∙ get_or-set_same high (number_of o) e nothing hl)
      (cases_lt (o % 8) 4)

  low_other : (k : ℕ) → (k ≡ o → ⊥) → k % 8 < 4 → entry_at (low_with low o e) (number_of k) ≡ entry_at low (number_of k)
  low_other k ne kl = ⊎_elim
      (λ l. ap (λ x. entry_at x (number_of k)) (low_with_low low o e l) ∙ get_or-set_other low (number_of o) (number_of k) e nothing (both_low k o ne kl l))
      (λ l. ap (λ x. entry_at x (number_of k)) (low_with_high low o e l))
      (cases_lt (o % 8) 4)

  high_other : (k : ℕ) → (k ≡ o → ⊥) → 4 ≤ k % 8 → entry_at (high_with high o e) (number_of k) ≡ entry_at high (number_of k)
  high_other k ne kl = ⊎_elim
      (λ l. ap (λ x. entry_at x (number_of k)) (high_with_low high o e l))
      (λ l. ap (λ x. entry_at x (number_of k)) (high_with_high high o e l) ∙ get_or-set_other high (number_of o) (number_of k) e nothing (both_high k o ne kl l))
      (cases_lt (o % 8) 4)

  pub standing_other : (k : ℕ) → (k ≡ o → ⊥) → standing (low_with low o e) (high_with high o e) k ≡ standing low high k
  standing_other k ne = ⊎_elim
      (λ l. standing_low (low_with low o e) (high_with high o e) k l ∙ low_other k ne l ∙ sym (standing_low low high k l))
      (λ l. standing_high (low_with low o e) (high_with high o e) k l ∙ high_other k ne l ∙ sym (standing_high low high k l))
      (cases_lt (k % 8) 4)

-- The event of an entry

pub event_if_none : (first : ℕ) (e : Entry) → e.offset ≡ 4294967295 → event_if first e ≡ None
event_if_none first e is = grind (arith, nat_tests)

pub event_if_some : (first : ℕ) (e : Entry) → e.offset < 4294967295 → event_if first e ≡ Some (event_of first e)
event_if_some first e l = grind (arith, nat_tests)

pub event_if_nothing : (first : ℕ) (e : Entry) → e ≡ nothing → event_if first e ≡ None
event_if_nothing first e is = event_if_none first e (ap (λ (x : Entry). x.offset) is)

pub event_from : (first : ℕ) (e : Event) → first ≤ e.place.0 → event_of first (record { time = e.time; offset = e.place.0 - first; channel = e.channel }) ≡ e
event_from first e l =
    let back : first + (e.place.0 - first) ≡ e.place.0 = omega arith in
    let make : ℕ → Event = λ k. record { time = e.time; place = record { 0 = k }; channel = e.channel } in
    ap make back

-- The queue

pub length-seen : (first count : ℕ) (low high : List Entry) → length (seen first count low high).events ≡ count
length-seen first count low high = length-map-range_with_len (λ o. event_if first (standing low high o)) 0 count

pub seen_at : (first count : ℕ) (low high : List Entry) (k : ℕ) (d : Option Event) → k < count → slice_index_or (seen first count low high).events k d ≡ event_if first (standing low high k)
seen_at first count low high k d l = get_or-map-range_with_len (λ o. event_if first (standing low high o)) 0 count k k d l (omega arith)

pub seen_past : (first count : ℕ) (low high : List Entry) (k : ℕ) → count ≤ k → slice_index_or (seen first count low high).events k None ≡ None
seen_past first count low high k l = get_or_past (seen first count low high).events k None (omega (arith, length-seen first count low high))

-- a place of the queue by its offset
pub seen_place : (first count : ℕ) (low high : List Entry) (q : QueueView) (place : Place) → seen first count low high ≡ q → HasPlace q place
    → (first ≤ place.0) × (place.0 - first < count) × (place.0 - first ≡ place.0 - q.first)
seen_place first count low high q place view has =
    let same : first ≡ q.first = ap (λ (s : QueueView). s.first) view in
    let long : length (seen first count low high).events ≡ length q.events = ap (λ (s : QueueView). length s.events) view in
    let is = length-seen first count low high in
    (omega arith, omega arith, omega arith)

-- no entry stands anywhere
module _ (n : ℕ) where
  pub standing_new : (o : ℕ) → standing (replicate n nothing) (replicate n nothing) o ≡ nothing
  standing_new o = ⊎_elim
      (λ l. standing_low (replicate n nothing) (replicate n nothing) o l ∙ none (number_of o))
      (λ l. standing_high (replicate n nothing) (replicate n nothing) o l ∙ none (number_of o))
      (cases_lt (o % 8) 4)
    where
      none : (i : ℕ) → entry_at (replicate n nothing) i ≡ nothing
      none i = ⊎_elim (λ l. get_or-replicate n i nothing nothing l) (λ l. get_or_past (replicate n nothing) i nothing (omega (arith, length-replicate n nothing))) (cases_lt i n)

pub sound_new : (first count n : ℕ) → first + count < 2 ^ 64 → count < 2 ^ 32 → n ≡ half_of count → IsSound first count (replicate n nothing) (replicate n nothing)
sound_new first count n places few is = record {
  places = places;
  few = few;
  low_long = length-replicate n nothing ∙ is;
  high_long = length-replicate n nothing ∙ is;
  own = λ o. inl (standing_new n o);
}

pub seen_new : (first count n : ℕ) → seen first count (replicate n nothing) (replicate n nothing) ≡ record { first = first; events = replicate count None }
seen_new first count n =
    let made : List (Option Event) → QueueView = λ es. record { first = first; events = es } in
    ap made (same_lists _ _ (length-seen first count (replicate n nothing) (replicate n nothing) ∙ sym (length-replicate count None)) each)
  where
    each : (k : ℕ) (d : Option Event) → k < length (seen first count (replicate n nothing) (replicate n nothing)).events → slice_index_or (seen first count (replicate n nothing) (replicate n nothing)).events k d ≡ slice_index_or (replicate count None) k d
    each k d l =
        let kl : k < count = omega (arith, length-seen first count (replicate n nothing) (replicate n nothing)) in
        seen_at first count (replicate n nothing) (replicate n nothing) k d kl ∙ event_if_nothing first (standing (replicate n nothing) (replicate n nothing) k) (standing_new n k) ∙ sym (get_or-replicate count k None d kl)

-- an entry is put at an offset
module _ (first count : ℕ) (low high : List Entry) (sound : IsSound first count low high) (o : ℕ) (e : Entry) (within : o < count) where
  low_within : number_of o < length low
  low_within = omega (arith, number_within count o within, sound.low_long)

  high_within : number_of o < length high
  high_within = omega (arith, number_within count o within, sound.high_long)

  pub sound_put : MayStand count o e → IsSound first count (low_with low o e) (high_with high o e)
  sound_put may = record {
    places = sound.places;
    few = sound.few;
    low_long = length-low_with low o e ∙ sound.low_long;
    high_long = length-high_with high o e ∙ sound.high_long;
    own = λ k. same_or k o
        (λ is. subst (λ j. MayStand count j (standing (low_with low o e) (high_with high o e) j)) (sym is) (subst (MayStand count o) (sym (standing_same low high o e low_within high_within)) may))
        (λ ne. subst (MayStand count k) (sym (standing_other low high o e k ne)) (sound.own k));
  }

  pub seen_put : (seen first count (low_with low o e) (high_with high o e)).events ≡ set (seen first count low high).events o (event_if first e)
  seen_put = same_lists _ _ (length-seen first count (low_with low o e) (high_with high o e) ∙ sym (length-set (seen first count low high).events o (event_if first e) ∙ length-seen first count low high)) each
    where
      each : (k : ℕ) (d : Option Event) → k < length (seen first count (low_with low o e) (high_with high o e)).events
          → slice_index_or (seen first count (low_with low o e) (high_with high o e)).events k d ≡ slice_index_or (set (seen first count low high).events o (event_if first e)) k d
      each k d l =
          let kl : k < count = omega (arith, length-seen first count (low_with low o e) (high_with high o e)) in
          let ol : o < length (seen first count low high).events = omega (arith, within, length-seen first count low high) in
          seen_at first count (low_with low o e) (high_with high o e) k d kl ∙ same_or k o
          (λ is.
          ap (event_if first) (ap (standing (low_with low o e) (high_with high o e)) is ∙ standing_same low high o e low_within high_within)
          ∙ sym (ap (λ i. slice_index_or (set (seen first count low high).events o (event_if first e)) i d) is ∙ get_or-set_same (seen first count low high).events o (event_if first e) d ol))
          (λ ne.
          ap (event_if first) (standing_other low high o e k ne)
          ∙ sym (get_or-set_other (seen first count low high).events o k (event_if first e) d ne ∙ seen_at first count low high k d kl))

-- the same of the halves and of the queue that the code has
pub seen_set : (first count : ℕ) (low high low' high' : List Entry) (o k : ℕ) (e : Entry) (z : Option Event) (q : QueueView) → IsSound first count low high → o < count → seen first count low high ≡ q
    → low' ≡ low_with low o e → high' ≡ high_with high o e → event_if first e ≡ z → o ≡ k → seen first count low' high' ≡ record { first = q.first; events = set q.events k z }
seen_set first count low high low' high' o k e z q sound within view is_low is_high is_event is_offset =
    let made : List (Option Event) → QueueView = λ es. record { first = first; events = es } in
    let changed : QueueView → QueueView = λ s. record { first = s.first; events = set s.events k z } in
    ap (λ x. seen first count x high') is_low ∙ ap (λ x. seen first count (low_with low o e) x) is_high
    ∙ ap made (seen_put first count low high sound o e within ∙ ap (λ y. set (seen first count low high).events o y) is_event ∙ ap (λ i. set (seen first count low high).events i z) is_offset)
    ∙ ap changed view

pub sound_set : (first count : ℕ) (low high low' high' : List Entry) (o : ℕ) (e : Entry) → IsSound first count low high → o < count → MayStand count o e → low' ≡ low_with low o e → high' ≡ high_with high o e → IsSound first count low' high'
sound_set first count low high low' high' o e sound within may is_low is_high =
    subst (λ x. IsSound first count x high') (sym is_low) (subst (λ x. IsSound first count (low_with low o e) x) (sym is_high) (sound_put first count low high sound o e within may))

-- nothing is dropped where nothing stands
pub seen_unset : (first count : ℕ) (low high : List Entry) (o k : ℕ) (x : Entry) (q : QueueView) → seen first count low high ≡ q → o < count → x ≡ standing low high o → x.offset ≡ 4294967295 → o ≡ k
    → q ≡ record { first = q.first; events = set q.events k None }
seen_unset first count low high o k x q view within is none is_offset =
    let e : slice_index_or q.events k None ≡ None = ap (λ (s : QueueView). slice_index_or s.events k None) (sym view) ∙ ap (λ i. slice_index_or (seen first count low high).events i None) (sym is_offset)
    ∙ seen_at first count low high o None within ∙ event_if_none first (standing low high o) (ap (λ (y : Entry). y.offset) (sym is) ∙ none) in
    let made : List (Option Event) → QueueView = λ es. record { first = q.first; events = es } in
    ap made (sym (set-get_or q.events k None) ∙ ap (λ y. set q.events k y) e)

-- what is read at an offset
pub seen_get : (first count : ℕ) (low high : List Entry) (q : QueueView) (place : Place) (x : Entry) (r : Option Event) → seen first count low high ≡ q → HasPlace q place
    → x ≡ standing low high (place.0 - first) → r ≡ event_if first x → r ≡ event_at q place
seen_get first count low high q place x r view has is read =
    let p = seen_place first count low high q place view has in
    read ∙ ap (event_if first) is ∙ sym (seen_at first count low high (place.0 - first) None p.1)
    ∙ ap (λ (s : QueueView). slice_index_or s.events (place.0 - first) None) view ∙ ap (λ i. slice_index_or q.events i None) p.2
