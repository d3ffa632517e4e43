-- Entries whose keys rise, and how a key cuts them.
use Rattle.std.proofs.Common.{◌≡◌, ℕ, zero, suc, ◌+◌, ◌-◌, List, [], ◌∷◌, ◌++◌, Option, Some, None, Bool, true, false, inl, inr, refl, sym, ap, ◌∙◌, subst, arith, cond, length, drop, ◌<◌, ◌≤◌, ◌⊎◌}
use Rattle.std.specs.Prelude.{IfSome, filter, not, nat_lt, position, slice_get}
use Rattle.std.specs.List.{last_or, position_or_len}
use Rattle.std.proofs.lemmas.Option.{none-some, same_Some, slice_get_within}
use Rattle.std.proofs.lemmas.Bool.{cases_lt, lt-ltb}
use Rattle.std.proofs.lemmas.List.{drop_all}
use Rattle.std.proofs.lemmas.List.Filters.{length-filter_both}
use Rattle.surf_kinds.specs.declared.event.Key.{Key}
use Rattle.surf_kinds.specs.Keys.{is_before, ◌is_below◌, ◌is_upto◌, keep, AllKeys, IsRising, RiseFrom, RiseStrictly}
use Rattle.surf_kinds.proofs.Order.{lt_lt, le_lt, lt_to_le, key_cases}
use Rattle.surf_kinds.proofs.Tables.{AllKeys_weaker, IsRising_keep}
use Rattle.surf_kinds.proofs.Rising.{strictly, rises}
use Rattle.timeline.specs.declared.entry.Entry.{Entry}
use Rattle.timeline.specs.TimelineView.{events_of, entry_key, below, from, EndsBelow, IsLater}

abbrev pub Rise : List Entry → Type 0
Rise entries = RiseStrictly (events_of entries)

-- more entries, or fewer

rise_more : (e : Entry) (entries : List Entry) (new : Entry) → RiseFrom e.before.event (events_of entries) → IsLater (e ∷ entries) new → RiseFrom e.before.event (events_of (entries ++ new ∷ []))
rise_more e [] new r later = (later, tt)
rise_more e (f ∷ entries) new r later = (r.0, rise_more f entries new r.1 later)

pub rise_pushed : (entries : List Entry) (new : Entry) → Rise entries → IsLater entries new → Rise (entries ++ new ∷ [])
rise_pushed [] new r later = tt
rise_pushed (e ∷ entries) new r later = rise_more e entries new r later

rise_less : (e : Entry) (entries : List Entry) (last : Entry) → RiseFrom e.before.event (events_of (entries ++ last ∷ [])) → RiseFrom e.before.event (events_of entries)
rise_less e [] last r = tt
rise_less e (f ∷ entries) last r = (r.0, rise_less f entries last r.1)

pub rise_popped : (entries : List Entry) (last : Entry) → Rise (entries ++ last ∷ []) → Rise entries
rise_popped [] last r = tt
rise_popped (e ∷ entries) last r = rise_less e entries last r

-- the events of the entries whose keys pass a test
events_of-filter : (test : Key → Bool) (entries : List Entry) → events_of (filter (λ e. test (entry_key e)) entries) ≡ keep test (events_of entries)
events_of-filter test [] = refl
events_of-filter test (e ∷ entries) = either (test (entry_key e)) (events_of-filter test entries)
  where
    either : (b : Bool) → events_of (filter (λ f. test (entry_key f)) entries) ≡ keep test (events_of entries)
        → events_of (cond b (e ∷ filter (λ f. test (entry_key f)) entries) (filter (λ f. test (entry_key f)) entries)) ≡ cond b (e.before.event ∷ keep test (events_of entries)) (keep test (events_of entries))
    either true h = ap (λ l. e.before.event ∷ l) h
    either false h = h

rise_filtered : (test : Key → Bool) (entries : List Entry) → Rise entries → Rise (filter (λ e. test (entry_key e)) entries)
rise_filtered test entries r =
    subst RiseStrictly (sym (events_of-filter test entries)) (strictly (keep test (events_of entries)) (IsRising_keep test (events_of entries) (rises (events_of entries) r)))

pub rise_below : (key : Key) (entries : List Entry) → Rise entries → Rise (below key entries)
rise_below key entries r = rise_filtered (λ j. is_before j key) entries r

pub rise_from : (key : Key) (entries : List Entry) → Rise entries → Rise (from key entries)
rise_from key entries r = rise_filtered (λ j. not (is_before j key)) entries r

-- cuts

below_cons : (key : Key) (e : Entry) (entries : List Entry) → entry_key e is_below key → below key (e ∷ entries) ≡ e ∷ below key entries
below_cons key e entries h = ap (λ b. cond b (e ∷ below key entries) (below key entries)) h

pub below_skip : (key : Key) (e : Entry) (entries : List Entry) → key is_upto entry_key e → below key (e ∷ entries) ≡ below key entries
below_skip key e entries h = ap (λ b. cond b (e ∷ below key entries) (below key entries)) h

pub from_cons : (key : Key) (e : Entry) (entries : List Entry) → key is_upto entry_key e → from key (e ∷ entries) ≡ e ∷ from key entries
from_cons key e entries h = ap (λ b. cond (not b) (e ∷ from key entries) (from key entries)) h

from_skip : (key : Key) (e : Entry) (entries : List Entry) → entry_key e is_below key → from key (e ∷ entries) ≡ from key entries
from_skip key e entries h = ap (λ b. cond (not b) (e ∷ from key entries) (from key entries)) h

-- where the last is below the key, all are
ends_below : (key : Key) (entries : List Entry) → IsRising (events_of entries) → EndsBelow key entries → AllKeys (λ j. j is_below key) (events_of entries)
ends_below key [] r last = tt
ends_below key (e ∷ []) r last = (last, tt)
ends_below key (e ∷ f ∷ entries) r last =
    let rest = ends_below key (f ∷ entries) r.1 last in (lt_lt (entry_key e) (entry_key f) key r.0.0 rest.0, rest)

cut_all : (key : Key) (entries : List Entry) → AllKeys (λ j. j is_below key) (events_of entries) → (below key entries ≡ entries) × (from key entries ≡ [])
cut_all key [] all = (refl, refl)
cut_all key (e ∷ entries) all =
    let rest = cut_all key entries all.1 in
    (below_cons key e entries all.0 ∙ ap (λ l. e ∷ l) rest.0, from_skip key e entries all.0 ∙ rest.1)

cut_none : (key : Key) (entries : List Entry) → AllKeys (λ j. key is_upto j) (events_of entries) → (below key entries ≡ []) × (from key entries ≡ entries)
cut_none key [] all = (refl, refl)
cut_none key (e ∷ entries) all =
    let rest = cut_none key entries all.1 in
    (below_skip key e entries all.0 ∙ rest.0, from_cons key e entries all.0 ∙ ap (λ l. e ∷ l) rest.1)

pub all_below : (key : Key) (entries : List Entry) → Rise entries → EndsBelow key entries → (below key entries ≡ entries) × (from key entries ≡ [])
all_below key entries r last = cut_all key entries (ends_below key entries (rises (events_of entries) r) last)

none_below : (key : Key) (e : Entry) (entries : List Entry) → IsRising (events_of (e ∷ entries)) → key is_upto entry_key e → (below key (e ∷ entries) ≡ []) × (from key (e ∷ entries) ≡ e ∷ entries)
none_below key e entries r h =
    cut_none key (e ∷ entries) (h, AllKeys_weaker (λ j. entry_key e is_below j) (λ j. key is_upto j) (λ j l. lt_to_le key j (le_lt key (entry_key e) j h l)) (events_of entries) r.0)

parts_of : (key : Key) (entries : List Entry) → IsRising (events_of entries) → entries ≡ below key entries ++ from key entries
parts_of key [] r = refl
parts_of key (e ∷ entries) r =
    elim (key_cases (entry_key e) key) [
      | inl h ↦ ap (λ l. e ∷ l) (parts_of key entries r.1) ∙ (ap (λ l. l ++ from key entries) (sym (below_cons key e entries h)) ∙ ap (λ l. below key (e ∷ entries) ++ l) (sym (from_skip key e entries h)))
      | inr h ↦
          let none = none_below key e entries r h in
          sym (ap (λ l. l ++ from key (e ∷ entries)) none.0 ∙ none.1)
    ]

-- a key parts entries whose keys rise
pub parts : (key : Key) (entries : List Entry) → Rise entries → entries ≡ below key entries ++ from key entries
parts key entries r = parts_of key entries (rises (events_of entries) r)

-- how many entries come before the first from a key on
abbrev count_before : Key → List Entry → ℕ
count_before key entries = position_or_len (λ e. not (is_before (entry_key e) key)) entries

begins : (key : Key) (entries : List Entry) → IsRising (events_of entries) → drop (count_before key entries) entries ≡ from key entries
begins key [] r = refl
begins key (e ∷ entries) r =
    let n = count_before key entries in
    let at : Bool → List Entry = λ b. drop (cond (not (not b)) (1 + n) 0) (e ∷ entries) in
    let next : 1 + n ≡ suc n = omega arith in
    elim (key_cases (entry_key e) key) [
      | inl h ↦ ap at h ∙ (ap (λ m. drop m (e ∷ entries)) next ∙ (begins key entries r.1 ∙ sym (from_skip key e entries h)))
      | inr h ↦ ap at h ∙ sym (none_below key e entries r h).1
    ]

-- the entries from a key on are those behind the first of them
pub begins_at : (key : Key) (entries : List Entry) (index : ℕ) → Rise entries → position (λ e. not (is_before (entry_key e) key)) entries ≡ Some index → drop index entries ≡ from key entries
begins_at key entries index r is = by (nat_lt (count_before key entries) (length entries)) is
  where
    by : (b : Bool) → cond b (Some (count_before key entries)) None ≡ Some index → drop index entries ≡ from key entries
    by true h = ap (λ n. drop n entries) (sym (same_Some (count_before key entries) index h)) ∙ begins key entries (rises (events_of entries) r)
    by false h = absurd (none-some index h)

pub begins_nowhere : (key : Key) (entries : List Entry) → Rise entries → position (λ e. not (is_before (entry_key e) key)) entries ≡ None → drop (length entries) entries ≡ from key entries
begins_nowhere key entries r is = by (cases_lt (count_before key entries) (length entries))
  where
    by : (count_before key entries < length entries) ⊎ (length entries ≤ count_before key entries) → drop (length entries) entries ≡ from key entries
    by (inl h) = absurd (none-some (count_before key entries) (sym is ∙ ap (λ b. cond b (Some (count_before key entries)) None) (lt-ltb _ _ h)))
    by (inr h) = drop_all (length entries) entries (omega arith) ∙ (sym (drop_all (count_before key entries) entries h) ∙ begins key entries (rises (events_of entries) r))

-- no entry is lost
pub lengths : (key : Key) (entries : List Entry) → length (from key entries) + length (below key entries) ≡ length entries
lengths key entries =
    omega (arith, length-filter_both (λ e. is_before (entry_key e) key) (λ e. not (is_before (entry_key e) key)) (λ e. refl) entries)

-- the last entry, by its index
last_at : (o : Option Entry) (entries : List Entry) (n : ℕ) (last : Entry) → n + 1 ≡ length entries → slice_get entries n ≡ Some last → last_or o entries ≡ Some last
last_at o [] n last long at = absurd (omega (arith, long))
last_at o (e ∷ []) zero last long at = at
last_at o (e ∷ []) (suc n) last long at = absurd (omega (arith, long))
last_at o (e ∷ f ∷ entries) zero last long at = absurd (omega (arith, long))
last_at o (e ∷ f ∷ entries) (suc n) last long at = last_at (Some e) (f ∷ entries) n last (omega (arith, long)) at

pub ends_at : (key : Key) (entries : List Entry) (last : Entry) → slice_get entries (length entries - 1) ≡ Some last → entry_key last is_below key → EndsBelow key entries
ends_at key entries last at below =
    let is : last_or None entries ≡ Some last = last_at None entries (length entries - 1) last (omega (arith, slice_get_within entries (length entries - 1) last at)) at in
    subst (λ o. IfSome o (λ e. entry_key e is_below key)) (sym is) below
