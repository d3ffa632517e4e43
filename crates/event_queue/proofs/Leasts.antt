-- The earliest of the kept events, and the winner of the two halves.
use Rattle.std.proofs.Common.{◌≡◌, ℕ, zero, suc, ◌+◌, ◌-◌, ◌%◌, ◌<◌, ◌^◌, ◌⊎◌, Bool, true, false, List, length, refl, sym, ap, ◌∙◌, subst, arith, cond, slice_index_or, Option, Some, None}
use Rattle.std.specs.Prelude.{MatchOption}
use Rattle.surf_kinds.specs.Keys.{is_earlier, earlier}
use Rattle.surf_kinds.specs.declared.event.Event.{Event}
use Rattle.event_queue.specs.declared.entry.Entry.{Entry}
use Rattle.event_queue.specs.QueueView.{QueueView, IsLeast, IsEmpty, least_among}
use Rattle.event_queue.specs.Tournament.{entry_at, nothing, precedes, event_of, IsWinner}
use Rattle.event_queue.specs.Halves.{number_of, low_offset, high_offset, standing, event_if, seen, MayStand, IsSound}
use Rattle.event_queue.proofs.Order.{same_or}
use Rattle.event_queue.proofs.Orders.{not_before_by, before_nothing, is_earlier-event_of, same_place}
use Rattle.event_queue.proofs.Halves.{number_within, low_number, low_side, high_number, high_side, standing_low, standing_high, event_if_nothing, event_if_some, length-seen, seen_at, seen_past}
use Rattle.std.proofs.lemmas.Bool.{cases_lt, both_ways}
use Rattle.std.proofs.lemmas.Option.{none-some, same_Some}
use mathlib.Core.Logic.{⊎_elim}

pub least_among-none : (xs : List (Option Event)) (n : ℕ) → ((k : ℕ) → slice_index_or xs k None ≡ None) → least_among xs n ≡ None
least_among-none xs zero h = refl
least_among-none xs (suc n) h = ap (λ y. earlier (least_among xs n) y) (h n) ∙ ap (λ y. earlier y None) (least_among-none xs n h)

chosen : (b : Bool) (x y m : Event) → cond b (Some y) (Some x) ≡ Some m → {P : Type 0} → (y ≡ m → P) → (x ≡ m → P) → P
chosen true x y m e l r = l (same_Some y m e)
chosen false x y m e l r = r (same_Some x m e)

abbrev IsIn : List (Option Event) → Event → Type 0
IsIn xs m = (k : ℕ) × (slice_index_or xs k None ≡ Some m)

earlier_in : (xs : List (Option Event)) (n : ℕ) (o p : Option Event) (m : Event) → ((y : Event) → o ≡ Some y → IsIn xs y) → ((y : Event) → p ≡ Some y → IsIn xs y) → earlier o p ≡ Some m → IsIn xs m
earlier_in xs n None p m first last is = last m is
earlier_in xs n (Some x) None m first last is = first m is
earlier_in xs n (Some x) (Some y) m first last is = chosen (is_earlier y x) x y m is
    (λ ym. last m (ap (λ (v : Event). Some v) ym))
    (λ xm. first m (ap (λ (v : Event). Some v) xm))

-- the earliest is one of them
least_among-in : (xs : List (Option Event)) (n : ℕ) (m : Event) → least_among xs n ≡ Some m → IsIn xs m
least_among-in xs zero m e = absurd (none-some m e)
least_among-in xs (suc n) m e = earlier_in xs n (least_among xs n) (slice_index_or xs n None) m (λ y s. least_among-in xs n y s) (λ y s. (n, s)) e

-- e comes last, and no event before it is at its key
earlier_last : (xs : List (Option Event)) (e : Event) (o : Option Event) → ((m : Event) → o ≡ Some m → IsIn xs m) → ((j : ℕ) (f : Event) → slice_index_or xs j None ≡ Some f → is_earlier e f ≡ false → f ≡ e) → earlier o (Some e) ≡ Some e
earlier_last xs e None inside alone = refl
earlier_last xs e (Some m) inside alone = pick (is_earlier e m) refl (inside m refl)
  where
    pick : (b : Bool) → is_earlier e m ≡ b → IsIn xs m → cond (is_earlier e m) (Some e) (Some m) ≡ Some e
    pick true is r = ap (λ b. cond b (Some e) (Some m)) is
    pick false is r = ap (λ b. cond b (Some e) (Some m)) is ∙ ap (λ (v : Event). Some v) (alone r.0 m r.1 is)

-- e came first, and what comes last isn't before it
earlier_first : (e : Event) (o : Option Event) → ((m : Event) → o ≡ Some m → is_earlier m e ≡ false) → earlier (Some e) o ≡ Some e
earlier_first e None not = refl
earlier_first e (Some m) not = ap (λ b. cond b (Some m) (Some e)) (not m refl)

-- e is one of them, none is before it, and none else is at its key
pub least_among-some : (xs : List (Option Event)) (n : ℕ) (e : Event) (k : ℕ) → k < n → slice_index_or xs k None ≡ Some e
    → ((j : ℕ) (f : Event) → slice_index_or xs j None ≡ Some f → is_earlier f e ≡ false)
    → ((j : ℕ) (f : Event) → slice_index_or xs j None ≡ Some f → is_earlier e f ≡ false → f ≡ e)
    → least_among xs n ≡ Some e
least_among-some xs zero e k l at none_before alone = absurd (omega arith)
least_among-some xs (suc n) e k l at none_before alone = same_or k n
    (λ kn. ap (λ o. earlier (least_among xs n) o) (ap (λ i. slice_index_or xs i None) (sym kn) ∙ at) ∙ earlier_last xs e (least_among xs n) (λ m s. least_among-in xs n m s) alone)
    (λ ne.
    let before : k < n = omega (arith, ne) in
    ap (λ o. earlier o (slice_index_or xs n None)) (least_among-some xs n e k before at none_before alone) ∙ earlier_first e (slice_index_or xs n None) (λ m s. none_before n m s))

-- e is the entry of an event, at an offset
record IsEntry (count : ℕ) (low high : List Entry) (o : ℕ) (e : Entry) : Type 0 where
  stands : standing low high o ≡ e
  own : e.offset ≡ o
  within : o < count
  early : e.time < 18446744073709551616

-- what may stand at an offset, as a step by cases
by_entry : {P : Type 0} (count : ℕ) (low high : List Entry) (o : ℕ) → MayStand count o (standing low high o) → (standing low high o ≡ nothing → P) → (IsEntry count low high o (standing low high o) → P) → P
by_entry count low high o may none some = ⊎_elim none (λ r. some (record { stands = refl; own = r.0; within = r.1; early = r.2 })) may

module _ (first count : ℕ) (low high : List Entry) (sound : IsSound first count low high) where
  -- an event that is seen is that of an entry at its offset
  seen_some : (k : ℕ) (f : Event) → slice_index_or (seen first count low high).events k None ≡ Some f → (IsEntry count low high k (standing low high k)) × (event_of first (standing low high k) ≡ f)
  seen_some k f e = ⊎_elim
      (λ l. by_entry count low high k (sound.own k)
      (λ none. absurd (none-some f (sym (seen_at first count low high k None l ∙ event_if_nothing first (standing low high k) none) ∙ e)))
      (λ r. (r, same_Some (event_of first (standing low high k)) f (sym (seen_at first count low high k None l ∙ event_if_some first (standing low high k) (omega (arith, r.own, r.within, sound.few))) ∙ e))))
      (λ past. absurd (none-some f (sym (seen_past first count low high k past) ∙ e)))
      (cases_lt k count)

  -- the winner of a half is nothing, or the entry of an event
  low_entry : {P : Type 0} (e : Entry) → IsWinner low e → (e ≡ nothing → P) → ((o : ℕ) → IsEntry count low high o e → P) → P
  low_entry {P} e w none some = ⊎_elim none (λ r. at r.0 r.2) w.among
    where
      at : (i : ℕ) → entry_at low i ≡ e → P
      at i is =
          let here : standing low high (low_offset i) ≡ e = standing_low low high (low_offset i) (low_side i) ∙ ap (entry_at low) (low_number i) ∙ is in
          by_entry count low high (low_offset i) (sound.own (low_offset i)) (λ n. none (sym here ∙ n)) (λ r. some (low_offset i) (subst (IsEntry count low high (low_offset i)) here r))

  high_entry : {P : Type 0} (e : Entry) → IsWinner high e → (e ≡ nothing → P) → ((o : ℕ) → IsEntry count low high o e → P) → P
  high_entry {P} e w none some = ⊎_elim none (λ r. at r.0 r.2) w.among
    where
      at : (i : ℕ) → entry_at high i ≡ e → P
      at i is =
          let here : standing low high (high_offset i) ≡ e = standing_high low high (high_offset i) (high_side i) ∙ ap (entry_at high) (high_number i) ∙ is in
          by_entry count low high (high_offset i) (sound.own (high_offset i)) (λ n. none (sym here ∙ n)) (λ r. some (high_offset i) (subst (IsEntry count low high (high_offset i)) here r))

  -- the lesser of the winners of both halves
  module _ (l h e : Entry) (low_wins : IsWinner low l) (high_wins : IsWinner high h) (one : (e ≡ l) ⊎ (e ≡ h)) (not_low : precedes l e ≡ false) (not_high : precedes h e ≡ false) where
    entry : {P : Type 0} → (e ≡ nothing → P) → ((o : ℕ) → IsEntry count low high o e → P) → P
    entry none some = ⊎_elim
        (λ is. low_entry l low_wins (λ n. none (is ∙ n)) (λ o r. some o (subst (IsEntry count low high o) (sym is) r)))
        (λ is. high_entry h high_wins (λ n. none (is ∙ n)) (λ o r. some o (subst (IsEntry count low high o) (sym is) r)))
        one

    none_earlier : (o : ℕ) → o < count → precedes (standing low high o) e ≡ false
    none_earlier o within = ⊎_elim
        (λ s. ap (λ x. precedes x e) (standing_low low high o s)
        ∙ not_before_by (entry_at low (number_of o)) l e (low_wins.none_before (number_of o) (omega (arith, number_within count o within, sound.low_long))) not_low)
        (λ s. ap (λ x. precedes x e) (standing_high low high o s)
        ∙ not_before_by (entry_at high (number_of o)) h e (high_wins.none_before (number_of o) (omega (arith, number_within count o within, sound.high_long))) not_high)
        (cases_lt (o % 8) 4)

    empty : e ≡ nothing → IsEmpty (seen first count low high)
    empty none k = ⊎_elim
        (λ within. by_entry count low high k (sound.own k)
        (λ n. seen_at first count low high k None within ∙ event_if_nothing first (standing low high k) n)
        (λ r. absurd (both_ways (precedes (standing low high k) nothing) (ap (precedes (standing low high k)) (sym none) ∙ none_earlier k within) (before_nothing (standing low high k) r.early (omega (arith, r.own, r.within, sound.few))))))
        (λ past. seen_past first count low high k past)
        (cases_lt k count)

    module _ (o : ℕ) (r : IsEntry count low high o e) where
      back : (first + e.offset) - first ≡ o
      back = omega (arith, r.own)

      kept : slice_index_or (seen first count low high).events ((first + e.offset) - first) None ≡ Some (event_of first e)
      kept = ap (λ k. slice_index_or (seen first count low high).events k None) back ∙ seen_at first count low high o None r.within ∙ ap (event_if first) r.stands ∙ event_if_some first e (omega (arith, r.own, r.within, sound.few))

      least : IsLeast (seen first count low high) (event_of first e)
      least = record {
        has_place = (omega arith, omega (arith, length-seen first count low high, r.own, r.within));
        is_kept = kept;
        none_before = λ k f s.
            let t = seen_some k f s in
            ap (λ x. is_earlier x (event_of first e)) (sym t.1) ∙ is_earlier-event_of first (standing low high k) e ∙ none_earlier k t.0.within;
      }

      -- an event that the least isn't before is the least itself
      alone : (k : ℕ) (f : Event) → slice_index_or (seen first count low high).events k None ≡ Some f → is_earlier (event_of first e) f ≡ false → f ≡ event_of first e
      alone k f s not =
          let t = seen_some k f s in
          let at : f.place.0 ≡ first + k = ap (λ (v : Event). v.place.0) (sym t.1) ∙ ap (λ i. first + i) t.0.own in
          let same : f.place.0 ≡ first + e.offset = same_place f (event_of first e) (least.none_before k f s) not in
          let here : k ≡ (first + e.offset) - first = omega (arith, at, same) in
          same_Some f (event_of first e) (sym s ∙ ap (λ i. slice_index_or (seen first count low high).events i None) here ∙ kept)

      earliest : least_among (seen first count low high).events (length (seen first count low high).events) ≡ Some (event_of first e)
      earliest = least_among-some (seen first count low high).events (length (seen first count low high).events) (event_of first e) ((first + e.offset) - first)
          (omega (arith, length-seen first count low high, r.own, r.within)) kept least.none_before alone

    pub fits : e.offset < 4294967295 → first + e.offset < 2 ^ 64
    fits l = entry (λ none. absurd (omega (arith, ap (λ (x : Entry). x.offset) none, l))) (λ o r. omega (arith, r.own, r.within, sound.places))

    pub least_is : (x : Option Event) (q : QueueView) → x ≡ event_if first e → seen first count low high ≡ q → MatchOption x (IsEmpty q) (λ y. IsLeast q y)
    least_is x q is view = subst (λ (s : QueueView). MatchOption x (IsEmpty s) (λ y. IsLeast s y)) view (entry
        (λ none. subst (λ (y : Option Event). MatchOption y (IsEmpty (seen first count low high)) (λ z. IsLeast (seen first count low high) z)) (sym (is ∙ event_if_nothing first e none)) (empty none))
        (λ o r. subst (λ (y : Option Event). MatchOption y (IsEmpty (seen first count low high)) (λ z. IsLeast (seen first count low high) z)) (sym (is ∙ event_if_some first e (omega (arith, r.own, r.within, sound.few)))) (least o r)))

    pub earliest_is : (x : Option Event) (q : QueueView) → x ≡ event_if first e → seen first count low high ≡ q → x ≡ least_among q.events (length q.events)
    earliest_is x q is view = subst (λ (s : QueueView). x ≡ least_among s.events (length s.events)) view (entry
        (λ none. is ∙ event_if_nothing first e none ∙ sym (least_among-none (seen first count low high).events (length (seen first count low high).events) (empty none)))
        (λ o r. is ∙ event_if_some first e (omega (arith, r.own, r.within, sound.few)) ∙ sym (earliest o r)))
