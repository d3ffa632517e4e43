-- The next entry of a region, from its queue and its two stacks.
use Rattle.std.proofs.Common.{◌≡◌, ℕ, suc, ◌-◌, ◌<◌, ◌≤◌, true, false, ◌==◌, ◌⊎◌, inl, inr, List, [], refl, sym, ap, ◌∙◌, subst, arith, slice_index_or, Option, Some, None, cond}
use Rattle.std.specs.Prelude.{IfSome, IfNone, MatchOption, nat_le, nat_lt}
use Rattle.std.proofs.lemmas.Bool.{both_ways, cases_Bool, eq-eqb, eqb-true, and_from, and_parts, leb-true, le-leb, lt-ltb}
use Rattle.std.proofs.lemmas.Bool.Decides.{eqb_tells}
use Rattle.std.proofs.lemmas.Option.{none-some, same_Some}
use Rattle.surf_kinds.specs.declared.event.Event.{Event}
use Rattle.surf_kinds.specs.declared.event.Key.{Key}
use Rattle.surf_kinds.specs.declared.site.SiteState.{SiteState}
use Rattle.surf_kinds.specs.Keys.{is_earlier, same_key, key_of, at, from, RiseStrictly, ◌is_upto◌, ◌is_below◌}
use Rattle.surf_kinds.proofs.Order.{key_cases, same_refl, same_is, lt_to_le, le_le}
use Rattle.surf_kinds.proofs.Tables.{AllKeys_weaker}
use Rattle.surf_kinds.proofs.Rising.{rises}
use Rattle.lattice.specs.Places.{IsPlace}
use Rattle.lattice.specs.Ranges.{is_in_range}
use Rattle.lattice.specs.Surface.{first_surface}
use Rattle.lattice.specs.declared.place_range.PlaceRange.{PlaceRange}
use Rattle.plan.specs.Network.{Network}
use Rattle.plan.specs.Next.{next}
use Rattle.plan.specs.History.{if_at}
use Rattle.plan.proofs.LawLemmas.{offer_place, offer_fits, fits_is_place}
use Rattle.regions.specs.Bands.{Bands, owner_of}
use Rattle.event_queue.specs.QueueView.{QueueView, HasPlace, IsLeast, IsEmpty}
use Rattle.next_events.specs.Entries.{CoversRange}
use Rattle.next_events.proofs.LawLemmas.{covers_range}
use Rattle.timeline.specs.TimelineView.{events_of}
use Rattle.border.specs.Stacked.{stack_of}
use Rattle.warp_core.specs.World.{World, IsWorld, IsMonotone, is_own, after_all}
use Rattle.warp_core.specs.Timelines.{due_at, IsNext, IsNothingDue}
use Rattle.warp_core.specs.Parts.{Part, IsNextEntry, HasNoEntry, received_at}
use Rattle.warp_core.proofs.LawLemmas.{if_at_some, unwound, not_before_clock, is_world, is_monotone, same_after_all, ground_sites, IsBest, best_start, best_next, best_none}
use Rattle.warp_core.specs.Choices.{earlier_due_of}
use Rattle.region_run.specs.Choices.{first_of, IsFirst}
use Rattle.region_run.specs.Sides.{SideView, is_other}
use Rattle.region_run.specs.declared.region.Region.{Region}
use Rattle.region_run.specs.Regions.{Base, world_at, part_of, IsRegion}
use Rattle.region_run.proofs.Bests.{best_add, first_stack}

-- a place of the queue is one of the range
pub in_range : (r : PlaceRange) (q : QueueView) (p : ℕ) → CoversRange r q → HasPlace q (record { 0 = p }) → is_in_range r p ≡ true
in_range r q p c h = and_from (nat_le r.first p) (nat_lt p r.end) (le-leb r.first p (omega (arith, h.0, c.first))) (lt-ltb p r.end (omega (arith, h.1, c.end)))

pub range_parts : (r : PlaceRange) (p : ℕ) → is_in_range r p ≡ true → (r.first ≤ p) × (p < r.end)
range_parts r p h = let both = and_parts (nat_le r.first p) (nat_lt p r.end) h in (leb-true r.first p both.0, leb-true (suc p) r.end both.1)

key_from : (k : Key) (o : Option Event) (f : Event) → if_at k o ≡ Some f → key_of f ≡ k
key_from k None f g = absurd (none-some f g)
key_from k (Some x) f g =
    elim (cases_Bool (same_key (key_of x) k)) [
      | inl q ↦ ap key_of (sym (same_Some x f (sym (ap (λ b. cond b (Some x) None) q) ∙ g))) ∙ same_is (key_of x) k q
      | inr q ↦ absurd (none-some f (sym (ap (λ b. cond b (Some x) None) q) ∙ g))
    ]

not_before_le : (e f : Event) → is_earlier f e ≡ false → key_of e is_upto key_of f
not_before_le e f h = h

module _ (n : Network) (b : Bands) (until : ℕ) (x : Base) (r : Region) (g : IsRegion n b until x r) where
  w : World
  w = world_at n b until x

  sites : List SiteState
  sites = r.board.surface.sites

  p : Part
  p = part_of r

  laws : IsWorld (world_at n b until x)
  laws = is_world n b until (first_surface x.cells) g.cut g.lattice g.short

  mono : IsMonotone (world_at n b until x)
  mono = is_monotone n b until (first_surface x.cells)

  pub sites_are : r.board.surface.sites ≡ after_all (world_at n b until x) x.surface.sites (events_of r.board.timeline.entries)
  sites_are =
      (ground_sites n x.cells x.past x.surface r.board.timeline.entries r.board.surface g.board.ground)
      ∙ same_after_all n b until (first_surface x.cells) (events_of r.board.timeline.entries) x.surface.sites

  -- what an own place offers isn't before the clock
  pub late : (q : ℕ) (e : Event) → next n r.board.surface.sites q ≡ Some e → owner_of b q ≡ r.id → r.clock is_upto key_of e
  late q e h mine =
      let es = events_of r.board.timeline.entries in
      let place : e.place.0 ≡ q = offer_place n r.board.surface.sites q e h in
      let own_e : is_own (world_at n b until x) r.id (key_of e) ≡ true = eq-eqb (owner_of b e.place.0) r.id (ap (owner_of b) place ∙ mine) in
      let after : next n (after_all (world_at n b until x) x.surface.sites es) q ≡ Some e = ap (λ s. next n s q) (sym sites_are) ∙ h in
      let low : x.floor is_upto key_of e =
      elim (key_cases (key_of e) x.floor) [
        | inr up ↦ up
        | inl down ↦ g.fresh q e
            (unwound (world_at n b until x) mono q e es x.surface.sites
            (AllKeys_weaker (λ k. (x.floor is_upto k) × (k is_below r.clock)) (λ k. key_of e is_upto k) (λ k a. le_le (key_of e) x.floor k (lt_to_le (key_of e) x.floor down) a.0) es g.sound.local.span) after) mine
      ] in
      not_before_clock (world_at n b until x) laws mono (is_own (world_at n b until x) r.id) x.surface.sites x.floor (received_at (world_at n b until x) (part_of r)) r.clock es g.sound.local q e after own_e low

  -- what is due
  pub the_due : Key → Option Event
  the_due = due_at (world_at n b until x) (is_own (world_at n b until x) r.id) (received_at (world_at n b until x) (part_of r)) r.board.surface.sites

  place_of : (q : ℕ) (e : Event) → next n r.board.surface.sites q ≡ Some e → IsPlace b.lattice q
  place_of q e h =
      subst (λ l. IsPlace l q) (sym g.lattice)
      (subst (IsPlace n.lattice) (offer_place n r.board.surface.sites q e h) (fits_is_place n e.place.0 e.channel (offer_fits n r.board.surface.sites q e h)))

  -- the queue's entry of an own place that offers something
  kept : (q : ℕ) (e : Event) → next n r.board.surface.sites q ≡ Some e → owner_of b q ≡ r.id → slice_index_or r.board.queue.events (q - r.board.queue.first) None ≡ Some e
  kept q e h mine =
      let place = place_of q e h in
      let inside = (g.sited.own.exactly q place).0 mine in
      g.board.up_to_date q inside (covers_range b.lattice r.board.range r.board.queue g.board.covers q inside place) ∙ h

  own_due : (k : Key) → is_own (world_at n b until x) r.id k ≡ true → due_at (world_at n b until x) (is_own (world_at n b until x) r.id) (received_at (world_at n b until x) (part_of r)) r.board.surface.sites k ≡ if_at k (next n r.board.surface.sites k.place.0)
  own_due k h = ap (λ t. cond t (if_at k (next n r.board.surface.sites k.place.0)) (received_at (world_at n b until x) (part_of r) k)) h

  -- the least of the queue is the first own event
  pub own_first : (o : Option Event) → MatchOption o (IsEmpty r.board.queue) (λ e. IsLeast r.board.queue e) → IsFirst the_due r.clock (λ k. is_own (world_at n b until x) r.id k ≡ true) o
  unfolding the_due
  own_first None none =
      record {
        is_due = λ e h. absurd (none-some e h);
        least = λ k f s c d.
            let at_k : if_at k (next n r.board.surface.sites k.place.0) ≡ Some f = sym (own_due k s) ∙ d in
            let is : next n r.board.surface.sites k.place.0 ≡ Some f = if_at_some k _ f at_k in
            absurd (none-some f (sym (none (k.place.0 - r.board.queue.first)) ∙ kept k.place.0 f is (eqb-true (owner_of b k.place.0) r.id s)));
      }
  own_first (Some e) least =
      let inside : is_in_range r.board.range e.place.0 ≡ true = in_range r.board.range r.board.queue e.place.0 g.board.covers least.has_place in
      let is : next n r.board.surface.sites e.place.0 ≡ Some e = sym (g.board.up_to_date e.place.0 inside least.has_place) ∙ least.is_kept in
      let mine : owner_of b e.place.0 ≡ r.id = (g.sited.own.exactly e.place.0 (place_of e.place.0 e is)).1 inside in
      record {
        is_due = λ y h. subst (λ (z : Event). (r.clock is_upto key_of z) × (due_at (world_at n b until x) (is_own (world_at n b until x) r.id) (received_at (world_at n b until x) (part_of r)) r.board.surface.sites (key_of z) ≡ Some z)) (same_Some e y h)
            (late e.place.0 e is mine, own_due (key_of e) (eq-eqb (owner_of b e.place.0) r.id mine) ∙ (ap (if_at (key_of e)) is ∙ ap (λ t. cond t (Some e) None) (same_refl (key_of e))));
        least = λ k f s c d.
            let at_k : if_at k (next n r.board.surface.sites k.place.0) ≡ Some f = sym (own_due k s) ∙ d in
            let is_f : next n r.board.surface.sites k.place.0 ≡ Some f = if_at_some k _ f at_k in
            let here = kept k.place.0 f is_f (eqb-true (owner_of b k.place.0) r.id s) in
            (e, refl, subst (λ j. key_of e is_upto j) (key_from k _ f at_k) (not_before_le e f (least.none_before (k.place.0 - r.board.queue.first) f here)));
      }

  other_not_own : (o : Option SideView) (l : ℕ) → is_other o r.id ≡ false → is_other o l ≡ true → (l == r.id) ≡ false
  other_not_own o l no_id here =
      elim (eqb_tells l r.id) [
        | inl q ↦ absurd (both_ways (is_other o r.id) no_id (ap (is_other o) (sym q.1) ∙ here))
        | inr q ↦ q.0
      ]

  due_first : (k : Key) → is_other r.first (owner_of b k.place.0) ≡ true → due_at (world_at n b until x) (is_own (world_at n b until x) r.id) (received_at (world_at n b until x) (part_of r)) r.board.surface.sites k ≡ at k (stack_of r.stacks 0)
  due_first k h =
      ap (λ t. cond t (if_at k (next n r.board.surface.sites k.place.0)) (received_at (world_at n b until x) (part_of r) k)) (other_not_own r.first (owner_of b k.place.0) g.sited.not_first h)
      ∙ ap (λ t. at k (cond t (stack_of r.stacks 0) (cond (is_other r.second (owner_of b k.place.0)) (stack_of r.stacks 1) []))) h

  not_both : (l : ℕ) → is_other r.second l ≡ true → is_other r.first l ≡ false
  not_both l h =
      elim (cases_Bool (is_other r.first l)) [
        | inl q ↦ absurd (both_ways (is_other r.second l) (g.sited.apart l q) h)
        | inr q ↦ q
      ]

  due_second : (k : Key) → is_other r.second (owner_of b k.place.0) ≡ true → due_at (world_at n b until x) (is_own (world_at n b until x) r.id) (received_at (world_at n b until x) (part_of r)) r.board.surface.sites k ≡ at k (stack_of r.stacks 1)
  due_second k h =
      ap (λ t. cond t (if_at k (next n r.board.surface.sites k.place.0)) (received_at (world_at n b until x) (part_of r) k)) (other_not_own r.second (owner_of b k.place.0) g.sited.not_second h)
      ∙ (ap (λ t. at k (cond t (stack_of r.stacks 0) (cond (is_other r.second (owner_of b k.place.0)) (stack_of r.stacks 1) []))) (not_both (owner_of b k.place.0) h)
      ∙ ap (λ t. at k (cond t (stack_of r.stacks 1) [])) h)

  pub the_best : Option Event → Option Event
  the_best o = earlier_due_of r.clock until (earlier_due_of r.clock until (earlier_due_of r.clock until None o) (first_of (from r.clock (stack_of r.stacks 0)))) (first_of (from r.clock (stack_of r.stacks 1)))

  abbrev Seen : Key → Type 0
  Seen k = ((⊥ ⊎ (is_own (world_at n b until x) r.id k ≡ true)) ⊎ (is_other r.first (owner_of b k.place.0) ≡ true)) ⊎ (is_other r.second (owner_of b k.place.0) ≡ true)

  pub best_is : (o : Option Event) → MatchOption o (IsEmpty r.board.queue) (λ e. IsLeast r.board.queue e) → RiseStrictly (stack_of r.stacks 0) → RiseStrictly (stack_of r.stacks 1)
      → IsBest (due_at (world_at n b until x) (is_own (world_at n b until x) r.id) (received_at (world_at n b until x) (part_of r)) r.board.surface.sites) r.clock until Seen
      (earlier_due_of r.clock until (earlier_due_of r.clock until (earlier_due_of r.clock until None o) (first_of (from r.clock (stack_of r.stacks 0)))) (first_of (from r.clock (stack_of r.stacks 1))))
  unfolding the_due
  best_is o least up0 up1 =
      let d = due_at (world_at n b until x) (is_own (world_at n b until x) r.id) (received_at (world_at n b until x) (part_of r)) r.board.surface.sites in
      best_add d r.clock until _ (λ k. is_other r.second (owner_of b k.place.0) ≡ true) _ _
      (best_add d r.clock until _ (λ k. is_other r.first (owner_of b k.place.0) ≡ true) _ _
      (best_add d r.clock until (λ k. ⊥) (λ k. is_own (world_at n b until x) r.id k ≡ true) None o (best_start d r.clock until (λ k. ⊥) (λ k h. h)) (own_first o least))
      (first_stack d r.clock (stack_of r.stacks 0) (λ k. is_other r.first (owner_of b k.place.0) ≡ true) (rises (stack_of r.stacks 0) up0) due_first g.from_first))
      (first_stack d r.clock (stack_of r.stacks 1) (λ k. is_other r.second (owner_of b k.place.0) ≡ true) (rises (stack_of r.stacks 1) up1) due_second g.from_second)

  all_seen : (k : Key) (f : Event) → due_at (world_at n b until x) (is_own (world_at n b until x) r.id) (received_at (world_at n b until x) (part_of r)) r.board.surface.sites k ≡ Some f → Seen k
  all_seen k f d =
      elim (cases_Bool (is_own (world_at n b until x) r.id k)) [
        | inl q ↦ inl (inl (inr q))
        | inr q ↦ elim (cases_Bool (is_other r.first (owner_of b k.place.0))) [
          | inl s ↦ inl (inr s)
          | inr s ↦ elim (cases_Bool (is_other r.second (owner_of b k.place.0))) [
            | inl t ↦ inr t
            | inr t ↦ absurd (none-some f (nothing q s t ∙ d))
          ]
        ]
      ]
    where
      nothing : is_own (world_at n b until x) r.id k ≡ false → is_other r.first (owner_of b k.place.0) ≡ false → is_other r.second (owner_of b k.place.0) ≡ false → None ≡ due_at (world_at n b until x) (is_own (world_at n b until x) r.id) (received_at (world_at n b until x) (part_of r)) r.board.surface.sites k
      nothing q s t =
          sym (ap (λ u. cond u (if_at k (next n r.board.surface.sites k.place.0)) (received_at (world_at n b until x) (part_of r) k)) q
          ∙ (ap (λ u. at k (cond u (stack_of r.stacks 0) (cond (is_other r.second (owner_of b k.place.0)) (stack_of r.stacks 1) []))) s
          ∙ ap (λ u. at k (cond u (stack_of r.stacks 1) [])) t))

  to_part : (s : List SiteState) → s ≡ r.board.surface.sites → (e : Event) → IsNext (world_at n b until x) (is_own (world_at n b until x) r.id) (received_at (world_at n b until x) (part_of r)) r.board.surface.sites r.clock e → IsNext (world_at n b until x) (is_own (world_at n b until x) r.id) (received_at (world_at n b until x) (part_of r)) s r.clock e
  to_part s is e h = subst (λ y. IsNext (world_at n b until x) (is_own (world_at n b until x) r.id) (received_at (world_at n b until x) (part_of r)) y r.clock e) (sym is) h

  pub some_next : (best : Option Event) → IsBest (due_at (world_at n b until x) (is_own (world_at n b until x) r.id) (received_at (world_at n b until x) (part_of r)) r.board.surface.sites) r.clock until Seen best
      → IfSome best (λ e. IsNextEntry (world_at n b until x) x.surface.sites r.id (part_of r) e)
  some_next None h = tt
  some_next (Some e) h = to_part _ (sym sites_are) e (best_next (world_at n b until x) (is_own (world_at n b until x) r.id) (received_at (world_at n b until x) (part_of r)) r.board.surface.sites r.clock Seen (Some e) h all_seen e refl)

  pub none_next : (best : Option Event) → IsBest (due_at (world_at n b until x) (is_own (world_at n b until x) r.id) (received_at (world_at n b until x) (part_of r)) r.board.surface.sites) r.clock until Seen best
      → IfNone best (HasNoEntry (world_at n b until x) x.surface.sites r.id (part_of r))
  none_next (Some e) h = tt
  none_next None h =
      subst (λ y. IsNothingDue (world_at n b until x) (is_own (world_at n b until x) r.id) (received_at (world_at n b until x) (part_of r)) y r.clock) sites_are
      (best_none (world_at n b until x) (is_own (world_at n b until x) r.id) (received_at (world_at n b until x) (part_of r)) r.board.surface.sites r.clock Seen None h all_seen refl)
