-- The next entry of a region of a configuration, and what is known of it.
use Rattle.std.proofs.Common.{◌≡◌, ℕ, ◌-◌, ◌^◌, ◌<◌, ◌≤◌, Bool, true, inl, inr, List, [], ◌∷◌, ◌++◌, length, Option, Some, None, refl, sym, ap, ◌∙◌, subst, arith, slice_index_or, cond}
use Rattle.std.specs.Prelude.{IsSome}
use Rattle.std.proofs.lemmas.Bool.{cases_Bool, eqb-true, false≢true, cases_lt}
use Rattle.std.proofs.lemmas.List.{get_or_past}
use Rattle.std.proofs.lemmas.Option.{none-some, same_Some}
use Rattle.surf_kinds.specs.declared.event.Event.{Event}
use Rattle.surf_kinds.specs.declared.event.Key.{Key}
use Rattle.surf_kinds.specs.declared.site.Sites.{Sites}
use Rattle.surf_kinds.specs.declared.site.SiteState.{SiteState}
use Rattle.surf_kinds.specs.Keys.{same_key, key_of, at, AllKeys, IsRising, ◌is_upto◌, ◌is_below◌}
use Rattle.surf_kinds.proofs.Order.{lt_le, le_le, key_cases, upto_both}
use Rattle.surf_kinds.proofs.Tables.{AllKeys_weaker, AllKeys_append}
use Rattle.lattice.specs.Places.{sites_of, IsPlace}
use Rattle.lattice.specs.Surface.{first_surface}
use Rattle.lattice.proofs.LawLemmas.{place_below}
use Rattle.plan.specs.Network.{Network}
use Rattle.plan.specs.History.{if_at}
use Rattle.plan.specs.Products.{fits_place}
use Rattle.plan.proofs.LawLemmas.{fits_is_place}
use Rattle.regions.specs.Bands.{owner_of}
use Rattle.regions.proofs.LawLemmas.{owner_below}
use Rattle.timeline.specs.TimelineView.{events_of}
use Rattle.border.specs.Stacked.{stack_of}
use Rattle.border.specs.Messages.{IsPutOf}
use Rattle.warp_core.specs.World.{World, IsWorld, is_own, after_all, end_key}
use Rattle.warp_core.specs.Timelines.{due_at, IsNext, IsNothingDue}
use Rattle.warp_core.specs.Messages.{ArePutsOf, partition_of}
use Rattle.warp_core.specs.Parts.{Part, IsSound, IsNextEntry, HasNoEntry, received_at}
use Rattle.warp_core.specs.Cores.{IsConsistent, base_of}
use Rattle.warp_core.specs.Simulation.{Setting, world_in}
use Rattle.warp_core.specs.Choices.{first_entry}
use Rattle.warp_core.specs.Grounds.{IsTimely}
use Rattle.warp_core.specs.Regions.{part_of}
use Rattle.warp_core.specs.Configs.{parts_at, core_with, IsSetting, IsHome, AreHomes}
use Rattle.warp_core.specs.declared.region.Region.{Region}
use Rattle.warp_core.proofs.Theory.Parts.{next_is}
use Rattle.warp_core.proofs.Theory.PartRuns.{next_rebased, none_rebased}
use Rattle.warp_core.proofs.Simulation.Instance.{is_world, same_after_all}
use Rattle.warp_core.proofs.Machine.Chosen.{chosen_next, chosen_none}
use Rattle.warp_core.proofs.Machine.Ground.{ground_sites}
use Rattle.warp_core.proofs.Machine.Cores.{part_is}

-- one entry is next
pub one_next : (w : World) (mine : Key → Bool) (ins : Key → Option Event) (sites : List SiteState) (clock : Key) (x y : Event) → IsNext w mine ins sites clock x → IsNext w mine ins sites clock y → x ≡ y
one_next w mine ins sites clock x y a b =
    elim (key_cases (key_of x) (key_of y)) [
      | inl u ↦ absurd (none-some x (sym (b.first (key_of x) a.later u) ∙ a.here))
      | inr o ↦ elim (key_cases (key_of y) (key_of x)) [
        | inl u ↦ absurd (none-some y (sym (a.first (key_of y) b.later u) ∙ b.here))
        | inr p ↦ same_Some x y (sym a.here ∙ (ap (due_at w mine ins sites) (upto_both (key_of x) (key_of y) p o) ∙ b.here))
      ]
    ]

pub none_next : (w : World) (mine : Key → Bool) (ins : Key → Option Event) (sites : List SiteState) (clock : Key) (x : Event) → IsNothingDue w mine ins sites clock → IsNext w mine ins sites clock x → ⊥
none_next w mine ins sites clock x n a = none-some x (sym (n (key_of x) a.later (early x.time w.until a.in_time)) ∙ a.here)
  where
    early : (t u : ℕ) → t ≤ u → key_of x is_below end_key w
    early t u h = Rattle.warp_core.proofs.Simulation.Instance.in_time (key_of x) w.until a.in_time

puts_owned : (w : World) (j i : ℕ) (es : List Event) → ArePutsOf w j i es → AllKeys (λ k. w.owner k.place.0 ≡ j) es
puts_owned w j i [] a = tt
puts_owned w j i (e ∷ es) a = (eqb-true (w.owner e.place.0) j a.0.owned, puts_owned w j i es a.1)

pub puts_at : (w : World) (j i : ℕ) (k : Key) (es : List Event) (e : Event) → ArePutsOf w j i es → at k es ≡ Some e → IsPutOf (partition_of w) j i e
puts_at w j i k [] e a h = absurd (none-some e h)
puts_at w j i k (x ∷ es) e a h =
    elim (cases_Bool (same_key (key_of x) k)) [
      | inl q ↦ subst (IsPutOf (partition_of w) j i) (same_Some x e (sym (ap (λ b. cond b (Some x) (at k es)) q) ∙ h)) a.0
      | inr q ↦ puts_at w j i k es e a.1 (sym (ap (λ b. cond b (Some x) (at k es)) q) ∙ h)
    ]

-- what is known of an event that is applied next
pub record Known (n : Network) (s : Setting) (past es : List Event) (e : Event) : Type 0 where
  pub fits : fits_place n e.place.0 e.channel ≡ true
  pub timely : IsTimely (key_of e)
  pub below : AllKeys (λ k. k is_below key_of e) (past ++ es)
  pub place : IsPlace s.bands.lattice e.place.0
  pub small : e.place.0 < 2 ^ 64 - 1

pub setting_world : (n : Network) (s : Setting) → IsSetting n s → IsWorld (world_in n s)
setting_world n s set = is_world n s.bands s.until (first_surface s.cells) set.cut set.lattice set.short

module _ (n : Network) (s : Setting) (horizon : Key) (committed : List Event) (rs : List Region) (set : IsSetting n s) (count : length rs ≡ s.bands.count)
    (good : IsConsistent (world_in n s) (core_with horizon committed rs)) (homes : AreHomes n s horizon committed rs) (i : ℕ) (r : Region) (inside : i < length rs) (is : r ≡ slice_index_or rs i r) where
  within : i < s.bands.count
  within = subst (λ m. i < m) count inside

  pub home : IsHome n s horizon committed i r
  home = subst (IsHome n s horizon committed i) (sym is) (homes i r within)

  part_here : parts_at rs i ≡ part_of r
  part_here = part_is rs i r inside is

  stack_rising : (j : ℕ) → IsRising (stack_of r.stacks j)
  stack_rising j =
      elim (cases_lt j s.bands.count) [
        | inl h ↦ subst (λ (p : Part). IsRising (p.stack j)) part_here (good.rising j i h within)
        | inr h ↦ subst IsRising (sym (get_or_past r.stacks.stacks j [] (subst (λ m. m ≤ j) (sym home.sized.stacks) h))) tt
      ]

  stack_owned : (j : ℕ) → AllKeys (λ k. owner_of s.bands k.place.0 ≡ j) (stack_of r.stacks j)
  stack_owned j =
      elim (cases_lt j s.bands.count) [
        | inl h ↦ puts_owned (world_in n s) j i (stack_of r.stacks j) (subst (λ (p : Part). ArePutsOf (world_in n s) j i (p.stack j)) part_here (good.stacked j i h within))
        | inr h ↦ subst (AllKeys (λ k. owner_of s.bands k.place.0 ≡ j)) (sym (get_or_past r.stacks.stacks j [] (subst (λ m. m ≤ j) (sym home.sized.stacks) h))) tt
      ]

  sites_here : r.surface.sites ≡ after_all (world_in n s) home.base.sites (events_of r.timeline.entries)
  sites_here = ground_sites n s.cells home.past home.base r.timeline.entries r.surface home.ground ∙ same_after_all n s.bands s.until (first_surface s.cells) (events_of r.timeline.entries) home.base.sites

  pub next_here : (e : Event) → first_entry n s.bands i r.surface.sites (stack_of r.stacks) r.clock s.until s.bands.count ≡ Some e
      → IsNextEntry (world_in n s) (base_of (world_in n s) (core_with horizon committed rs)) i (parts_at rs i) e
  next_here e h =
      let chosen = chosen_next n s.bands s.until (first_surface s.cells) i r.surface.sites (stack_of r.stacks) r.clock stack_rising stack_owned s.bands.count (λ p. owner_below s.bands p set.cut) e h in
      let own : IsNextEntry (world_in n s) home.base.sites i (part_of r) e = subst (λ sites. IsNext (world_in n s) (is_own (world_in n s) i) (received_at (world_in n s) (part_of r)) sites r.clock e) sites_here chosen in
      subst (λ (p : Part). IsNextEntry (world_in n s) (base_of (world_in n s) (core_with horizon committed rs)) i p e) (sym part_here)
      (next_rebased (world_in n s) (setting_world n s set) i home.base.sites (base_of (world_in n s) (core_with horizon committed rs)) (part_of r) e home.agree own)

  pub none_here : first_entry n s.bands i r.surface.sites (stack_of r.stacks) r.clock s.until s.bands.count ≡ None
      → HasNoEntry (world_in n s) (base_of (world_in n s) (core_with horizon committed rs)) i (parts_at rs i)
  none_here h =
      let chosen = chosen_none n s.bands s.until (first_surface s.cells) i r.surface.sites (stack_of r.stacks) r.clock stack_rising stack_owned s.bands.count (λ p. owner_below s.bands p set.cut) h in
      let own : HasNoEntry (world_in n s) home.base.sites i (part_of r) = subst (λ sites. IsNothingDue (world_in n s) (is_own (world_in n s) i) (received_at (world_in n s) (part_of r)) sites r.clock) sites_here chosen in
      subst (λ (p : Part). HasNoEntry (world_in n s) (base_of (world_in n s) (core_with horizon committed rs)) i p) (sym part_here)
      (none_rebased (world_in n s) (setting_world n s set) i home.base.sites (base_of (world_in n s) (core_with horizon committed rs)) (part_of r) home.agree own)

  module _ (e : Event) (h : IsNextEntry (world_in n s) (base_of (world_in n s) (core_with horizon committed rs)) i (parts_at rs i) e) where
    here : IsNextEntry (world_in n s) (base_of (world_in n s) (core_with horizon committed rs)) i (part_of r) e
    here = subst (λ (p : Part). IsNextEntry (world_in n s) (base_of (world_in n s) (core_with horizon committed rs)) i p e) part_here h

    sound : IsSound (world_in n s) (base_of (world_in n s) (core_with horizon committed rs)) horizon i (part_of r)
    sound = subst (λ (p : Part). IsSound (world_in n s) (base_of (world_in n s) (core_with horizon committed rs)) horizon i p) part_here (good.sound i within)

    below : AllKeys (λ k. k is_below key_of e) (home.past ++ events_of r.timeline.entries)
    below =
        AllKeys_append (λ k. k is_below key_of e) home.past (events_of r.timeline.entries)
        (AllKeys_weaker (λ k. k is_below horizon) (λ k. k is_below key_of e) (λ k u. lt_le k horizon (key_of e) u (le_le horizon r.clock (key_of e) sound.low here.later)) home.past home.early)
        (AllKeys_weaker (λ k. (horizon is_upto k) × (k is_below r.clock)) (λ k. k is_below key_of e) (λ k u. lt_le k r.clock (key_of e) u.1 here.later) (events_of r.timeline.entries) sound.local.span)

    fits_timely : (fits_place n e.place.0 e.channel ≡ true) × IsTimely (key_of e)
    fits_timely =
        let laws = setting_world n s set in
        let sites = after_all (world_in n s) (base_of (world_in n s) (core_with horizon committed rs)) (events_of r.timeline.entries) in
        elim (cases_Bool (is_own (world_in n s) i (key_of e))) [
          | inl mine ↦
              let is = next_is (world_in n s) (is_own (world_in n s) i) (received_at (world_in n s) (part_of r)) sites e mine here.here in
              (laws.fitting e.place.0 sites e is, (laws.after_start e.place.0 sites e is, omega (arith, here.in_time, set.short)))
          | inr other ↦
              let j = owner_of s.bands e.place.0 in
              let in_stack : at (key_of e) (stack_of r.stacks j) ≡ Some e =
              sym (ap (λ t. cond t (if_at (key_of e) ((world_in n s).next e.place.0 sites)) (received_at (world_in n s) (part_of r) (key_of e))) other) ∙ here.here in
              let p = puts_at (world_in n s) j i (key_of e) (stack_of r.stacks j) e (subst (λ (p : Part). ArePutsOf (world_in n s) j i (p.stack j)) part_here (good.stacked j i (owner_below s.bands e.place.0 set.cut) within)) in_stack in
              (p.fits, (p.early, p.late))
        ]

    place_is : IsPlace s.bands.lattice e.place.0
    place_is = subst (λ l. IsPlace l e.place.0) (sym set.lattice) (fits_is_place n e.place.0 e.channel fits_timely.0)

    place_small : (o : Option Sites) → sites_of s.bands.lattice e.place.0 ≡ o → IsSome o → e.place.0 < 2 ^ 64 - 1
    place_small None q some = absurd (false≢true some)
    place_small (Some p) q some = omega (arith, place_below s.bands.lattice e.place.0 p q, set.cut.size.at_most)

    pub known : Known n s home.past (events_of r.timeline.entries) e
    known = record { fits = fits_timely.0; timely = fits_timely.1; below = below; place = place_is; small = place_small (sites_of s.bands.lattice e.place.0) refl place_is }
