-- Surfaces on which events happen in order: their sites are settled, and what is due on them can fire.
use Rattle.std.proofs.Common.{◌≡◌, ℕ, ◌+◌, ◌^◌, ◌<◌, ◌≤◌, List, Option, Some, None, Bool, true, false, inl, inr, refl, sym, ◌∙◌, subst, arith, get_or, if◌then◌else◌}
use Rattle.std.specs.Prelude.{slice_get, All, ◌==◌}
use Rattle.std.specs.Option.{option_map}
use Rattle.std.proofs.lemmas.List.Elements.{All-map}
use Rattle.std.proofs.lemmas.Option.{none-some, same_Some, slice_get_within, slice_get-get_or, get_or_from_slice_get}
use Rattle.surf_kinds.specs.declared.rule.Rule.{Rule}
use Rattle.surf_kinds.specs.declared.rule.Rule.TheVariants.{One, Two}
use Rattle.surf_kinds.specs.declared.site.SiteState.{SiteState}
use Rattle.surf_kinds.specs.declared.site.SpeciesId.{SpeciesId}
use Rattle.surf_kinds.specs.declared.event.Event.{Event}
use Rattle.surf_kinds.specs.Channels.{rule_of_channel, way_of_channel}
use Rattle.lattice.specs.Channels.{products}
use Rattle.lattice.specs.Surface.{fresh, first_surface, after}
use Rattle.lattice.proofs.LawLemmas.{after_site, room_at}
use Rattle.plan.specs.Network.{Network}
use Rattle.plan.specs.Next.{next}
use Rattle.plan.specs.Bounds.{IsWithinBounds}
use Rattle.plan.specs.History.{due}
use Rattle.plan.specs.Products.{products_of}
use Rattle.plan.proofs.LawLemmas.{offer_fits, offer_later, fits_is_place, fits_is_channel, due_next}
use Rattle.surface_state.specs.Changes.{AreBelow}
use Rattle.plan.specs.Products.{LeavesWithin}
use Rattle.one_engine.specs.Running.{IsSettled, CanFire}

-- what holds of each site of a list holds of one that is looked up, and the other way round
at_site : (P : SiteState → Type 0) (sites : List SiteState) (k : ℕ) (s : SiteState) → All P sites → slice_get sites k ≡ Some s → P s
at_site P sites k s all h = subst P (get_or_from_slice_get sites k s s h) (all k s (slice_get_within sites k s h))

each_site : (P : SiteState → Type 0) (sites : List SiteState) → ((k : ℕ) (s : SiteState) → slice_get sites k ≡ Some s → P s) → All P sites
each_site P sites h k d inside = h k (get_or sites k d) (slice_get-get_or sites k d inside)

-- a first surface was never rewritten
pub first_settled : (cells : List SpeciesId) → All IsSettled (first_surface cells)
first_settled cells = All-map IsSettled fresh cells (λ k d h. record { version = omega arith; last = omega arith })

-- sites that are settled have room for another rewriting
pub settled_within : (sites : List SiteState) → All IsSettled sites → All IsWithinBounds sites
settled_within sites h k d inside =
    let s : IsSettled (get_or sites k d) = h k d inside in
    record { version = omega (arith, s.version, s.last); last = s.last }

rewritten_settled : (old s : SiteState) (time : ℕ) → IsSettled old → old.last < time → time ≤ 10 ^ 15 → s.version ≡ old.version + 1 → s.last ≡ time → IsSettled s
rewritten_settled old s time h lt le version last = record { version = omega (arith, h.version, lt, version, last); last = omega (arith, last, le) }

-- an event raises the last of a site by a tick at least, so versions stay within bounds
pub settled_after : (n : Network) (sites : List SiteState) (e : Event) → next n sites e.place.0 ≡ Some e → e.time ≤ 10 ^ 15 → All IsSettled sites → All IsSettled (after n.lattice n.rules sites e)
settled_after n sites e offered le all = each_site IsSettled (after n.lattice n.rules sites e) (λ k s at.
    elim (after_site n.lattice n.rules sites e k s at) [
      | inl same ↦ at_site IsSettled sites k s all same
      | inr new ↦
          let was = offer_later n sites e.place.0 k e offered new.has in
          let same : was.0 ≡ new.old = same_Some was.0 new.old (sym was.1 ∙ new.was) in
          rewritten_settled new.old s e.time (at_site IsSettled sites k new.old all new.was) (subst (λ (x : SiteState). x.last < e.time) same was.2) le new.version new.last
    ])

-- what is due can fire
pub can_fire : (n : Network) (until : ℕ) (sites : List SiteState) (e : Event) → due n until sites ≡ Some e → All IsSettled sites → CanFire n sites e
can_fire n until sites e h settled =
    let fits = offer_fits n sites e.place.0 e (due_next n until sites e h).0 in
    record {
      place = fits_is_place n e.place.0 e.channel fits;
      channel = fits_is_channel n e.place.0 e.channel fits;
      has_room = room_at n.lattice sites e.place.0 (λ k d inside. (settled_within sites settled k d inside).version);
    }

-- the products of a rule are species of the surface
leaves : (species_count way : ℕ) (rule : Rule) → LeavesWithin species_count rule → AreBelow species_count (products way rule).0 (products way rule).1
leaves species_count way (One rate a c) h = (h, tt)
leaves species_count way (Two rate a b c d) h = (pick (way == 0) c d h.0 h.1, pick (way == 0) d c h.1 h.0)
  where
    pick : (t : Bool) (x y : SpeciesId) → x.0 < species_count → y.0 < species_count → (if t then x else y).0 < species_count
    pick true x y p q = p
    pick false x y p q = q

pub leaves_products : (species_count : ℕ) (rules : List Rule) (channel : ℕ) (to : SpeciesId × Option SpeciesId) → All (LeavesWithin species_count) rules → Some to ≡ products_of rules channel → AreBelow species_count to.0 to.1
leaves_products species_count rules channel to all is = go (slice_get rules (rule_of_channel channel)) refl is
  where
    go : (o : Option Rule) → slice_get rules (rule_of_channel channel) ≡ o → Some to ≡ option_map (products (way_of_channel channel)) o → AreBelow species_count to.0 to.1
    go None at h = absurd (none-some to (sym h))
    go (Some rule) at h =
        let within : LeavesWithin species_count rule = subst (LeavesWithin species_count) (rule_is rule at) (all (rule_of_channel channel) rule (slice_get_within rules (rule_of_channel channel) rule at)) in
        subst (λ (t : SpeciesId × Option SpeciesId). AreBelow species_count t.0 t.1) (sym (same_Some _ _ h)) (leaves species_count (way_of_channel channel) rule within)
      where
        rule_is : (rule : Rule) → slice_get rules (rule_of_channel channel) ≡ Some rule → get_or rules (rule_of_channel channel) rule ≡ rule
        rule_is rule at = same_Some _ _ (sym (slice_get-get_or rules (rule_of_channel channel) rule (slice_get_within rules (rule_of_channel channel) rule at)) ∙ at)
