-- The products of a channel, and the surface after its event.
use Rattle.std.proofs.Common.{◌≡◌, ℕ, List, Option, Some, None, refl, sym, ap, ◌∙◌}
use Rattle.std.specs.Prelude.{slice_get, unwrap_or}
use Rattle.std.specs.Option.{option_map}
use Rattle.std.proofs.lemmas.Option.{none-some, same_Some}
use Rattle.surf_kinds.specs.Channels.{rule_of_channel, way_of_channel}
use Rattle.surf_kinds.specs.declared.rule.Rule.{Rule}
use Rattle.surf_kinds.specs.declared.site.SiteId.{SiteId}
use Rattle.surf_kinds.specs.declared.site.Sites.{Sites}
use Rattle.surf_kinds.specs.declared.site.SiteState.{SiteState}
use Rattle.surf_kinds.specs.declared.site.SpeciesId.{SpeciesId}
use Rattle.surf_kinds.specs.declared.event.Event.{Event}
use Rattle.lattice.specs.Places.{sites_of}
use Rattle.lattice.specs.Channels.{products}
use Rattle.lattice.specs.Surface.{after, first_product, second_product, rewrite, rewrite_second, rewrite_all}
use Rattle.surface_state.specs.SurfaceView.{SurfaceView}
use Rattle.surface_state.specs.Changes.{applied, rewrite_to, AreProducts}

rewrite_same_product : (p q : SpeciesId → SpeciesId) (time i : ℕ) (o : Option SiteState) (sites : List SiteState) → ((s : SpeciesId) → p s ≡ q s) → rewrite p time i o sites ≡ rewrite q time i o sites
rewrite_same_product p q time i None sites h = refl
rewrite_same_product p q time i (Some x) sites h = ap (λ s. rewrite (λ _. s) time i (Some x) sites) (h x.species)

second_same_product : (p q : SpeciesId → SpeciesId) (time : ℕ) (o : Option SiteId) (sites : List SiteState) → ((s : SpeciesId) → p s ≡ q s) → rewrite_second p time o sites ≡ rewrite_second q time o sites
second_same_product p q time None sites h = refl
second_same_product p q time (Some n) sites h = rewrite_same_product p q time n.0 (slice_get sites n.0) sites h

first_is : (o : Option Rule) (way : ℕ) (to : SpeciesId × Option SpeciesId) → Some to ≡ option_map (products way) o → (s : SpeciesId) → to.0 ≡ first_product o way s
first_is None way to h s = absurd (none-some to (sym h))
first_is (Some rule) way to h s = ap (λ (t : SpeciesId × Option SpeciesId). t.0) (same_Some to (products way rule) h)

second_is : (o : Option Rule) (way : ℕ) (to : SpeciesId × Option SpeciesId) → Some to ≡ option_map (products way) o → (s : SpeciesId) → unwrap_or to.1 s ≡ second_product o way s
second_is None way to h s = absurd (none-some to (sym h))
second_is (Some rule) way to h s = ap (λ (t : SpeciesId × Option SpeciesId). unwrap_or t.1 s) (same_Some to (products way rule) h)

rewrites_all : (rules : List Rule) (e : Event) (to : SpeciesId × Option SpeciesId) (o : Option Sites) (sites : List SiteState) → AreProducts rules e to → rewrite_to to e.time o sites ≡ rewrite_all rules e o sites
rewrites_all rules e to None sites is = refl
rewrites_all rules e to (Some x) sites is =
    let rule = slice_get rules (rule_of_channel e.channel) in
    let way = way_of_channel e.channel in
    ap (rewrite_second (unwrap_or to.1) e.time x.second) (rewrite_same_product (λ _. to.0) (first_product rule way) e.time x.first.0 (slice_get sites x.first.0) sites (first_is rule way to is))
    ∙ second_same_product (unwrap_or to.1) (second_product rule way) e.time x.second _ (second_is rule way to is)

-- with the products of its channel, an event leaves the sites that it should
pub applied_after : (s : SurfaceView) (rules : List Rule) (e : Event) (to : SpeciesId × Option SpeciesId) → AreProducts rules e to → (applied s e to).sites ≡ after s.lattice rules s.sites e
applied_after s rules e to is = rewrites_all rules e to (sites_of s.lattice e.place.0) s.sites is
