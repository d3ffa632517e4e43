-- The species of a run's surfaces stay below their number, and so each site is counted.
use Rattle.std.proofs.Common.{◌≡◌, ℕ, ◌<◌, Bool, true, false, cond, List, [], ◌∷◌, length, Option, Some, None, refl, ◌∙◌, subst}
use Rattle.std.specs.Prelude.{All, IfSome, slice_get, sum, ◌==◌}
use Rattle.std.proofs.lemmas.List.{length-map}
use Rattle.std.proofs.lemmas.List.Elements.{All-set, All-map}
use Rattle.std.proofs.lemmas.Option.{get_or_from_slice_get, slice_get_within}
use Rattle.surf_kinds.specs.declared.event.Event.{Event}
use Rattle.surf_kinds.specs.declared.rule.Rule.{Rule}
use Rattle.surf_kinds.specs.declared.rule.Rule.TheVariants.{One, Two}
use Rattle.surf_kinds.specs.declared.site.SiteId.{SiteId}
use Rattle.surf_kinds.specs.declared.site.SiteState.{SiteState}
use Rattle.surf_kinds.specs.declared.site.Sites.{Sites}
use Rattle.surf_kinds.specs.declared.site.SpeciesId.{SpeciesId}
use Rattle.surf_kinds.specs.Channels.{rule_of_channel, way_of_channel}
use Rattle.lattice.specs.Places.{sites_of}
use Rattle.lattice.specs.Surface.{fresh, first_surface, first_product, second_product, first_product_of, second_product_of, rewrite, rewrite_second, rewrite_all, after}
use Rattle.lattice.proofs.LawLemmas.{after_length}
use Rattle.one_engine.specs.State.{LeavesWithin}
use Rattle.trace_text.specs.Lines.{cells_of, counts_of}
use Rattle.run_writer.specs.Cuts.{surface_after}
use Rattle.run_writer.specs.RunText.{Scene}

-- the site has one of n species
abbrev pub IsOneOf : ℕ → SiteState → Type 0
IsOneOf n s = s.species.0 < n

pick : (n : ℕ) (b : Bool) (c d : SpeciesId) → c.0 < n → d.0 < n → (cond b c d).0 < n
pick n true c d h g = h
pick n false c d h g = g

first_below : (n way : ℕ) (rule : Option Rule) (s : SpeciesId) → IfSome rule (LeavesWithin n) → s.0 < n → (first_product rule way s).0 < n
first_below n way None s h lt = lt
first_below n way (Some (One rate a c)) s h lt = h
first_below n way (Some (Two rate a b c d)) s h lt = pick n (way == 0) c d h.0 h.1

second_below : (n way : ℕ) (rule : Option Rule) (s : SpeciesId) → IfSome rule (LeavesWithin n) → s.0 < n → (second_product rule way s).0 < n
second_below n way None s h lt = lt
second_below n way (Some (One rate a c)) s h lt = lt
second_below n way (Some (Two rate a b c d)) s h lt = pick n (way == 0) d c h.1 h.0

-- what holds of all holds of the one at a place
at_place : {X : Type 0} (P : X → Type 0) (xs : List X) (i : ℕ) (o : Option X) → slice_get xs i ≡ o → All P xs → IfSome o P
at_place P xs i None h all = tt
at_place P xs i (Some x) h all = subst P (get_or_from_slice_get xs i x x h) (all i x (slice_get_within xs i x h))

below_rewrite : (n : ℕ) (product : SpeciesId → SpeciesId) (time i : ℕ) (o : Option SiteState) (sites : List SiteState) → IfSome o (IsOneOf n) → ((s : SpeciesId) → s.0 < n → (product s).0 < n) → All (IsOneOf n) sites → All (IsOneOf n) (rewrite product time i o sites)
below_rewrite n product time i None sites h f all = all
below_rewrite n product time i (Some s) sites h f all = All-set (IsOneOf n) sites i _ (f s.species h) all

below_second : (n : ℕ) (product : SpeciesId → SpeciesId) (time : ℕ) (second : Option SiteId) (sites : List SiteState) → ((s : SpeciesId) → s.0 < n → (product s).0 < n) → All (IsOneOf n) sites → All (IsOneOf n) (rewrite_second product time second sites)
below_second n product time None sites f all = all
below_second n product time (Some j) sites f all = below_rewrite n product time j.0 (slice_get sites j.0) sites (at_place (IsOneOf n) sites j.0 (slice_get sites j.0) refl all) f all

below_all : (n : ℕ) (rules : List Rule) (e : Event) (o : Option Sites) (sites : List SiteState) → All (LeavesWithin n) rules → All (IsOneOf n) sites → All (IsOneOf n) (rewrite_all rules e o sites)
below_all n rules e None sites h all = all
below_all n rules e (Some p) sites h all =
    let rule = slice_get rules (rule_of_channel e.channel) in
    let way = way_of_channel e.channel in
    let leaves : IfSome rule (LeavesWithin n) = at_place (LeavesWithin n) rules (rule_of_channel e.channel) rule refl h in
    below_second n (second_product_of rules e) e.time p.second _ (λ s lt. second_below n way rule s leaves lt)
    (below_rewrite n (first_product_of rules e) e.time p.first.0 (slice_get sites p.first.0) sites
    (at_place (IsOneOf n) sites p.first.0 (slice_get sites p.first.0) refl all) (λ s lt. first_below n way rule s leaves lt) all)

below_after : (s : Scene) (n : ℕ) (sites : List SiteState) (es : List Event) → All (LeavesWithin n) s.network.rules → All (IsOneOf n) sites → All (IsOneOf n) (surface_after s sites es)
below_after s n sites [] h all = all
below_after s n sites (e ∷ es) h all =
    below_after s n (after s.network.lattice s.network.rules sites e) es h (below_all n s.network.rules e (sites_of s.network.lattice e.place.0) sites h all)

long_after : (s : Scene) (sites : List SiteState) (es : List Event) → length (surface_after s sites es) ≡ length sites
long_after s sites [] = refl
long_after s sites (e ∷ es) = long_after s (after s.network.lattice s.network.rules sites e) es ∙ after_length s.network.lattice s.network.rules sites e

-- the counts of a surface of the run sum to the number of its sites, by the law of counts
pub counts_whole : (s : Scene) (cells : List SpeciesId) (es : List Event) → ((n : ℕ) (sites : List SiteState) → All (λ (k : SpeciesId). k.0 < n) (cells_of sites) → sum (counts_of sites n) ≡ length sites)
    → All (LeavesWithin (length s.names)) s.network.rules → All (λ (k : SpeciesId). k.0 < length s.names) cells → sum (counts_of (surface_after s (first_surface cells) es) (length s.names)) ≡ length cells
counts_whole s cells es counted rules known =
    let n = length s.names in
    let first : All (IsOneOf n) (first_surface cells) = All-map (IsOneOf n) fresh cells (λ k d h. known k d h) in
    let sites = surface_after s (first_surface cells) es in
    let all : All (IsOneOf n) sites = below_after s n (first_surface cells) es rules first in
    counted n sites (All-map (λ (k : SpeciesId). k.0 < n) (λ (x : SiteState). x.species) sites (λ k d h. all k d h))
    ∙ (long_after s (first_surface cells) es ∙ length-map cells fresh)
