-- What an event makes of the species of a surface is what its firing makes of them.
use Rattle.std.proofs.Common.{◌≡◌, ◌≢◌, ℕ, zero, suc, List, [], ◌∷◌, Option, Some, None, true, refl, ap, ◌∙◌, take}
use Rattle.std.specs.Prelude.{slice_get, slice_set, map}
use Rattle.std.specs.Option.{option_map}
use Rattle.std.proofs.lemmas.Bool.{false≢true}
use Rattle.std.proofs.lemmas.Option.{slice_get-map}
use Rattle.std.proofs.lemmas.List.{map-set}
use Rattle.surf_kinds.specs.declared.rule.Rule.{Rule}
use Rattle.surf_kinds.specs.declared.rule.Rule.TheVariants.{One, Two}
use Rattle.surf_kinds.specs.declared.site.SiteId.{SiteId}
use Rattle.surf_kinds.specs.declared.site.SpeciesId.{SpeciesId}
use Rattle.surf_kinds.specs.declared.site.SiteState.{SiteState}
use Rattle.surf_kinds.specs.declared.event.Event.{Event}
use Rattle.surf_kinds.specs.Channels.{way_of_channel}
use Rattle.lattice.specs.Places.{sites_of}
use Rattle.lattice.specs.Channels.{matches, products}
use Rattle.lattice.specs.Surface.{first_product, second_product, rewritten, rewrite, rewrite_second, rewrite_all, after, after_all}
use Rattle.lattice.proofs.LawLemmas.{rewrite_other, sites_differ}
use Rattle.plan.specs.Network.{Network}
use Rattle.plan.specs.Next.{next}
use Rattle.plan.specs.History.{due, IsHistory}
use Rattle.plan.specs.Offered.{IsSecondState}
use Rattle.plan.proofs.LawLemmas.{due_next, offer_is}
use Rattle.reach.specs.Reach.{firing_of, species_in, IsSecond, put, Fires, Reaches}
use Rattle.reach.proofs.Offered.{species_of}

pub species_at : (sites : List SiteState) (k : ℕ) (s : SiteState) → slice_get sites k ≡ Some s → slice_get (species_in sites) k ≡ Some s.species
species_at sites k s is = slice_get-map (λ (x : SiteState). x.species) sites k ∙ ap (option_map (λ (x : SiteState). x.species)) is

second_at : (sites : List SiteState) (j : Option SiteId) (s : SiteState) (t : Option SiteState) → IsSecondState sites j t → IsSecond (species_in sites) j (species_of t)
second_at sites None s None h = tt
second_at sites (Some j) s (Some t) h = species_at sites j.0 t h
second_at sites None s (Some t) h = absurd h
second_at sites (Some j) s None h = absurd h

-- the species after a rewriting
written : (sites : List SiteState) (k : ℕ) (s : SiteState) (product : SpeciesId → SpeciesId) (time : ℕ) → slice_get sites k ≡ Some s
    → species_in (rewrite product time k (slice_get sites k) sites) ≡ slice_set (species_in sites) k (product s.species)
written sites k s product time is = ap (λ o. species_in (rewrite product time k o sites)) is ∙ map-set (λ (x : SiteState). x.species) sites k (rewritten (product s.species) time s)

-- the products of a rule that matches, put at the sites
put_there : (rules : List Rule) (sites : List SiteState) (i : SiteId) (j : Option SiteId) (s : SiteState) (t : Option SiteState) (way time : ℕ) (rule : Rule)
    → ((k : SiteId) → j ≡ Some k → k.0 ≢ i.0) → slice_get sites i.0 ≡ Some s → IsSecondState sites j t → matches rule way s.species (species_of t) ≡ true
    → species_in (rewrite_second (second_product (Some rule) way) time j (rewrite (first_product (Some rule) way) time i.0 (slice_get sites i.0) sites)) ≡ put (record { first = i; second = j }) (products way rule) (species_in sites)
put_there rules sites i None s None way time (One rate a c) apart is js m = written sites i.0 s (first_product (Some (One rate a c)) way) time is
put_there rules sites i None s None way time (Two rate a b c d) apart is js m = absurd (false≢true m)
put_there rules sites i None s (Some t) way time rule apart is js m = absurd js
put_there rules sites i (Some j) s None way time rule apart is js m = absurd js
put_there rules sites i (Some j) s (Some t) way time (One rate a c) apart is js m = absurd (false≢true m)
put_there rules sites i (Some j) s (Some t) way time (Two rate a b c d) apart is js m =
    let first = rewrite (first_product (Some (Two rate a b c d)) way) time i.0 (slice_get sites i.0) sites in
    let there : slice_get first j.0 ≡ Some t = rewrite_other (first_product (Some (Two rate a b c d)) way) time i.0 (slice_get sites i.0) sites j.0 (apart j refl) ∙ js in
    written first j.0 t (second_product (Some (Two rate a b c d)) way) time there
    ∙ ap (λ x. slice_set x j.0 (second_product (Some (Two rate a b c d)) way t.species)) (written sites i.0 s (first_product (Some (Two rate a b c d)) way) time is)

-- the event that a place offers fires its channel
pub offer_fires : (n : Network) (sites : List SiteState) (place : ℕ) (e : Event) → next n sites place ≡ Some e → Fires n.lattice n.rules (firing_of e) (species_in sites) (species_in (after n.lattice n.rules sites e))
offer_fires n sites place e h =
    let o = offer_is n sites place e h in
    let p = o.states.pair in
    let at : sites_of n.lattice e.place.0 ≡ Some p = ap (sites_of n.lattice) o.at_place ∙ o.states.is in
    let way = way_of_channel e.channel in
    let by_rule : species_in (rewrite_all n.rules e (Some p) sites) ≡ species_in (rewrite_second (second_product (Some o.rule) way) e.time p.second (rewrite (first_product (Some o.rule) way) e.time p.first.0 (slice_get sites p.first.0) sites)) =
    ap (λ r. species_in (rewrite_second (second_product r way) e.time p.second (rewrite (first_product r way) e.time p.first.0 (slice_get sites p.first.0) sites))) o.rule_is in
    record {
      sites = p;
      at = at;
      first = o.state.species;
      first_is = species_at sites p.first.0 o.state o.states.first;
      second = species_of o.second;
      second_is = second_at sites p.second o.state o.second o.states.second;
      rule = o.rule;
      rule_is = o.rule_is;
      matching = o.matching;
      makes = ap (λ q. species_in (rewrite_all n.rules e q sites)) at ∙ by_rule ∙ put_there n.rules sites p.first p.second o.state o.second way e.time o.rule (λ k. sites_differ n.lattice place p k o.states.is) o.states.first o.states.second o.matching;
    }

-- so of the event that is due
pub due_fires : (n : Network) (until : ℕ) (sites : List SiteState) (e : Event) → due n until sites ≡ Some e → Fires n.lattice n.rules (firing_of e) (species_in sites) (species_in (after n.lattice n.rules sites e))
due_fires n until sites e h = offer_fires n sites e.place.0 e (due_next n until sites e h).0

-- and of the first events of a history, one after the other
pub prefix_reaches : (n : Network) (until k : ℕ) (es : List Event) (sites : List SiteState) → IsHistory n until sites es
    → Reaches n.lattice n.rules (species_in sites) (map firing_of (take k es)) (species_in (after_all n.lattice n.rules sites (take k es)))
prefix_reaches n until zero es sites h = refl
prefix_reaches n until (suc k) [] sites h = refl
prefix_reaches n until (suc k) (e ∷ es) sites h =
    (species_in (after n.lattice n.rules sites e), due_fires n until sites e h.0, prefix_reaches n until k es (after n.lattice n.rules sites e) h.1)
