-- What an event does to the counts of the surface on which it happens.
use Rattle.std.proofs.Common.{◌≡◌, ℕ, ◌-◌, ◌*◌, ◌<◌, ◌==◌, Bool, true, false, List, length, set, get_or, slice_index, slice_get, Option, Some, None, refl, sym, ap, ◌∙◌, subst, arith, if◌then◌else◌, All}
use Rattle.std.proofs.lemmas.Option.{slice_get-get_or, slice_get_within, get_or_from_slice_get}
use Rattle.std.proofs.lemmas.List.{length-set, get_or-set_other, get_or-map}
use Rattle.std.proofs.lemmas.List.Elements.{All-set}
use Rattle.surf_kinds.specs.declared.rule.Rule.{Rule}
use Rattle.surf_kinds.specs.declared.rule.Rule.TheVariants.{One, Two}
use Rattle.surf_kinds.specs.declared.site.SiteId.{SiteId}
use Rattle.surf_kinds.specs.declared.site.Sites.{Sites}
use Rattle.surf_kinds.specs.declared.site.SiteState.{SiteState}
use Rattle.surf_kinds.specs.declared.site.SpeciesId.{SpeciesId}
use Rattle.surf_kinds.specs.declared.event.Event.{Event}
use Rattle.surf_kinds.specs.Channels.{rule_of_channel, way_of_channel}
use Rattle.lattice.specs.Shape.{Shape}
use Rattle.lattice.specs.Places.{sites_of}
use Rattle.lattice.specs.Channels.{products}
use Rattle.lattice.specs.Surface.{after, first_product, second_product, first_product_of, second_product_of, rewritten, rewrite, rewrite_second, rewrite_all}
use Rattle.lattice.proofs.LawLemmas.{first_below, second_below, sites_differ}
use Rattle.plan.specs.Products.{LeavesWithin}
use Rattle.trace_text.specs.Lines.{cells_of, counts_of}
use Rattle.frames.specs.declared.sample.Sample.{Sample}
use Rattle.frames.specs.States.{lowered, raised, next, opening, changed, MayFollow}
use Rattle.watching.specs.Changes.{species_at, second_of, change_at, change_of}
use Rattle.watching.proofs.Counting.{one_own, one_stands, two_stand, counts-length, counts-index, lowered-index, lowered-long, counts_one, counts_two}

abbrev pub blank : SiteState
blank = record { species = record { 0 = 0 }; version = 0; last = 0 }

abbrev pub first_new : List Rule → Event → SiteState → SiteState
first_new rules e s = rewritten (first_product_of rules e s.species) e.time s

abbrev pub second_new : List Rule → Event → SiteState → SiteState
second_new rules e s = rewritten (second_product_of rules e s.species) e.time s

pub cell_is : (sites : List SiteState) (i : ℕ) → i < length sites → species_at (cells_of sites) i ≡ (get_or sites i blank).species
cell_is sites i h = get_or-map (λ (s : SiteState). s.species) sites i blank (record { 0 = 0 }) h

-- the products of a rule are known species

first_within : (kinds : ℕ) (way : ℕ) (o : Option Rule) (s : SpeciesId) → ((r : Rule) → o ≡ Some r → LeavesWithin kinds r) → s.0 < kinds → (first_product o way s).0 < kinds
first_within kinds way None s h lt = lt
first_within kinds way (Some (One rate a c)) s h lt = h (One rate a c) refl
first_within kinds way (Some (Two rate a b c d)) s h lt = pick (way == 0) (h (Two rate a b c d) refl).0 (h (Two rate a b c d) refl).1
  where
    pick : (t : Bool) → c.0 < kinds → d.0 < kinds → (if t then c else d).0 < kinds
    pick true p q = p
    pick false p q = q

second_within : (kinds : ℕ) (way : ℕ) (o : Option Rule) (s : SpeciesId) → ((r : Rule) → o ≡ Some r → LeavesWithin kinds r) → s.0 < kinds → (second_product o way s).0 < kinds
second_within kinds way None s h lt = lt
second_within kinds way (Some (One rate a c)) s h lt = lt
second_within kinds way (Some (Two rate a b c d)) s h lt = pick (way == 0) (h (Two rate a b c d) refl).0 (h (Two rate a b c d) refl).1
  where
    pick : (t : Bool) → c.0 < kinds → d.0 < kinds → (if t then d else c).0 < kinds
    pick true p q = q
    pick false p q = p

module _ (l : Shape) (rules : List Rule) (sites : List SiteState) (e : Event) (long : length sites ≡ l.rows * l.cols) (p : Sites) (is : sites_of l e.place.0 ≡ Some p) where
  pub first_inside : p.first.0 < length sites
  first_inside = omega (arith, first_below l e.place.0 p is, long)

  pub second_inside : (n : SiteId) → p.second ≡ Some n → n.0 < length sites
  second_inside n s = omega (arith, second_below l e.place.0 p n is s, long)

  pub after_one : p.second ≡ None → after l rules sites e ≡ set sites p.first.0 (first_new rules e (get_or sites p.first.0 blank))
  after_one none =
      ap (λ o. rewrite_all rules e o sites) is
      ∙ (ap (λ o. rewrite_second (second_product_of rules e) e.time o (rewrite (first_product_of rules e) e.time p.first.0 (slice_get sites p.first.0) sites)) none
      ∙ ap (λ o. rewrite (first_product_of rules e) e.time p.first.0 o sites) (slice_get-get_or sites p.first.0 blank first_inside))

  pub after_two : (n : SiteId) → p.second ≡ Some n
      → after l rules sites e ≡ set (set sites p.first.0 (first_new rules e (get_or sites p.first.0 blank))) n.0 (second_new rules e (get_or sites n.0 blank))
  after_two n s =
      let x = first_new rules e (get_or sites p.first.0 blank) in
      let mid = set sites p.first.0 x in
      let inside : n.0 < length mid = omega (arith, second_inside n s, length-set sites p.first.0 x) in
      let stands : get_or mid n.0 blank ≡ get_or sites n.0 blank = get_or-set_other sites p.first.0 n.0 x blank (sites_differ l e.place.0 p n is s) in
      ap (λ o. rewrite_all rules e o sites) is
      ∙ (ap (λ o. rewrite_second (second_product_of rules e) e.time o (rewrite (first_product_of rules e) e.time p.first.0 (slice_get sites p.first.0) sites)) s
      ∙ (ap (λ o. rewrite_second (second_product_of rules e) e.time (Some n) (rewrite (first_product_of rules e) e.time p.first.0 o sites)) (slice_get-get_or sites p.first.0 blank first_inside)
      ∙ (ap (λ o. rewrite (second_product_of rules e) e.time n.0 o mid) (slice_get-get_or mid n.0 blank inside)
      ∙ ap (λ t. set mid n.0 (second_new rules e t)) stands)))

  pub change_one : p.second ≡ None → change_of l rules sites e ≡ record { time = e.time; out1 = (get_or sites p.first.0 blank).species; in1 = first_product_of rules e (get_or sites p.first.0 blank).species; second = None }
  change_one none =
      let a = cell_is sites p.first.0 first_inside in
      ap (change_at rules (cells_of sites) e) is
      ∙ (λ i. record { time = e.time; out1 = a i; in1 = first_product_of rules e (a i); second = second_of rules (cells_of sites) e (none i) })

  pub change_two : (n : SiteId) → p.second ≡ Some n
      → change_of l rules sites e
      ≡ record { time = e.time; out1 = (get_or sites p.first.0 blank).species; in1 = first_product_of rules e (get_or sites p.first.0 blank).species; second = Some ((get_or sites n.0 blank).species, second_product_of rules e (get_or sites n.0 blank).species) }
  change_two n s =
      let a = cell_is sites p.first.0 first_inside in
      let c = cell_is sites n.0 (second_inside n s) in
      ap (change_at rules (cells_of sites) e) is
      ∙ (ap (λ o. record { time = e.time; out1 = species_at (cells_of sites) p.first.0; in1 = first_product_of rules e (species_at (cells_of sites) p.first.0); second = second_of rules (cells_of sites) e o }) s
      ∙ (λ i. record { time = e.time; out1 = a i; in1 = first_product_of rules e (a i); second = Some (c i, second_product_of rules e (c i)) }))

  module _ (kinds : ℕ) (leaves : All (LeavesWithin kinds) rules) (below : All (λ (s : SiteState). s.species.0 < kinds) sites) where
    leaves_rule : (k : ℕ) (r : Rule) → slice_get rules k ≡ Some r → LeavesWithin kinds r
    leaves_rule k r at = subst (LeavesWithin kinds) (get_or_from_slice_get rules k r r at) (leaves k r (slice_get_within rules k r at))

    first_known : (s : SpeciesId) → s.0 < kinds → (first_product_of rules e s).0 < kinds
    first_known s h = first_within kinds (way_of_channel e.channel) (slice_get rules (rule_of_channel e.channel)) s (λ r at. leaves_rule (rule_of_channel e.channel) r at) h

    second_known : (s : SpeciesId) → s.0 < kinds → (second_product_of rules e s).0 < kinds
    second_known s h = second_within kinds (way_of_channel e.channel) (slice_get rules (rule_of_channel e.channel)) s (λ r at. leaves_rule (rule_of_channel e.channel) r at) h

    -- a species that stands at a site has a count above 0
    counted : (i : ℕ) → i < length sites → 0 < slice_index (counts_of sites kinds) (get_or sites i blank).species.0
    counted i h =
        let k = (get_or sites i blank).species.0 in
        omega (arith, counts-index sites kinds k (below i blank h), one_stands sites i blank k h, one_own k)

    pub follows : (s : Sample) → s.counts ≡ counts_of sites kinds → MayFollow s (change_of l rules sites e)
    follows s counts = subst (λ cs. MayFollow (record { events = s.events; time = s.time; counts = cs }) (change_of l rules sites e)) (sym counts) (by p.second refl)
      where
        first_counts : (first_product_of rules e (get_or sites p.first.0 blank).species).0 < length (counts_of sites kinds)
        first_counts = omega (arith, first_known (get_or sites p.first.0 blank).species (below p.first.0 blank first_inside), counts-length sites kinds)

        by : (o : Option SiteId) → p.second ≡ o → MayFollow (record { events = s.events; time = s.time; counts = counts_of sites kinds }) (change_of l rules sites e)
        by None none = subst (MayFollow (record { events = s.events; time = s.time; counts = counts_of sites kinds })) (sym (change_one none)) (counted p.first.0 first_inside, first_counts, tt)
        by (Some n) two =
            let a = (get_or sites p.first.0 blank).species in
            let c = (get_or sites n.0 blank).species in
            let hc : c.0 < kinds = below n.0 blank (second_inside n two) in
            let down = lowered-index (counts_of sites kinds) a c.0 (omega (arith, hc, counts-length sites kinds)) in
            let both = two_stand sites p.first.0 n.0 blank c.0 (sites_differ l e.place.0 p n is two) first_inside (second_inside n two) in
            let stands : 0 < slice_index (lowered (counts_of sites kinds) a) c.0 = omega (arith, down, both, counts-index sites kinds c.0 hc, one_own c.0) in
            let new : (second_product_of rules e c).0 < length (lowered (counts_of sites kinds) a) = omega (arith, second_known c hc, counts-length sites kinds, lowered-long (counts_of sites kinds) a) in
            subst (MayFollow (record { events = s.events; time = s.time; counts = counts_of sites kinds })) (sym (change_two n two)) (counted p.first.0 first_inside, first_counts, (stands, new))

    pub counts_next : changed (counts_of sites kinds) (change_of l rules sites e) ≡ counts_of (after l rules sites e) kinds
    counts_next = by p.second refl
      where
        by : (o : Option SiteId) → p.second ≡ o → changed (counts_of sites kinds) (change_of l rules sites e) ≡ counts_of (after l rules sites e) kinds
        by None none =
            ap (changed (counts_of sites kinds)) (change_one none)
            ∙ (sym (counts_one sites kinds p.first.0 (first_new rules e (get_or sites p.first.0 blank)) blank first_inside)
            ∙ ap (λ x. counts_of x kinds) (sym (after_one none)))
        by (Some n) two =
            ap (changed (counts_of sites kinds)) (change_two n two)
            ∙ (sym (counts_two sites kinds p.first.0 n.0 (first_new rules e (get_or sites p.first.0 blank)) (second_new rules e (get_or sites n.0 blank)) blank (sites_differ l e.place.0 p n is two) first_inside (second_inside n two))
            ∙ ap (λ x. counts_of x kinds) (sym (after_two n two)))

    pub below_next : All (λ (s : SiteState). s.species.0 < kinds) (after l rules sites e)
    below_next = by p.second refl
      where
        one : All (λ (s : SiteState). s.species.0 < kinds) (set sites p.first.0 (first_new rules e (get_or sites p.first.0 blank)))
        one = All-set (λ (s : SiteState). s.species.0 < kinds) sites p.first.0 (first_new rules e (get_or sites p.first.0 blank)) (first_known (get_or sites p.first.0 blank).species (below p.first.0 blank first_inside)) below

        by : (o : Option SiteId) → p.second ≡ o → All (λ (s : SiteState). s.species.0 < kinds) (after l rules sites e)
        by None none = subst (All (λ (s : SiteState). s.species.0 < kinds)) (sym (after_one none)) one
        by (Some n) two =
            subst (All (λ (s : SiteState). s.species.0 < kinds)) (sym (after_two n two))
            (All-set (λ (s : SiteState). s.species.0 < kinds) (set sites p.first.0 (first_new rules e (get_or sites p.first.0 blank))) n.0 (second_new rules e (get_or sites n.0 blank)) (second_known (get_or sites n.0 blank).species (below n.0 blank (second_inside n two))) one)
