-- The regions that are told of an event, by rows.
use Rattle.std.proofs.Common.{◌≡◌, ◌≢◌, ℕ, ◌/◌, ◌<◌, Option, Some, true, false, ◌==◌, not, ◌⊎◌, ◌↔◌, inl, inr, refl, sym, ap, ◌∙◌, subst, arith}
use Rattle.std.specs.Option.{option_map}
use Rattle.std.specs.Bool.{Decides}
use Rattle.std.proofs.lemmas.Bool.{both_ways, false_from_ne_true}
use Rattle.std.proofs.lemmas.Bool.Decides.{Decides-eqb, Decides-not, Decides-and, Decides-like}
use Rattle.std.proofs.lemmas.Option.{same_Some}
use Rattle.surf_kinds.specs.declared.site.Sites.{Sites}
use Rattle.surf_kinds.specs.Steps.{site_of_place}
use Rattle.lattice.specs.Places.{sites_of, HasSite}
use Rattle.lattice.specs.Rows.{row_of_place, goes_down}
use Rattle.lattice.proofs.LawLemmas.{row_below, row_of_site, has_first, has_lower, row_back}
use Rattle.regions.specs.Bands.{Bands, IsCut, region_of, owner_of}
use Rattle.regions.specs.Seen.{some_site_of, sees, is_told, IsTold}
use Rattle.regions.proofs.Owners.{above, below, number_below, owner_is, owner_below}
use Rattle.regions.proofs.Sights.{Decides-some_site_of, Decides-sees, sees_row, row_seen}

-- a region is told exactly where the place is another's and it sees one of the sites
pub Decides-is_told : (b : Bands) (region place : ℕ) → Decides (is_told b region place) (IsTold b region place)
unfolding is_told
Decides-is_told b region place =
    Decides-like _
    (λ x. record { other = x.0; site = x.1.site; has = x.1.has; seen = (Decides-sees b region x.1.site).0 x.1.passes })
    (λ x. (x.other, record { site = x.site; has = x.has; passes = (Decides-sees b region x.site).1 x.seen }))
    (Decides-and (not (owner_of b place == region)) (some_site_of b (sees b region) place)
    (Decides-not (owner_of b place == region) (Decides-eqb (owner_of b place) region))
    (Decides-some_site_of b (sees b region) place))

-- it has the row above, or of a pair of two rows the row below
pub record ToldRow (b : Bands) (region place : ℕ) : Type 0 where
  pub other : region_of b (row_of_place b.lattice place) ≢ region
  pub near : (above b (row_of_place b.lattice place) ≡ Some region)
      ⊎ ((goes_down place ≡ true) × (below b (row_of_place b.lattice place) ≡ Some region))

pub told_row : (b : Bands) (region place : ℕ) → IsTold b region place → ToldRow b region place
told_row b region place x =
    let own = owner_is b place x.has.sites x.has.is in
    let differ : region_of b (row_of_place b.lattice place) ≢ region = λ e. x.other (own ∙ e) in
    let within = row_below b.lattice place x.has.sites x.has.is in
    record {
      other = differ;
      near = elim (row_of_site b.lattice place x.site x.has) [
        | inl same ↦ elim (sees_row b region x.site x.seen) [
          | inl has ↦ absurd (differ (sym (ap (region_of b) same) ∙ has))
          | inr up ↦ inl (sym (ap (above b) same) ∙ up)
        ]
        | inr next ↦ elim (sees_row b region x.site x.seen) [
          | inl has ↦ inr (next.0, ap (option_map (region_of b)) next.1 ∙ ap (λ k. Some k) has)
          | inr up ↦
              let back_is = row_back b.lattice (row_of_place b.lattice place) (x.site / b.lattice.cols) within next.1 in
              absurd (differ (same_Some _ _ (sym (ap (option_map (region_of b)) back_is) ∙ up)))
        ]
      ];
    }

pub row_told : (b : Bands) (region place : ℕ) (p : Sites) → sites_of b.lattice place ≡ Some p → ToldRow b region place → IsTold b region place
row_told b region place p is x =
    let other : owner_of b place ≢ region = λ e. x.other (sym (owner_is b place p is) ∙ e) in
    elim x.near [
      | inl up ↦ record {
        other = other;
        site = site_of_place place;
        has = has_first b.lattice place p is;
        seen = row_seen b region (site_of_place place) (number_below b.lattice place p is) (inr up);
      }
      | inr down ↦
          let lower = has_lower b.lattice place p is down.0 in
          record {
            other = other;
            site = lower.site;
            has = lower.has;
            seen = row_seen b region lower.site lower.within (inl (same_Some _ _ (sym (ap (option_map (region_of b)) lower.row) ∙ down.1)));
          }
    ]

-- what is found is the other region with the row above
abbrev pub IsOtherAbove : Bands → ℕ → Option ℕ → Type 0
IsOtherAbove b place found =
    (r : ℕ) → (found ≡ Some r)
    ↔ ((above b (row_of_place b.lattice place) ≡ Some r) × (region_of b (row_of_place b.lattice place) ≢ r))

-- what is found is, of a pair of two rows, the other region with the row below
abbrev pub IsOtherBelow : Bands → ℕ → Option ℕ → Type 0
IsOtherBelow b place found =
    (r : ℕ) → (found ≡ Some r)
    ↔ ((goes_down place ≡ true) × (below b (row_of_place b.lattice place) ≡ Some r) × (region_of b (row_of_place b.lattice place) ≢ r))

-- these two are the regions that are told
pub told_listed : (b : Bands) (place : ℕ) (p : Sites) (up down : Option ℕ) → sites_of b.lattice place ≡ Some p
    → IsOtherAbove b place up → IsOtherBelow b place down
    → (region : ℕ) → (is_told b region place ≡ true) ↔ ((up ≡ Some region) ⊎ (down ≡ Some region))
told_listed b place p up down is is_up is_down region = (
  λ h.
      let x = told_row b region place ((Decides-is_told b region place).0 h) in
      elim x.near [
        | inl near ↦ inl ((is_up region).1 (near, x.other))
        | inr near ↦ inr ((is_down region).1 (near.0, near.1, x.other))
      ],
  λ h.
      (Decides-is_told b region place).1
      (row_told b region place p is
      (elim h [
        | inl at ↦ let x = (is_up region).0 at in record { other = x.1; near = inl x.0 }
        | inr at ↦ let x = (is_down region).0 at in record { other = x.2; near = inr (x.0, x.1) }
      ])),
)

two_of : (a b : Option ℕ) (i j k : ℕ) → (a ≡ Some i) ⊎ (b ≡ Some i) → (a ≡ Some j) ⊎ (b ≡ Some j) → (a ≡ Some k) ⊎ (b ≡ Some k) → (i ≡ j) ⊎ ((j ≡ k) ⊎ (i ≡ k))
two_of a b i j k p q r = grind arith

-- the row above has one region, and so has the row below
pub two_told : (b : Bands) (place i j k : ℕ) → is_told b i place ≡ true → is_told b j place ≡ true → is_told b k place ≡ true → (i ≡ j) ⊎ ((j ≡ k) ⊎ (i ≡ k))
two_told b place i j k p q r = two_of _ _ i j k (near i p) (near j q) (near k r)
  where
    near : (r : ℕ) → is_told b r place ≡ true
        → (above b (row_of_place b.lattice place) ≡ Some r)
        ⊎ (below b (row_of_place b.lattice place) ≡ Some r)
    near r h = elim (told_row b r place ((Decides-is_told b r place).0 h)).near [ inl up ↦ inl up | inr down ↦ inr down.1 ]

-- a region that is told nothing of another's place sees none of its sites
pub unseen : (b : Bands) (region place site : ℕ) → owner_of b place ≢ region → is_told b region place ≡ false → HasSite b.lattice place site → sees b region site ≡ false
unseen b region place site other silent h =
    false_from_ne_true (sees b region site) (λ e.
    both_ways (is_told b region place) silent
    ((Decides-is_told b region place).1 (record { other = other; site = site; has = h; seen = (Decides-sees b region site).0 e })))

-- the owner is not told
pub not_itself : (b : Bands) (place : ℕ) → is_told b (owner_of b place) place ≡ false
not_itself b place = false_from_ne_true (is_told b (owner_of b place) place) (λ e. ((Decides-is_told b (owner_of b place) place).0 e).other refl)

-- a region that is told is a region of the cut
pub told_below : (b : Bands) (region place : ℕ) → IsCut b → is_told b region place ≡ true → region < b.count
told_below b region place cut h =
    let x = (Decides-is_told b region place).0 h in
    subst (λ k. k < b.count) x.seen.own (owner_below b x.seen.place cut)
