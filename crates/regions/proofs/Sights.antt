-- The sites that a region sees, by rows.
use Rattle.std.proofs.Common.{◌≡◌, ℕ, ◌*◌, ◌/◌, ◌<◌, Option, Some, None, Bool, true, false, ◌==◌, ◌&&◌, ◌⊎◌, inl, inr, refl, sym, ap, ◌∙◌, subst}
use Rattle.std.specs.Option.{option_map, option_map_or}
use Rattle.std.specs.Bool.{Decides}
use Rattle.std.proofs.lemmas.Bool.{false≢true, or_cases, or_left, or_right, eqb-true, eq-eqb}
use Rattle.std.proofs.lemmas.Bool.Decides.{same_from_decides, Decides-eqb, Decides-and, Decides-like, Decides-below_or}
use Rattle.std.proofs.lemmas.Option.{none-some, same_Some}
use Rattle.surf_kinds.specs.declared.site.SiteId.{SiteId}
use Rattle.surf_kinds.specs.declared.site.Sites.{Sites}
use Rattle.surf_kinds.specs.declared.place.Step.TheVariants.{Alone}
use Rattle.surf_kinds.specs.Steps.{number_of_place, end_of_places}
use Rattle.surf_kinds.proofs.Steps.{site_of_number}
use Rattle.lattice.specs.Shape.{Shape}
use Rattle.lattice.specs.Places.{back, sites_of, IsAmong, HasSite}
use Rattle.lattice.specs.Rows.{row_of_place}
use Rattle.lattice.proofs.LawLemmas.{place_below, site_alone, row_below, row_of_site, has_upper, row_back}
use Rattle.regions.specs.Bands.{Bands, region_of, owner_of}
use Rattle.regions.specs.Seen.{some_site, some_site_of, sees_upto, sees, Sees}
use Rattle.regions.proofs.Owners.{above, owner_is}

-- some site of the place passes the test
pub record Passes (l : Shape) (test : ℕ → Bool) (place : ℕ) : Type 0 where
  pub site : ℕ
  pub has : HasSite l place site
  pub passes : test site ≡ true

second_passes : (test : ℕ → Bool) (o : Option SiteId) → option_map_or (λ (n : SiteId). test n.0) o false ≡ true → (s : ℕ) × (o ≡ Some (record { 0 = s })) × (test s ≡ true)
second_passes test None h = absurd (false≢true h)
second_passes test (Some n) h = (n.0, refl, h)

passes : (l : Shape) (test : ℕ → Bool) (place : ℕ) (o : Option Sites) → sites_of l place ≡ o → option_map_or (some_site test) o false ≡ true → Passes l test place
passes l test place None is h = absurd (false≢true h)
passes l test place (Some p) is h =
    elim (or_cases (test p.first.0) (option_map_or (λ (n : SiteId). test n.0) p.second false) h) [
      | inl first ↦ record { site = p.first.0; has = record { sites = p; is = is; among = inl refl }; passes = first }
      | inr second ↦
          let n = second_passes test p.second second in
          record { site = n.0; has = record { sites = p; is = is; among = inr n.1 }; passes = n.2 }
    ]

passing : (test : ℕ → Bool) (p : Sites) (s : ℕ) → IsAmong s p → test s ≡ true → some_site test p ≡ true
passing test p s (inl first) h = or_left (test p.first.0) (option_map_or (λ (n : SiteId). test n.0) p.second false) (ap test first ∙ h)
passing test p s (inr second) h = or_right (test p.first.0) (option_map_or (λ (n : SiteId). test n.0) p.second false) (ap (λ o. option_map_or (λ (n : SiteId). test n.0) o false) second ∙ h)

pub Decides-some_site_of : (b : Bands) (test : ℕ → Bool) (place : ℕ) → Decides (some_site_of b test place) (Passes b.lattice test place)
Decides-some_site_of b test place = (
  λ h. passes b.lattice test place (sites_of b.lattice place) refl h,
  λ x. ap (λ o. option_map_or (some_site test) o false) x.has.is ∙ passing test x.has.sites x.site x.has.among x.passes,
)

-- the place is the region's and has the site
record Shows (b : Bands) (region site place : ℕ) : Type 0 where
  pub own : owner_of b place ≡ region
  pub has : HasSite b.lattice place site

Decides-shows : (b : Bands) (region site place : ℕ) → Decides (owner_of b place == region && some_site_of b (λ s. s == site) place) (Shows b region site place)
Decides-shows b region site place =
    Decides-like _
    (λ x. record { own = x.0; has = at site x.1.site place (eqb-true x.1.site site x.1.passes) x.1.has })
    (λ x. (x.own, record { site = site; has = x.has; passes = eq-eqb site site refl }))
    (Decides-and (owner_of b place == region) (some_site_of b (λ s. s == site) place) (Decides-eqb (owner_of b place) region) (Decides-some_site_of b (λ s. s == site) place))
  where
    at : (s t q : ℕ) → t ≡ s → HasSite b.lattice q t → HasSite b.lattice q s
    at s t q e h = subst (λ k. HasSite b.lattice q k) e h

-- a region sees a site exactly where some place of the region has it
pub Decides-sees : (b : Bands) (region site : ℕ) → Decides (sees b region site) (Sees b region site)
unfolding sees
Decides-sees b region site =
    Decides-like _
    (λ x. record { place = x.0; own = x.2.own; has = x.2.has })
    (λ x. (x.place, place_below b.lattice x.place x.has.sites x.has.is, record { own = x.own; has = x.has }))
    (Decides-below_or (λ q. owner_of b q == region && some_site_of b (λ s. s == site) q) (Shows b region site) (sees_upto b region site) (Decides-shows b region site) refl (λ _. refl) (end_of_places (b.lattice.rows * b.lattice.cols)))

-- a region sees the sites of its own rows, and of the row below them
abbrev pub SeesRow : Bands → ℕ → ℕ → Type 0
SeesRow b region row = (region_of b row ≡ region) ⊎ (above b row ≡ Some region)

pub sees_row : (b : Bands) (region site : ℕ) → Sees b region site → SeesRow b region (site / b.lattice.cols)
sees_row b region site x =
    let own : region_of b (row_of_place b.lattice x.place) ≡ region = sym (owner_is b x.place x.has.sites x.has.is) ∙ x.own in
    let below = row_below b.lattice x.place x.has.sites x.has.is in
    elim (row_of_site b.lattice x.place site x.has) [
      | inl same ↦ inl (ap (region_of b) same ∙ own)
      | inr next ↦
          let back_is = row_back b.lattice (row_of_place b.lattice x.place) (site / b.lattice.cols) below next.1 in
          inr (ap (option_map (region_of b)) back_is ∙ ap (λ k. Some k) own)
    ]

mapped : (f : ℕ → ℕ) (o : Option ℕ) (y : ℕ) → option_map f o ≡ Some y → (x : ℕ) × (o ≡ Some x) × (f x ≡ y)
mapped f None y e = absurd (none-some y e)
mapped f (Some x) y e = (x, refl, same_Some _ _ e)

pub row_seen : (b : Bands) (region site : ℕ) → site < b.lattice.rows * b.lattice.cols → SeesRow b region (site / b.lattice.cols) → Sees b region site
row_seen b region site h (inl own) =
    let is = site_alone b.lattice site h in
    record {
      place = number_of_place site Alone;
      own = owner_is b (number_of_place site Alone) _ is ∙ ap (λ k. region_of b (k / b.lattice.cols)) (site_of_number site Alone) ∙ own;
      has = record { sites = record { first = record { 0 = site }; second = None }; is = is; among = inl refl };
    }
row_seen b region site h (inr is) =
    let row = mapped (region_of b) (back b.lattice.wrap b.lattice.rows (site / b.lattice.cols)) region is in
    let upper = has_upper b.lattice site row.0 h row.1 in
    record {
      place = upper.place;
      own = owner_is b upper.place upper.has.sites upper.has.is ∙ ap (region_of b) upper.row_is ∙ row.2;
      has = upper.has;
    }

pub sees_by_row : (b : Bands) (region site : ℕ) (r : Bool) → site < b.lattice.rows * b.lattice.cols → Decides r (SeesRow b region (site / b.lattice.cols)) → r ≡ sees b region site
sees_by_row b region site r h d =
    same_from_decides r (sees b region site) d (Decides-like (sees b region site) (sees_row b region site) (row_seen b region site h) (Decides-sees b region site))

pub sees_own : (b : Bands) (place site : ℕ) → HasSite b.lattice place site → sees b (owner_of b place) site ≡ true
sees_own b place site h = (Decides-sees b (owner_of b place) site).1 (record { place = place; own = refl; has = h })
