-- The places that have a site, by the way in which they have it.
use Rattle.std.proofs.Common.{◌≡◌, ℕ, ◌*◌, ◌<◌, Some, None, ◌⊎◌, inl, inr, refl, sym, ap, ◌∙◌, if◌then◌else◌}
use Rattle.std.specs.Prelude.{nat_lt}
use Rattle.std.proofs.lemmas.Option.{none-some}
use Rattle.std.proofs.lemmas.Bool.{lt-ltb}
use Rattle.surf_kinds.specs.declared.site.SiteId.{SiteId}
use Rattle.surf_kinds.specs.declared.place.Step.{Step}
use Rattle.surf_kinds.specs.declared.place.Step.TheVariants.{Alone, East, South, SouthWest}
use Rattle.surf_kinds.specs.Steps.{site_of_place, step_of_place, number_of_place}
use Rattle.surf_kinds.proofs.Steps.{site_of_number, step_of_number, number_of_parts}
use Rattle.lattice.specs.Shape.{Shape}
use Rattle.lattice.specs.Places.{neighbour, behind, paired, sites_at, sites_of, HasSite}
use Rattle.lattice.proofs.Sites.{neighbour_back, behind_forth, described}

-- the sites of the place of a site and a step
made_of : (l : Shape) (s : ℕ) (d : Step) → s < l.rows * l.cols → sites_of l (number_of_place s d) ≡ sites_at l s (Some d)
unfolding sites_of
made_of l s d h =
    ap (λ k. if nat_lt k (l.rows * l.cols) then sites_at l k (step_of_place (number_of_place s d)) else None) (site_of_number s d)
    ∙ ap (λ b. if b then sites_at l s (step_of_place (number_of_place s d)) else None) (lt-ltb s (l.rows * l.cols) h)
    ∙ ap (sites_at l s) (step_of_number s d)

joins : (l : Shape) (s : ℕ) (d : Step) (n : SiteId) → neighbour l s d ≡ Some n → sites_at l s (Some d) ≡ paired s (Some n)
joins l s Alone n e = absurd (none-some n e)
joins l s East n e = ap (paired s) e
joins l s South n e = ap (paired s) e
joins l s SouthWest n e = ap (paired s) e

pub alone_is : (l : Shape) (s place : ℕ) → s < l.rows * l.cols → place ≡ number_of_place s Alone → sites_of l place ≡ Some (record { first = record { 0 = s }; second = None })
alone_is l s place h is = ap (sites_of l) is ∙ made_of l s Alone h

pub pair_is : (l : Shape) (s : ℕ) (d : Step) (n : SiteId) (place : ℕ) → s < l.rows * l.cols → place ≡ number_of_place s d → neighbour l s d ≡ Some n → sites_of l place ≡ Some (record { first = record { 0 = s }; second = Some n })
pair_is l s d n place h is e = ap (sites_of l) is ∙ made_of l s d h ∙ joins l s d n e

-- the site alone, a pair of which it is the first, or a pair of which it is the second
abbrev pub Way : Shape → ℕ → ℕ → Type 0
Way l s place =
    (place ≡ number_of_place s Alone)
    ⊎ (((d : Step) × (n : SiteId) × (place ≡ number_of_place s d) × (neighbour l s d ≡ Some n))
    ⊎ ((d : Step) × (n : SiteId) × (place ≡ number_of_place n.0 d) × (behind l s d ≡ Some n)))

pub way_of : (l : Shape) (s place : ℕ) → HasSite l place s → Way l s place
way_of l s place h =
    let d = described l place h.sites h.is in
    elim h.among [
      | inl first ↦
          let at : site_of_place place ≡ s = sym d.first ∙ first in
          elim h.sites.second as (λ o. o ≡ h.sites.second → Way l s place) [
            | None ↦ λ none. inl (number_of_parts place Alone (d.alone (sym none)) ∙ ap (λ k. number_of_place k Alone) at)
            | Some n ↦ λ some.
                let to = d.joined n (sym some) in
                inr (inl (to.step, n, number_of_parts place to.step to.step_is ∙ ap (λ k. number_of_place k to.step) at, ap (λ k. neighbour l k to.step) (sym at) ∙ to.leads))
          ] refl
      | inr second ↦
          let to = d.joined (record { 0 = s }) second in
          let back = neighbour_back l (site_of_place place) to.step (record { 0 = s }) d.below to.leads in
          inr (inr (to.step, record { 0 = site_of_place place }, number_of_parts place to.step to.step_is, back.1))
    ]

pub has_way : (l : Shape) (s place : ℕ) → s < l.rows * l.cols → Way l s place → HasSite l place s
has_way l s place h (inl alone) = record { sites = _; is = alone_is l s place h alone; among = inl refl }
has_way l s place h (inr (inl pair)) = record { sites = _; is = pair_is l s pair.0 pair.1 place h pair.2 pair.3; among = inl refl }
has_way l s place h (inr (inr pair)) =
    let forth = behind_forth l s pair.0 pair.1 h pair.3 in
    record { sites = _; is = pair_is l pair.1.0 pair.0 (record { 0 = s }) place forth.0 pair.2 forth.1; among = inr refl }
