-- The sites of a place that has a site.
use Rattle.std.proofs.Common.{◌≡◌, ◌≢◌, ℕ, ◌*◌, ◌<◌, Option, Some, None, inl, inr, refl, sym, ap, ◌∙◌}
use Rattle.surf_kinds.specs.declared.site.SiteId.{SiteId}
use Rattle.surf_kinds.specs.declared.site.Sites.{Sites}
use Rattle.surf_kinds.specs.declared.place.Step.{Step}
use Rattle.surf_kinds.specs.Steps.{site_of_place, step_of_place}
use Rattle.lattice.specs.Shape.{Shape}
use Rattle.lattice.specs.Places.{beside, sites_of, HasSite}
use Rattle.lattice.proofs.Sites.{described}

pub numbered_below : (l : Shape) (place s : ℕ) → HasSite l place s → site_of_place place < l.rows * l.cols
numbered_below l place s h = (described l place h.sites h.is).below

made : (p : Sites) (a : ℕ) (o : Option SiteId) → p.first.0 ≡ a → p.second ≡ o → ◌≡◌ {A = Sites} (record { first = record { 0 = a }; second = o }) p
made p a o f e = ap (λ (n : ℕ). record { first = record { 0 = n }; second = o }) (sym f) ∙ ap (λ (x : Option SiteId). record { first = p.first; second = x }) (sym e)

second_is : (l : Shape) (place : ℕ) (p : Sites) (o : Option SiteId) → sites_of l place ≡ Some p → o ≡ p.second → p.second ≡ beside l (site_of_place place) (step_of_place place)
second_is l place p None h is = sym is ∙ sym (ap (beside l (site_of_place place)) ((described l place p h).alone (sym is)))
second_is l place p (Some n) h is =
    let to = (described l place p h).joined n (sym is) in
    sym is ∙ sym (ap (beside l (site_of_place place)) to.step_is ∙ to.leads)

-- the site stands first: the other is where the step leads
pub with_first : (l : Shape) (place s first : ℕ) (step : Option Step) (o : Option SiteId) → HasSite l place s → first ≡ site_of_place place → step ≡ step_of_place place → o ≡ beside l first step → Some (record { first = record { 0 = first }; second = o }) ≡ sites_of l place
with_first l place s first step o h at by is =
    let d = described l place h.sites h.is in
    let there : beside l first step ≡ beside l (site_of_place place) (step_of_place place) = ap (λ k. beside l k step) at ∙ ap (beside l (site_of_place place)) by in
    ap (λ (x : Sites). Some x) (made h.sites first o (d.first ∙ sym at) (second_is l place h.sites h.sites.second h.is refl ∙ (sym there ∙ sym is))) ∙ sym h.is

-- another stands first: the site is the second
pub with_second : (l : Shape) (place first : ℕ) (s : SiteId) → HasSite l place s.0 → first ≡ site_of_place place → first ≢ s.0 → Some (record { first = record { 0 = first }; second = Some s }) ≡ sites_of l place
with_second l place first s h at apart =
    let d = described l place h.sites h.is in
    elim h.among [
      | inl named ↦ absurd (apart (at ∙ (sym d.first ∙ named)))
      | inr second ↦ ap (λ (x : Sites). Some x) (made h.sites first (Some s) (d.first ∙ sym at) second) ∙ sym h.is
    ]
