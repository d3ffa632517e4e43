-- The laws of places: a place's two sites differ, no two places have the same sites, and places are bounded.
use Rattle.std.proofs.Common.{◌≡◌, ◌≢◌, ℕ, ◌*◌, ◌/◌, ◌%◌, ◌<◌, Option, Some, None, ◌⊎◌, inl, inr, refl, sym, ap, ◌∙◌, subst, arith}
use Rattle.std.proofs.lemmas.Option.{none-some, same_Some}
use Rattle.surf_kinds.specs.declared.site.SiteId.{SiteId}
use Rattle.surf_kinds.specs.declared.site.Sites.{Sites}
use Rattle.surf_kinds.specs.declared.place.Step.TheVariants.{Alone}
use Rattle.surf_kinds.specs.Steps.{site_of_place, step_number, end_of_places}
use Rattle.surf_kinds.proofs.Steps.{number_of_parts, below_end}
use Rattle.lattice.specs.Shape.{Shape}
use Rattle.lattice.specs.Places.{IsAmong, sites_of, SameSites}
use Rattle.lattice.proofs.Sites.{Described, described, first_below, second_below}
use Rattle.lattice.proofs.Moves.{Moves, moves, no_return, same_step, neighbour_differs}

-- the sites of a place are sites of the lattice
pub sites_below : (l : Shape) (place s : ℕ) (p : Sites) → sites_of l place ≡ Some p → IsAmong s p → s < l.rows * l.cols
sites_below l place s p e (inl first) = let below = first_below l place p e in omega (arith, below, first)
sites_below l place s p e (inr second) = second_below l place p (record { 0 = s }) e second

-- a place's two sites differ
pub sites_differ : (l : Shape) (place : ℕ) (p : Sites) (n : SiteId) → sites_of l place ≡ Some p → p.second ≡ Some n → n.0 ≢ p.first.0
sites_differ l place p n e second is =
    let d = described l place p e in
    let to = d.joined n second in
    neighbour_differs l (site_of_place place) to.step n d.below to.leads (is ∙ d.first)

-- the numbers of places end behind those of the last site
pub place_below : (l : Shape) (place : ℕ) (p : Sites) → sites_of l place ≡ Some p → place < end_of_places (l.rows * l.cols)
place_below l place p e = (below_end place (l.rows * l.cols)).0 (described l place p e).below

pub none_or_some : {A : Type 0} (o : Option A) → (o ≡ None) ⊎ ((x : A) × (o ≡ Some x))
none_or_some None = inl refl
none_or_some (Some x) = inr (x, refl)

one_site : (l : Shape) (p q : ℕ) (x y : Sites) → Described l p x → Described l q y → SameSites x y → x.second ≡ None → y.second ≡ None → p ≡ q
one_site l p q x y d e same none nothing =
    let first : y.first.0 ≡ x.first.0 = elim ((same x.first.0).0 (inl refl)) [ inl f ↦ f | inr s ↦ absurd (none-some _ (sym nothing ∙ s)) ] in
    omega (arith, first, d.first, e.first, number_of_parts p Alone (d.alone none), number_of_parts q Alone (e.alone nothing))

-- a site alone is no pair
lone : (x y : Sites) (n : SiteId) → SameSites x y → x.second ≡ None → y.second ≡ Some n → n.0 ≡ y.first.0
lone x y n same none some =
    let of_first : x.first.0 ≡ y.first.0 = elim ((same y.first.0).1 (inl refl)) [ inl f ↦ f | inr s ↦ absurd (none-some _ (sym none ∙ s)) ] in
    let of_second : x.first.0 ≡ n.0 = elim ((same n.0).1 (inr some)) [ inl f ↦ f | inr s ↦ absurd (none-some _ (sym none ∙ s)) ] in
    sym of_second ∙ of_first

abbrev Steps : Shape → ℕ → ℕ → ℕ → Type 0
Steps l d a b = Moves l.rows l.cols d (a / l.cols) (a % l.cols) (b / l.cols) (b % l.cols)

two_sites : (l : Shape) (p q : ℕ) (x y : Sites) (n m : SiteId) → Described l p x → Described l q y → SameSites x y → x.second ≡ Some n → y.second ≡ Some m → p ≡ q
two_sites l p q x y n m d e same some other =
    let to = d.joined n some in
    let to_other = e.joined m other in
    let step : Steps l (step_number to.step) (site_of_place p) n.0 = moves l (site_of_place p) to.step n d.below to.leads in
    let step_of : Steps l (step_number to_other.step) (site_of_place q) m.0 = moves l (site_of_place q) to_other.step m e.below to_other.leads in
    let differ : n.0 ≢ site_of_place p = neighbour_differs l (site_of_place p) to.step n d.below to.leads in
    let is_m : (k : ℕ) → y.second ≡ Some (record { 0 = k }) → m.0 ≡ k = λ k h. ap (λ (z : SiteId). z.0) (same_Some m (record { 0 = k }) (sym other ∙ h)) in
    elim ((same x.first.0).0 (inl refl)) [
      | inl first ↦ elim ((same n.0).0 (inr some)) [
        | inl again ↦ absurd (differ (sym again ∙ (first ∙ d.first)))
        | inr second ↦
            let at : site_of_place q ≡ site_of_place p = sym e.first ∙ (first ∙ d.first) in
            let step_from : Steps l (step_number to_other.step) (site_of_place p) m.0 = subst (λ k. Steps l (step_number to_other.step) k m.0) at step_of in
            let step_to : Steps l (step_number to_other.step) (site_of_place p) n.0 = subst (λ k. Steps l (step_number to_other.step) (site_of_place p) k) (is_m n.0 second) step_from in
            let way : step_number to.step ≡ step_number to_other.step = same_step _ _ _ _ _ _ _ _ step step_to in
            omega (arith, at, way, number_of_parts p to.step to.step_is, number_of_parts q to_other.step to_other.step_is)
      ]
      | inr back ↦ elim ((same n.0).0 (inr some)) [
        | inl first ↦
            let at : site_of_place q ≡ n.0 = sym e.first ∙ first in
            let lands : m.0 ≡ site_of_place p = is_m x.first.0 back ∙ d.first in
            let step_from : Steps l (step_number to_other.step) n.0 m.0 = subst (λ k. Steps l (step_number to_other.step) k m.0) at step_of in
            let step_to : Steps l (step_number to_other.step) n.0 (site_of_place p) = subst (λ k. Steps l (step_number to_other.step) n.0 k) lands step_from in
            absurd (no_return _ _ _ _ _ _ _ _ step step_to)
        | inr second ↦ absurd (differ (sym (is_m n.0 second) ∙ is_m x.first.0 back ∙ d.first))
      ]
    ]

-- two places with the same sites are equal
pub same_sites : (l : Shape) (p q : ℕ) (x y : Sites) → sites_of l p ≡ Some x → sites_of l q ≡ Some y → SameSites x y → p ≡ q
same_sites l p q x y is other same =
    let d = described l p x is in
    let e = described l q y other in
    elim (none_or_some x.second) [
      | inl none ↦ elim (none_or_some y.second) [
        | inl nothing ↦ one_site l p q x y d e same none nothing
        | inr m ↦ absurd (sites_differ l q y m.0 other m.1 (lone x y m.0 same none m.1))
      ]
      | inr n ↦ elim (none_or_some y.second) [
        | inl nothing ↦ absurd (sites_differ l p x n.0 is n.1 (lone y x n.0 (λ s. ((same s).1, (same s).0)) nothing n.1))
        | inr m ↦ two_sites l p q x y n.0 m.0 d e same n.1 m.1
      ]
    ]
