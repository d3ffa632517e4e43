-- The row and the region of a place.
use Rattle.std.proofs.Common.{◌≡◌, ℕ, ◌*◌, ◌/◌, ◌<◌, Option, Some, None, true, refl, sym, ap, ◌∙◌, subst, arith}
use Rattle.std.specs.Prelude.{IsSome}
use Rattle.std.specs.Option.{option_map, option_map_or}
use Rattle.std.proofs.lemmas.Bool.{false≢true}
use Rattle.surf_kinds.specs.declared.site.Sites.{Sites}
use Rattle.surf_kinds.specs.Steps.{site_of_place}
use Rattle.lattice.specs.Shape.{Shape}
use Rattle.lattice.specs.Places.{forward, back, sites_of, IsPlace}
use Rattle.lattice.specs.Rows.{row_of_place}
use Rattle.lattice.proofs.LawLemmas.{first_is, first_below, row_below}
use Rattle.regions.specs.Bands.{Bands, IsCut, has_row, region_of, owner_of}
use Rattle.regions.proofs.Rows.{region_has}

-- the regions of the rows above and below a row
abbrev pub above : Bands → ℕ → Option ℕ
above b row = option_map (region_of b) (back b.lattice.wrap b.lattice.rows row)

abbrev pub below : Bands → ℕ → Option ℕ
below b row = option_map (region_of b) (forward b.lattice.wrap b.lattice.rows row)

some_of : (o : Option Sites) → IsSome o → (p : Sites) × (o ≡ Some p)
some_of None h = absurd (false≢true h)
some_of (Some p) h = (p, refl)

-- the sites of a place that exists
pub sites_at : (l : Shape) (place : ℕ) → IsPlace l place → (p : Sites) × (sites_of l place ≡ Some p)
sites_at l place h = some_of (sites_of l place) h

-- the first site is a site of the lattice
pub number_below : (l : Shape) (place : ℕ) (p : Sites) → sites_of l place ≡ Some p → site_of_place place < l.rows * l.cols
number_below l place p is = subst (λ k. k < l.rows * l.cols) (first_is l place p is) (first_below l place p is)

pub owner_is : (b : Bands) (place : ℕ) (p : Sites) → sites_of b.lattice place ≡ Some p → owner_of b place ≡ region_of b (row_of_place b.lattice place)
unfolding owner_of
owner_is b place p is =
    ap (λ o. option_map_or (λ (x : Sites). region_of b (x.first.0 / b.lattice.cols)) o 0) is
    ∙ ap (λ s. region_of b (s / b.lattice.cols)) (first_is b.lattice place p is)

some_owner : (b : Bands) (o : Option Sites) → IsCut b → ((p : Sites) → o ≡ Some p → p.first.0 / b.lattice.cols < b.lattice.rows) → option_map_or (λ (p : Sites). region_of b (p.first.0 / b.lattice.cols)) o 0 < b.count
some_owner b None cut within = omega (arith, cut.at_least)
some_owner b (Some p) cut within = (region_has b (p.first.0 / b.lattice.cols) cut (within p refl)).below

-- the owner is a region
pub owner_below : (b : Bands) (place : ℕ) → IsCut b → owner_of b place < b.count
unfolding owner_of
owner_below b place cut =
    some_owner b (sites_of b.lattice place) cut (λ p is. subst (λ s. s / b.lattice.cols < b.lattice.rows) (sym (first_is b.lattice place p is)) (row_below b.lattice place p is))

-- the owner has the row of the first site
pub owner_has : (b : Bands) (place : ℕ) (p : Sites) → IsCut b → sites_of b.lattice place ≡ Some p → has_row b (owner_of b place) (p.first.0 / b.lattice.cols) ≡ true
owner_has b place p cut is =
    subst (λ s. has_row b (owner_of b place) (s / b.lattice.cols) ≡ true) (sym (first_is b.lattice place p is))
    (subst (λ k. has_row b k (row_of_place b.lattice place) ≡ true) (sym (owner_is b place p is)) (region_has b (row_of_place b.lattice place) cut (row_below b.lattice place p is)).has)
