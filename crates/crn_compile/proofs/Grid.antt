-- The places of two sites of a square lattice without wrapping.
use Rattle.std.proofs.Common.{◌≡◌, ◌≢◌, ℕ, zero, suc, ◌+◌, ◌*◌, ◌/◌, ◌%◌, ◌<◌, ◌≤◌, ◌⊎◌, inl, inr, Option, Some, None, Bool, true, false, refl, sym, ap, ◌∙◌, subst, arith, if◌then◌else◌}
use Rattle.std.specs.Prelude.{nat_lt}
use Rattle.std.proofs.lemmas.Option.{none-some, same_Some}
use Rattle.std.proofs.lemmas.Bool.{cases_lt, ltb-true, lt-ltb}
use Rattle.std.proofs.lemmas.Nat.{div-mul-add, mod-mul-add, div-add-mod', mod_below, le-div}
use Rattle.surf_kinds.specs.declared.site.SiteId.{SiteId}
use Rattle.surf_kinds.specs.declared.site.Sites.{Sites}
use Rattle.surf_kinds.specs.declared.place.Step.{Step}
use Rattle.surf_kinds.specs.declared.place.Step.TheVariants.{Alone, East, South, SouthWest}
use Rattle.surf_kinds.specs.Steps.{site_of_place, step_of_place, number_of_place}
use Rattle.surf_kinds.proofs.Steps.{site_of_number, step_of_number}
use Rattle.crn_compile.specs.Start.{flat}
use Rattle.lattice.specs.Places.{forward, site_at, neighbour, paired, sites_at, sites_of}

-- two sites are neighbours, the second to the east or to the south
pub record ArePair (rows cols i j : ℕ) : Type 0 where
  pub inside : i < rows * cols
  pub second : ((j ≡ i + 1) × (i % cols + 1 < cols)) ⊎ ((j ≡ i + cols) × (i / cols + 1 < rows))

pub spot_east : (s cols : ℕ) → s % cols + 1 < cols → ((s + 1) / cols ≡ s / cols) × ((s + 1) % cols ≡ s % cols + 1)
spot_east s cols h =
    let e : s + 1 ≡ s / cols * cols + (s % cols + 1) = omega (arith, div-add-mod' s cols) in
    (ap (λ n. n / cols) e ∙ div-mul-add (s / cols) cols (s % cols + 1) h, ap (λ n. n % cols) e ∙ mod-mul-add (s / cols) cols (s % cols + 1) h)

pub spot_south : (s cols : ℕ) → 0 < cols → ((s + cols) / cols ≡ s / cols + 1) × ((s + cols) % cols ≡ s % cols)
spot_south s cols h =
    let e : s + cols ≡ (s / cols + 1) * cols + s % cols = omega (arith, div-add-mod' s cols) in
    let below = mod_below s cols h in
    (ap (λ n. n / cols) e ∙ div-mul-add (s / cols + 1) cols (s % cols) below, ap (λ n. n % cols) e ∙ mod-mul-add (s / cols + 1) cols (s % cols) below)

pub has_cols : (s rows cols : ℕ) → s < rows * cols → 0 < cols
has_cols s rows zero h = absurd (omega arith)
has_cols s rows (suc n) h = omega arith

-- a step to the next coordinate stays within the dimension
forward_in : (size i k : ℕ) (b : Bool) → nat_lt (i + 1) size ≡ b → (if b then Some (i + 1) else None) ≡ Some k → (i + 1 < size) × (k ≡ i + 1)
forward_in size i k true test h = (ltb-true (i + 1) size test, sym (same_Some _ _ h))
forward_in size i k false test h = absurd (none-some k h)

forward_is : (size i k : ℕ) → forward false size i ≡ Some k → (i + 1 < size) × (k ≡ i + 1)
forward_is size i k h = forward_in size i k (nat_lt (i + 1) size) refl h

col_is : (cols row : ℕ) (o : Option ℕ) (n : SiteId) → site_at cols (Some row) o ≡ Some n → (c : ℕ) × (o ≡ Some c) × (n.0 ≡ row * cols + c)
col_is cols row None n h = absurd (none-some n h)
col_is cols row (Some c) n h = (c, refl, ap (λ (x : SiteId). x.0) (sym (same_Some _ _ h)))

row_is : (cols col : ℕ) (o : Option ℕ) (n : SiteId) → site_at cols o (Some col) ≡ Some n → (r : ℕ) × (o ≡ Some r) × (n.0 ≡ r * cols + col)
row_is cols col None n h = absurd (none-some n h)
row_is cols col (Some r) n h = (r, refl, ap (λ (x : SiteId). x.0) (sym (same_Some _ _ h)))

east_near : (rows cols s : ℕ) (n : SiteId) → s < rows * cols → site_at cols (Some (s / cols)) (forward false cols (s % cols)) ≡ Some n → ArePair rows cols s n.0
east_near rows cols s n inside h =
    let c = col_is cols (s / cols) (forward false cols (s % cols)) n h in
    let f = forward_is cols (s % cols) c.0 c.1 in
    record { inside = inside; second = inl (omega (arith, c.2, f.1, div-add-mod' s cols), f.0) }

south_near : (rows cols s : ℕ) (n : SiteId) → s < rows * cols → site_at cols (forward false rows (s / cols)) (Some (s % cols)) ≡ Some n → ArePair rows cols s n.0
south_near rows cols s n inside h =
    let r = row_is cols (s % cols) (forward false rows (s / cols)) n h in
    let f = forward_is rows (s / cols) r.0 r.1 in
    let e : r.0 * cols ≡ (s / cols + 1) * cols = ap (λ k. k * cols) f.1 in
    record { inside = inside; second = inr (omega (arith, r.2, e, div-add-mod' s cols), f.0) }

near : (rows cols s : ℕ) (d : Step) (n : SiteId) → s < rows * cols → neighbour (flat rows cols) s d ≡ Some n → ArePair rows cols s n.0
near rows cols s Alone n inside h = absurd (none-some n h)
near rows cols s East n inside h = east_near rows cols s n inside h
near rows cols s South n inside h = south_near rows cols s n inside h
near rows cols s SouthWest n inside h = absurd (none-some n h)

paired_is : (s : ℕ) (o : Option SiteId) (p : Sites) (j : SiteId) → paired s o ≡ Some p → p.second ≡ Some j → (p.first.0 ≡ s) × (o ≡ Some j)
paired_is s None p j h is = absurd (none-some p h)
paired_is s (Some n) p j h is =
    let e : record { first = record { 0 = s }; second = Some n } ≡ p = same_Some _ _ h in
    (ap (λ (q : Sites). q.first.0) (sym e), ap (λ (q : Sites). q.second) e ∙ is)

by_step : (rows cols s : ℕ) (d : Step) (p : Sites) (j : SiteId) → s < rows * cols → paired s (neighbour (flat rows cols) s d) ≡ Some p → p.second ≡ Some j → ArePair rows cols p.first.0 j.0
by_step rows cols s d p j inside h is =
    let q = paired_is s (neighbour (flat rows cols) s d) p j h is in
    subst (λ k. ArePair rows cols k j.0) (sym q.0) (near rows cols s d j inside q.1)

at_pair : (rows cols s : ℕ) (d : Option Step) (p : Sites) (j : SiteId) → s < rows * cols → sites_at (flat rows cols) s d ≡ Some p → p.second ≡ Some j → ArePair rows cols p.first.0 j.0
at_pair rows cols s None p j inside h is = absurd (none-some p h)
at_pair rows cols s (Some Alone) p j inside h is =
    let e : record { first = record { 0 = s }; second = None } ≡ p = same_Some _ _ h in
    absurd (none-some j (ap (λ (q : Sites). q.second) e ∙ is))
at_pair rows cols s (Some East) p j inside h is = by_step rows cols s East p j inside h is
at_pair rows cols s (Some South) p j inside h is = by_step rows cols s South p j inside h is
at_pair rows cols s (Some SouthWest) p j inside h is = by_step rows cols s SouthWest p j inside h is

of_inside : (rows cols s : ℕ) (d : Option Step) (p : Sites) (j : SiteId) (b : Bool) → nat_lt s (rows * cols) ≡ b → (if b then sites_at (flat rows cols) s d else None) ≡ Some p → p.second ≡ Some j → ArePair rows cols p.first.0 j.0
of_inside rows cols s d p j true test h is = at_pair rows cols s d p j (ltb-true s (rows * cols) test) h is
of_inside rows cols s d p j false test h is = absurd (none-some p h)

-- the two sites of a place are such neighbours
pub of_place : (rows cols place : ℕ) (p : Sites) (j : SiteId) → sites_of (flat rows cols) place ≡ Some p → p.second ≡ Some j → ArePair rows cols p.first.0 j.0
unfolding sites_of
of_place rows cols place p j h is = of_inside rows cols (site_of_place place) (step_of_place place) p j (nat_lt (site_of_place place) (rows * cols)) refl h is

pub apart : (rows cols i j : ℕ) → ArePair rows cols i j → j ≢ i
apart rows cols i j pair same = elim pair.second [
  | inl e ↦ omega (arith, e.0, same)
  | inr e ↦ let h = has_cols i rows cols pair.inside in omega (arith, e.0, same, h)
]

-- the sites of a site and its neighbour
abbrev pub pair_of : ℕ → ℕ → Sites
pair_of s n = record { first = record { 0 = s }; second = Some (record { 0 = n }) }

-- a site and its neighbour to the east, or to the south, have a place
pub east_place : (rows cols s : ℕ) → s < rows * cols → s % cols + 1 < cols → sites_of (flat rows cols) (number_of_place s East) ≡ Some (pair_of s (s + 1))
unfolding sites_of
east_place rows cols s inside h =
    let e : s / cols * cols + (s % cols + 1) ≡ s + 1 = omega (arith, div-add-mod' s cols) in
    rw (site_of_number s East, step_of_number s East, lt-ltb s (rows * cols) inside, lt-ltb (s % cols + 1) cols h, e) refl

pub south_place : (rows cols s : ℕ) → s < rows * cols → s / cols + 1 < rows → sites_of (flat rows cols) (number_of_place s South) ≡ Some (pair_of s (s + cols))
unfolding sites_of
south_place rows cols s inside h =
    let e : (s / cols + 1) * cols + s % cols ≡ s + cols = omega (arith, div-add-mod' s cols) in
    rw (site_of_number s South, step_of_number s South, lt-ltb s (rows * cols) inside, lt-ltb (s / cols + 1) rows h, e) refl

-- a site in a row of the surface is within it
pub below : (rows cols s : ℕ) → 0 < cols → s / cols < rows → s < rows * cols
below rows cols s h l = elim (cases_lt s (rows * cols)) [
  | inl lt ↦ lt
  | inr le ↦ absurd (let g : rows ≤ s / cols = le-div rows s cols h le in omega (arith, g))
]
