-- A cell that a neighbour can fill is filled by a channel of the surface.
use Rattle.std.proofs.Common.{◌≡◌, ℕ, ◌+◌, ◌*◌, ◌<◌, inl, inr, List, length, Some, Bool, true, false, refl, sym, ap, ◌∙◌, arith, get_or, ◌==◌, ◌&&◌}
use Rattle.std.specs.Prelude.{slice_get, not, nat_lt}
use Rattle.std.proofs.lemmas.Option.{slice_get-get_or}
use Rattle.std.proofs.lemmas.Bool.{and_parts, and_from, eqb-true, eq-eqb}
use Rattle.std.proofs.lemmas.Nat.{div-mul-add, mod-mul-add}
use Rattle.surf_kinds.specs.declared.rule.Rule.{Rule}
use Rattle.surf_kinds.specs.declared.rule.Rule.TheVariants.{Two}
use Rattle.surf_kinds.specs.declared.site.SiteId.{SiteId}
use Rattle.surf_kinds.specs.declared.site.SpeciesId.{SpeciesId}
use Rattle.lattice.specs.Places.{sites_of}
use Rattle.surf_kinds.specs.Channels.{rule_of_channel, way_of_channel}
use Rattle.surf_kinds.specs.declared.place.Step.TheVariants.{East, South}
use Rattle.surf_kinds.specs.Steps.{number_of_place}
use Rattle.lattice.specs.Channels.{matches, products}
use Rattle.reach.specs.Reach.{Firing, put, Fires}
use Rattle.gate_layout.specs.Table.{Table, Spot, IsSpot}
use Rattle.crn_compile.specs.Cells.{Cell, filled, work_of}
use Rattle.crn_compile.specs.Species.{cell_of, unit_rate, circuit_rules}
use Rattle.crn_compile.specs.Start.{flat, site, no_species}
use Rattle.crn_compile.proofs.Tables.{has_rule}
use Rattle.crn_compile.proofs.Falls.{filled_falls}
use Rattle.crn_compile.proofs.Grid.{pair_of, east_place, south_place}
use Rattle.crn_compile.proofs.Goes.{site_row, site_col, site_inside, CanFill}

-- something fires
abbrev pub CanFire : ℕ → ℕ → List SpeciesId → Type 0
CanFire rows cols S = (f : Firing) × (U : List SpeciesId) × Fires (flat rows cols) circuit_rules f S U

-- a rule that matches fires
fires_so : (rows cols place way : ℕ) (i j : SiteId) (s t : SpeciesId) (S : List SpeciesId) (at : ℕ) (r : Rule) → way < 2 → sites_of (flat rows cols) place ≡ Some (record { first = i; second = Some j }) → slice_get S i.0 ≡ Some s → slice_get S j.0 ≡ Some t
    → slice_get circuit_rules at ≡ Some r → matches r way s (Some t) ≡ true → CanFire rows cols S
fires_so rows cols place way i j s t S at r small pair is js rule so =
    let channel : ℕ = at * 2 + way in
    let half : rule_of_channel channel ≡ at = div-mul-add at 2 way small in
    let rest : way_of_channel channel ≡ way = mod-mul-add at 2 way small in (
      record { place = place; channel = channel },
      put (record { first = i; second = Some j }) (products (way_of_channel channel) r) S,
      record {
        sites = record { first = i; second = Some j };
        at = pair;
        first = s;
        first_is = is;
        second = Some t;
        second_is = js;
        rule = r;
        rule_is = ap (slice_get circuit_rules) half ∙ rule;
        matching = ap (λ n. matches r n s (Some t)) rest ∙ so;
        makes = refl;
      },
    )

first_fires : (rows cols place : ℕ) (i j : SiteId) (S : List SpeciesId) (z : Cell) → sites_of (flat rows cols) place ≡ Some (record { first = i; second = Some j }) → i.0 < length S → j.0 < length S
    → filled (cell_of (get_or S i.0 no_species)) (cell_of (get_or S j.0 no_species)) ≡ Some z → CanFire rows cols S
first_fires rows cols place i j S z pair hi hj fills =
    let s = get_or S i.0 no_species in
    let t = get_or S j.0 no_species in
    let r = has_rule s t z fills in
    fires_so rows cols place 0 i j s t S r.at (Two unit_rate s t s r.d) (omega arith) pair (slice_get-get_or S i.0 no_species hi) (slice_get-get_or S j.0 no_species hj) r.stands
    (and_from (nat_lt 0 1) (s.0 == s.0 && t.0 == t.0) refl (and_from (s.0 == s.0) (t.0 == t.0) (eq-eqb s.0 s.0 refl) (eq-eqb t.0 t.0 refl)))

same_id : (x y : SpeciesId) → x.0 ≡ y.0 → x ≡ y
same_id x y e = ap (λ (n : ℕ). let v : SpeciesId = record { 0 = n } in v) e

-- a rule changes what it fills
changes : (a b d : SpeciesId) (t : Bool) → (a.0 == b.0 && a.0 == d.0) ≡ t → filled (cell_of a) (cell_of b) ≡ Some (cell_of d) → not t ≡ true
changes a b d false test f = refl
changes a b d true test f =
    let parts = and_parts (a.0 == b.0) (a.0 == d.0) test in
    let same : d ≡ b = same_id d b (sym (eqb-true a.0 d.0 parts.1) ∙ eqb-true a.0 b.0 parts.0) in
    let falls : work_of (cell_of d) + 1 ≡ work_of (cell_of b) = filled_falls (cell_of a) (cell_of b) (cell_of d) f in
    let e : work_of (cell_of d) ≡ work_of (cell_of b) = ap (λ n. work_of (cell_of n)) same in
    absurd (omega (arith, falls, e))

second_fires : (rows cols place : ℕ) (i j : SiteId) (S : List SpeciesId) (z : Cell) → sites_of (flat rows cols) place ≡ Some (record { first = i; second = Some j }) → i.0 < length S → j.0 < length S
    → filled (cell_of (get_or S j.0 no_species)) (cell_of (get_or S i.0 no_species)) ≡ Some z → CanFire rows cols S
second_fires rows cols place i j S z pair hi hj fills =
    let s = get_or S i.0 no_species in
    let t = get_or S j.0 no_species in
    let r = has_rule t s z fills in
    fires_so rows cols place 1 i j s t S r.at (Two unit_rate t s t r.d) (omega arith) pair (slice_get-get_or S i.0 no_species hi) (slice_get-get_or S j.0 no_species hj) r.stands
    (and_from (nat_lt 0 1) (s.0 == s.0 && t.0 == t.0 && not (t.0 == s.0 && t.0 == r.d.0)) refl
    (and_from (s.0 == s.0 && t.0 == t.0) (not (t.0 == s.0 && t.0 == r.d.0)) (and_from (s.0 == s.0) (t.0 == t.0) (eq-eqb s.0 s.0 refl) (eq-eqb t.0 t.0 refl)) (changes t s r.d (t.0 == s.0 && t.0 == r.d.0) refl r.fills)))

-- the place of a cell and its neighbour to the east, or to the south
east_site : (t : Table) (s u : Spot) → IsSpot t s → IsSpot t u → s.row ≡ u.row → s.col + 1 ≡ u.col → sites_of (flat t.rows t.cols) (number_of_place (site t s) East) ≡ Some (pair_of (site t s) (site t u))
east_site t s u hs hu row col =
    let c = site_col t s hs in
    let m : s.row * t.cols ≡ u.row * t.cols = ap (λ n. n * t.cols) row in
    let next : site t s + 1 ≡ site t u = omega (arith, m, col) in
    east_place t.rows t.cols (site t s) (site_inside t s hs) (omega (arith, c, col, hu.1)) ∙ ap (λ n. Some (pair_of (site t s) n)) next

south_site : (t : Table) (s u : Spot) → IsSpot t s → IsSpot t u → s.col ≡ u.col → s.row + 1 ≡ u.row → sites_of (flat t.rows t.cols) (number_of_place (site t s) South) ≡ Some (pair_of (site t s) (site t u))
south_site t s u hs hu col row =
    let r = site_row t s hs in
    let m : (s.row + 1) * t.cols ≡ u.row * t.cols = ap (λ n. n * t.cols) row in
    let next : site t s + t.cols ≡ site t u = omega (arith, m, col) in
    south_place t.rows t.cols (site t s) (site_inside t s hs) (omega (arith, r, row, hu.0)) ∙ ap (λ n. Some (pair_of (site t s) n)) next

-- a place with the feeder first, or second
first_at : (t : Table) (S : List SpeciesId) (place : ℕ) (c : CanFill t S) → length S ≡ t.rows * t.cols → sites_of (flat t.rows t.cols) place ≡ Some (pair_of (site t c.feeder) (site t c.target)) → CanFire t.rows t.cols S
first_at t S place c size pair =
    first_fires t.rows t.cols place (record { 0 = site t c.feeder }) (record { 0 = site t c.target }) S c.made pair (omega (arith, site_inside t c.feeder c.feeder_in, size)) (omega (arith, site_inside t c.target c.target_in, size)) c.fills

second_at : (t : Table) (S : List SpeciesId) (place : ℕ) (c : CanFill t S) → length S ≡ t.rows * t.cols → sites_of (flat t.rows t.cols) place ≡ Some (pair_of (site t c.target) (site t c.feeder)) → CanFire t.rows t.cols S
second_at t S place c size pair =
    second_fires t.rows t.cols place (record { 0 = site t c.target }) (record { 0 = site t c.feeder }) S c.made pair (omega (arith, site_inside t c.target c.target_in, size)) (omega (arith, site_inside t c.feeder c.feeder_in, size)) c.fills

pub can_fire : (t : Table) (S : List SpeciesId) → length S ≡ t.rows * t.cols → CanFill t S → CanFire t.rows t.cols S
can_fire t S size c = elim c.beside [
  | inl b ↦ elim b.1 [
    | inl col ↦ first_at t S (number_of_place (site t c.feeder) East) c size (east_site t c.feeder c.target c.feeder_in c.target_in b.0 col)
    | inr col ↦ second_at t S (number_of_place (site t c.target) East) c size (east_site t c.target c.feeder c.target_in c.feeder_in (sym b.0) col)
  ]
  | inr b ↦ elim b.1 [
    | inl row ↦ first_at t S (number_of_place (site t c.feeder) South) c size (south_site t c.feeder c.target c.feeder_in c.target_in b.0 row)
    | inr row ↦ second_at t S (number_of_place (site t c.target) South) c size (south_site t c.target c.feeder c.target_in c.feeder_in (sym b.0) row)
  ]
]
