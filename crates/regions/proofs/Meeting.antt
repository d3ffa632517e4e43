-- Neighbouring regions meet: each is told of events of the other.
use Rattle.std.proofs.Common.{◌≡◌, ◌≢◌, ℕ, ◌+◌, ◌-◌, ◌*◌, ◌/◌, ◌<◌, ◌≤◌, inl, inr, Bool, true, false, Some, None, refl, sym, ap, ◌∙◌, subst, arith, if◌then◌else◌, cond}
use Rattle.std.specs.Prelude.{nat_lt, nat_le, IsSome}
use Rattle.std.specs.Option.{option_map}
use Rattle.std.proofs.lemmas.Nat.{div-mul-add, mul-le}
use Rattle.std.proofs.lemmas.Bool.{cases_Bool, and_parts, leb-true, ltb-true, lt-ltb, ltb-false}
use Rattle.std.proofs.lemmas.Bool.Decides.{nat_tests}
use Rattle.std.proofs.lemmas.Option.{none-some, same_Some}
use Rattle.surf_kinds.specs.declared.place.Step.TheVariants.{Alone}
use Rattle.surf_kinds.specs.Steps.{number_of_place}
use Rattle.surf_kinds.proofs.Steps.{site_of_number}
use Rattle.lattice.specs.Places.{wraps, back}
use Rattle.lattice.specs.Rows.{row_of_place, Upper}
use Rattle.lattice.proofs.LawLemmas.{site_alone, has_upper}
use Rattle.regions.specs.Bands.{Bands, IsCut, first_row, has_row, region_of, owner_of}
use Rattle.regions.specs.Neighbours.{region_before, region_after, IsNeighbour, Meeting}
use Rattle.regions.proofs.Owners.{owner_is, above}
use Rattle.regions.proofs.Rows.{region_has, one_has, has_below, first_is_own}
use Rattle.regions.proofs.Near.{next_row, first_region, last_region}
use Rattle.regions.proofs.Sights.{row_seen}
use Rattle.regions.proofs.Tellings.{Decides-is_told, row_told}

-- a row of one region, and the row before it, of another
record Border (b : Bands) (upper lower : ℕ) : Type 0 where
  row : ℕ
  up : ℕ
  row_below : row < b.lattice.rows
  back_is : back b.lattice.wrap b.lattice.rows row ≡ Some up
  lower_is : region_of b row ≡ lower
  upper_is : region_of b up ≡ upper

-- the first site of a row
first_site : (b : Bands) (row : ℕ) → IsCut b → row < b.lattice.rows → (row * b.lattice.cols < b.lattice.rows * b.lattice.cols) × (row * b.lattice.cols / b.lattice.cols ≡ row)
first_site b row cut below =
    let some = cut.size.cols_at_least in
    let whole : (row + 1) * b.lattice.cols ≤ b.lattice.rows * b.lattice.cols = mul-le (row + 1) b.lattice.cols b.lattice.rows b.lattice.cols (omega (arith, below)) (omega arith) in (
      omega (arith, whole, some),
      ap (λ k. k / b.lattice.cols) (omega arith) ∙ div-mul-add row b.lattice.cols 0 (omega (arith, some)),
    )

-- the lower region's sites alone are told to the upper one
tells_up : (b : Bands) (upper lower : ℕ) → IsCut b → upper ≢ lower → Border b upper lower → Meeting b lower upper
tells_up b upper lower cut differ m =
    let site = first_site b m.row cut m.row_below in
    let s = m.row * b.lattice.cols in
    let place = number_of_place s Alone in
    let is = site_alone b.lattice s site.0 in
    let row_is : row_of_place b.lattice place ≡ m.row = ap (λ k. k / b.lattice.cols) (site_of_number s Alone) ∙ site.1 in
    let own : region_of b (row_of_place b.lattice place) ≡ lower = ap (region_of b) row_is ∙ m.lower_is in
    record {
      place = place;
      is_place = subst IsSome (sym is) refl;
      own = owner_is b place _ is ∙ own;
      told = (Decides-is_told b upper place).1 (row_told b upper place _ is (record {
        other = λ e. differ (sym e ∙ own);
        near = inl (ap (above b) row_is ∙ (ap (option_map (region_of b)) m.back_is ∙ ap (λ k. Some k) m.upper_is));
      }));
    }

-- the upper region's pairs with the row below are told to the lower one
tells_down : (b : Bands) (upper lower : ℕ) → IsCut b → upper ≢ lower → Border b upper lower → Meeting b upper lower
tells_down b upper lower cut differ m =
    let site = first_site b m.row cut m.row_below in
    let s = m.row * b.lattice.cols in
    let at : Upper b.lattice s m.up = has_upper b.lattice s m.up site.0 (ap (back b.lattice.wrap b.lattice.rows) site.1 ∙ m.back_is) in
    let own : owner_of b at.place ≡ upper = owner_is b at.place at.has.sites at.has.is ∙ (ap (region_of b) at.row_is ∙ m.upper_is) in
    record {
      place = at.place;
      is_place = subst IsSome (sym at.has.is) refl;
      own = own;
      told = (Decides-is_told b lower at.place).1 (record {
        other = λ e. differ (sym own ∙ e);
        site = s;
        has = at.has;
        seen = row_seen b lower s site.0 (inl (ap (region_of b) site.1 ∙ m.lower_is));
      });
    }

-- the first row of a region is its own
own_first : (b : Bands) (region : ℕ) → IsCut b → region < b.count → (first_row b region < b.lattice.rows) × (region_of b (first_row b region) ≡ region)
own_first b region cut inside =
    let own = first_is_own b region cut in
    let below = has_below b region (first_row b region) cut.at_least inside own in
    (below, one_has b (region_of b (first_row b region)) region (first_row b region) cut.at_least (region_has b (first_row b region) cut below).has own)

-- the row before the first row of a region
border_up : (b : Bands) (region upper : ℕ) → IsCut b → region < b.count → 0 < region → region_before b region ≡ Some upper → Border b upper region
border_up b region upper cut inside some is =
    let row = first_row b region in
    let own = own_first b region cut inside in
    let past : row ≢ 0 = λ e. absurd (omega (arith, sym own.1 ∙ first_region b row cut own.0 e, some)) in
    let follows : row - 1 + 1 ≡ row = omega (arith, past) in
    let step = next_row b (row - 1) cut (omega (arith, follows, own.0)) in
    let low : region_of b (row - 1) ≤ region_of b row = subst (λ r. region_of b (row - 1) ≤ region_of b r) follows step.0 in
    let high : region_of b row ≤ region_of b (row - 1) + 1 = subst (λ r. region_of b r ≤ region_of b (row - 1) + 1) follows step.1 in
    let other : region_of b (row - 1) ≢ region = λ e.
    let has : has_row b region (row - 1) ≡ true = subst (λ k. has_row b k (row - 1) ≡ true) e (region_has b (row - 1) cut (omega (arith, follows, own.0))).has in
    absurd (omega (arith, leb-true row (row - 1) (and_parts (nat_le row (row - 1)) _ has).0, follows)) in
    record {
      row = row;
      up = row - 1;
      row_below = own.0;
      back_is = ap (λ t. cond t (Some (row - 1)) (if wraps b.lattice.wrap b.lattice.rows then Some (b.lattice.rows - 1) else None)) (lt-ltb 0 row (omega (arith, past)));
      lower_is = own.1;
      upper_is = omega (arith, low, high, own.1, other, before_is b region upper some is);
    }
  where
    before_is : (c : Bands) (i u : ℕ) → 0 < i → region_before c i ≡ Some u → i - 1 ≡ u
    before_is c i u h e = grind (arith, nat_tests)

wrapped : (t : Bool) (n m : ℕ) → (if t then Some n else None) ≡ Some m → (t ≡ true) × (n ≡ m)
wrapped true n m e = (refl, same_Some n m e)
wrapped false n m e = absurd (none-some m e)

-- the last row is before the first one where rows wrap
border_wrap : (b : Bands) (region upper : ℕ) → IsCut b → region < b.count → region ≡ 0 → region_before b region ≡ Some upper → Border b upper region
border_wrap b region upper cut inside first is =
    let w = wrapped (wraps b.lattice.wrap b.lattice.rows) (b.count - 1) upper (sym (ap (region_before b) first) ∙ is) in
    let some = cut.size.rows_at_least in
    record {
      row = 0;
      up = b.lattice.rows - 1;
      row_below = omega (arith, some);
      back_is = ap (λ t. if t then Some (b.lattice.rows - 1) else None) w.0;
      lower_is = first_region b 0 cut (omega (arith, some)) refl ∙ sym first;
      upper_is = omega (arith, last_region b (b.lattice.rows - 1) cut (omega (arith, some)), w.1);
    }

border : (b : Bands) (region upper : ℕ) → IsCut b → region < b.count → region_before b region ≡ Some upper → Border b upper region
border b region upper cut inside is =
    elim (cases_Bool (nat_lt 0 region)) [
      | inl some ↦ border_up b region upper cut inside (ltb-true 0 region some) is
      | inr none ↦ border_wrap b region upper cut inside (omega (arith, ltb-false 0 region none)) is
    ]

-- the region after one has that one before it
turned : (b : Bands) (region other : ℕ) → region < b.count → region_after b region ≡ Some other → (other < b.count) × (region_before b other ≡ Some region)
turned b region other inside is = (grind (arith, nat_tests), grind (arith, nat_tests))

pub they_meet : (b : Bands) (region other : ℕ) → IsCut b → region < b.count → IsNeighbour b region other → Meeting b region other
they_meet b region other cut inside n =
    elim n.1 [
      | inl before ↦ tells_up b other region cut (λ e. n.0 (sym e)) (border b region other cut inside before)
      | inr after ↦
          let t = turned b region other inside after in
          tells_down b region other cut n.0 (border b other region cut t.0 t.1)
    ]
