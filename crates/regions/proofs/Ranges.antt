-- The places of a region are a range of numbers.
use Rattle.std.proofs.Common.{◌≡◌, ℕ, ◌+◌, ◌*◌, ◌<◌, ◌≤◌, ◌↔◌, true, sym, ◌∙◌, subst, arith}
use Rattle.std.specs.Prelude.{nat_le}
use Rattle.std.proofs.Math.Nat.{div-lt_iff_lt-mul, le-div_iff_mul-le, div-le_of_le-mul, div-mul-le_self, mul-le-mul_right}
use Rattle.std.proofs.lemmas.Bool.{and_parts, and_from, leb-true, ltb-true, le-leb, lt-ltb}
use Rattle.surf_kinds.specs.Steps.{site_of_place}
use Rattle.lattice.specs.Places.{IsPlace}
use Rattle.lattice.specs.Ranges.{is_in_range}
use Rattle.lattice.specs.Rows.{row_of_place}
use Rattle.lattice.proofs.LawLemmas.{row_below}
use Rattle.regions.specs.Bands.{Bands, IsCut, first_row, has_row, region_of, owner_of}
use Rattle.regions.specs.Ranges.{first_place, range_of, IsRangeOf}
use Rattle.regions.proofs.Owners.{sites_at, owner_is}
use Rattle.regions.proofs.Rows.{one_has, region_has}

-- the first row of the region after the last one is past all rows
pub rows_upto : (b : Bands) (region : ℕ) → 1 ≤ b.count → region ≤ b.count → first_row b region ≤ b.lattice.rows
rows_upto b region some h = div-le_of_le-mul b.count {m = region * b.lattice.rows} {n = b.lattice.rows} (mul-le-mul_right b.lattice.rows h)

rows_rise : (b : Bands) (region : ℕ) → 1 ≤ b.count → first_row b region ≤ first_row b (region + 1)
rows_rise b region some =
    (le-div_iff_mul-le {k = b.count} {x = first_row b region} {y = (region + 1) * b.lattice.rows} (omega (arith, some))).1
    (omega (arith, div-mul-le_self (region * b.lattice.rows) b.count, mul-le-mul_right {m = region} {n = region + 1} b.lattice.rows (omega arith)))

has_range : (b : Bands) (region place : ℕ) → 1 ≤ b.lattice.cols → has_row b region (row_of_place b.lattice place) ≡ true → is_in_range (range_of b region) place ≡ true
has_range b region place some h =
    let parts = and_parts (nat_le (first_row b region) (row_of_place b.lattice place)) _ h in
    let low : first_row b region * b.lattice.cols ≤ site_of_place place = (le-div_iff_mul-le {k = b.lattice.cols} {x = first_row b region} {y = site_of_place place} (omega (arith, some))).0 (leb-true _ _ parts.0) in
    let high : site_of_place place < first_row b (region + 1) * b.lattice.cols = (div-lt_iff_lt-mul {k = b.lattice.cols} {x = site_of_place place} {y = first_row b (region + 1)} (omega (arith, some))).0 (ltb-true _ _ parts.1) in
    and_from (nat_le (first_place b region) place) _ (le-leb _ _ (omega (arith, low))) (lt-ltb _ _ (omega (arith, high)))

range_has : (b : Bands) (region place : ℕ) → 1 ≤ b.lattice.cols → is_in_range (range_of b region) place ≡ true → has_row b region (row_of_place b.lattice place) ≡ true
range_has b region place some h =
    let parts = and_parts (nat_le (first_place b region) place) _ h in
    let from = leb-true _ _ parts.0 in
    let upto = ltb-true _ _ parts.1 in
    let low : first_row b region ≤ row_of_place b.lattice place = (le-div_iff_mul-le {k = b.lattice.cols} {x = first_row b region} {y = site_of_place place} (omega (arith, some))).1 (omega (arith, from)) in
    let high : row_of_place b.lattice place < first_row b (region + 1) = (div-lt_iff_lt-mul {k = b.lattice.cols} {x = site_of_place place} {y = first_row b (region + 1)} (omega (arith, some))).1 (omega (arith, upto)) in
    and_from (nat_le (first_row b region) (row_of_place b.lattice place)) _ (le-leb _ _ low) (lt-ltb _ _ high)

own_is_range : (b : Bands) (region place : ℕ) → IsCut b → IsPlace b.lattice place → (owner_of b place ≡ region) ↔ (is_in_range (range_of b region) place ≡ true)
own_is_range b region place cut is =
    let s = sites_at b.lattice place is in
    let some = cut.size.cols_at_least in
    let row = row_of_place b.lattice place in
    let has = (region_has b row cut (row_below b.lattice place s.0 s.1)).has in
    let own : owner_of b place ≡ region_of b row = owner_is b place s.0 s.1 in (
      λ e. has_range b region place some (subst (λ k. has_row b k row ≡ true) (sym own ∙ e) has),
      λ r. own ∙ one_has b (region_of b row) region row cut.at_least has (range_has b region place some r),
    )

pub is_range : (b : Bands) (region : ℕ) → IsCut b → region < b.count → IsRangeOf b region (range_of b region)
is_range b region cut inside = record {
  exactly = λ place is. own_is_range b region place cut is;
  order = omega (arith, mul-le-mul_right b.lattice.cols (rows_rise b region cut.at_least));
  within = omega (arith, mul-le-mul_right b.lattice.cols (rows_upto b (region + 1) cut.at_least (omega (arith, inside))));
}
