-- The regions that are told of a region's events are the one before it and the one after it.
use Rattle.std.proofs.Common.{◌≡◌, ◌≢◌, ℕ, ◌+◌, ◌-◌, ◌*◌, ◌<◌, ◌≤◌, ◌⊎◌, inl, inr, Bool, true, false, Some, None, refl, sym, ap, ◌∙◌, subst, arith, if◌then◌else◌, cond}
use Rattle.std.specs.Prelude.{nat_lt}
use Rattle.std.specs.Option.{option_map}
use Rattle.std.proofs.Math.Nat.{lt_of_mul-lt-mul_right, mul_comm}
use Rattle.std.proofs.lemmas.Bool.{cases_Bool, ltb-true, lt-ltb, ltb-false}
use Rattle.std.proofs.lemmas.Option.{none-some, same_Some}
use Rattle.lattice.specs.Places.{wraps, IsPlace}
use Rattle.lattice.specs.Rows.{row_of_place}
use Rattle.lattice.proofs.LawLemmas.{row_below}
use Rattle.regions.specs.Bands.{Bands, IsCut, region_of, owner_of}
use Rattle.regions.specs.Seen.{is_told}
use Rattle.regions.specs.Neighbours.{region_before, region_after}
use Rattle.regions.proofs.Owners.{owner_is, sites_at, above, below}
use Rattle.regions.proofs.Rows.{Within, within, region_has}
use Rattle.regions.proofs.Tellings.{Decides-is_told, told_row}

row_within : (b : Bands) (row : ℕ) → IsCut b → row < b.lattice.rows → Within b (region_of b row) row
row_within b row cut inside = within b (region_of b row) row cut.at_least (region_has b row cut inside).has

-- the region of the next row is the same or the next
pub next_row : (b : Bands) (row : ℕ) → IsCut b → row + 1 < b.lattice.rows → (region_of b row ≤ region_of b (row + 1)) × (region_of b (row + 1) ≤ region_of b row + 1)
next_row b row cut inside =
    let w = row_within b row cut (omega (arith, inside)) in
    let v = row_within b (row + 1) cut inside in
    let up : region_of b row < region_of b (row + 1) + 1 = lt_of_mul-lt-mul_right b.lattice.rows {m = region_of b row} {n = region_of b (row + 1) + 1} (omega (arith, w.from, v.upto, cut.at_least)) in
    let down : region_of b (row + 1) < region_of b row + 2 = lt_of_mul-lt-mul_right b.lattice.rows {m = region_of b (row + 1)} {n = region_of b row + 2} (omega (arith, v.from, w.upto, cut.has_rows)) in
    (omega (arith, up), omega (arith, down))

pub first_region : (b : Bands) (row : ℕ) → IsCut b → row < b.lattice.rows → row ≡ 0 → region_of b row ≡ 0
first_region b row cut inside is =
    let w = row_within b row cut inside in
    let small : (row + 1) * b.count ≤ 1 * b.lattice.rows = subst (λ r. (r + 1) * b.count ≤ 1 * b.lattice.rows) (sym is) (omega (arith, cut.has_rows)) in
    let one : region_of b row < 1 = lt_of_mul-lt-mul_right b.lattice.rows {m = region_of b row} {n = 1} (omega (arith, w.from, small)) in
    omega (arith, one)

pub last_region : (b : Bands) (row : ℕ) → IsCut b → row + 1 ≡ b.lattice.rows → region_of b row + 1 ≡ b.count
last_region b row cut is =
    let inside : row < b.lattice.rows = omega (arith, is) in
    let w = row_within b row cut inside in
    let upto : b.lattice.rows * b.count ≤ (region_of b row + 1) * b.lattice.rows = subst (λ r. r * b.count ≤ (region_of b row + 1) * b.lattice.rows) is w.upto in
    let most : b.count < region_of b row + 2 = lt_of_mul-lt-mul_right b.lattice.rows {m = b.count} {n = region_of b row + 2} (omega (arith, upto, mul_comm b.lattice.rows b.count, inside)) in
    omega (arith, most, (region_has b row cut inside).below)

above_case : (b : Bands) (row l : ℕ) → IsCut b → row < b.lattice.rows → above b row ≡ Some l → region_of b row ≢ l → region_before b (region_of b row) ≡ Some l
above_case b row l cut inside is other =
    elim (cases_Bool (nat_lt 0 row)) [
      | inl up ↦
          let some : 0 < row = ltb-true 0 row up in
          let l_is : region_of b (row - 1) ≡ l = same_Some _ l (sym (ap (λ t. option_map (region_of b) (cond t (Some (row - 1)) (if wraps b.lattice.wrap b.lattice.rows then Some (b.lattice.rows - 1) else None))) up) ∙ is) in
          let step = next_row b (row - 1) cut (omega (arith, inside, some)) in
          let same : row - 1 + 1 ≡ row = omega (arith, some) in
          let low : region_of b (row - 1) ≤ region_of b row = subst (λ r. region_of b (row - 1) ≤ region_of b r) same step.0 in
          let high : region_of b row ≤ region_of b (row - 1) + 1 = subst (λ r. region_of b r ≤ region_of b (row - 1) + 1) same step.1 in
          let less : region_of b row ≡ l + 1 = omega (arith, low, high, l_is, other) in
          ap (λ t. cond t (Some (region_of b row - 1)) (if wraps b.lattice.wrap b.lattice.rows then Some (b.count - 1) else None)) (lt-ltb 0 (region_of b row) (omega (arith, less)))
          ∙ ap (λ k. Some k) (omega (arith, less))
      | inr down ↦
          let zero_row : row ≡ 0 = omega (arith, ltb-false 0 row down) in
          let at : option_map (region_of b) (if wraps b.lattice.wrap b.lattice.rows then Some (b.lattice.rows - 1) else None) ≡ Some l = sym (ap (λ t. option_map (region_of b) (cond t (Some (row - 1)) (if wraps b.lattice.wrap b.lattice.rows then Some (b.lattice.rows - 1) else None))) down) ∙ is in
          let none : nat_lt 0 (region_of b row) ≡ false = ap (λ k. nat_lt 0 k) (first_region b row cut inside zero_row) in
          ap (λ t. cond t (Some (region_of b row - 1)) (if wraps b.lattice.wrap b.lattice.rows then Some (b.count - 1) else None)) none
          ∙ wrapped (wraps b.lattice.wrap b.lattice.rows) at
    ]
  where
    wrapped : (t : Bool) → option_map (region_of b) (if t then Some (b.lattice.rows - 1) else None) ≡ Some l → (if t then Some (b.count - 1) else None) ≡ Some l
    wrapped false h = absurd (none-some l h)
    wrapped true h = ap (λ k. Some k) (omega (arith, same_Some _ l h, last_region b (b.lattice.rows - 1) cut (omega (arith, inside))))

below_case : (b : Bands) (row l : ℕ) → IsCut b → row < b.lattice.rows → below b row ≡ Some l → region_of b row ≢ l → region_after b (region_of b row) ≡ Some l
below_case b row l cut inside is other =
    elim (cases_Bool (nat_lt (row + 1) b.lattice.rows)) [
      | inl up ↦
          let some : row + 1 < b.lattice.rows = ltb-true (row + 1) b.lattice.rows up in
          let l_is : region_of b (row + 1) ≡ l = same_Some _ l (sym (ap (λ t. option_map (region_of b) (cond t (Some (row + 1)) (if wraps b.lattice.wrap b.lattice.rows then Some 0 else None))) up) ∙ is) in
          let step = next_row b row cut some in
          let more : region_of b row + 1 ≡ l = omega (arith, step.0, step.1, l_is, other) in
          let in_cut : l < b.count = subst (λ k. k < b.count) l_is (region_has b (row + 1) cut some).below in
          ap (λ t. cond t (Some (region_of b row + 1)) (if wraps b.lattice.wrap b.lattice.rows then Some 0 else None)) (lt-ltb (region_of b row + 1) b.count (omega (arith, more, in_cut)))
          ∙ ap (λ k. Some k) more
      | inr down ↦
          let last_row : row + 1 ≡ b.lattice.rows = omega (arith, ltb-false (row + 1) b.lattice.rows down, inside) in
          let at : option_map (region_of b) (if wraps b.lattice.wrap b.lattice.rows then Some 0 else None) ≡ Some l = sym (ap (λ t. option_map (region_of b) (cond t (Some (row + 1)) (if wraps b.lattice.wrap b.lattice.rows then Some 0 else None))) down) ∙ is in
          let none : nat_lt (region_of b row + 1) b.count ≡ false = not_less (region_of b row + 1) b.count (last_region b row cut last_row) in
          ap (λ t. cond t (Some (region_of b row + 1)) (if wraps b.lattice.wrap b.lattice.rows then Some 0 else None)) none
          ∙ wrapped (wraps b.lattice.wrap b.lattice.rows) at
    ]
  where
    not_less : (x y : ℕ) → x ≡ y → nat_lt x y ≡ false
    not_less x y e = elim (cases_Bool (nat_lt x y)) [ inl q ↦ absurd (omega (arith, ltb-true x y q, e)) | inr q ↦ q ]

    wrapped : (t : Bool) → option_map (region_of b) (if t then Some 0 else None) ≡ Some l → (if t then Some 0 else None) ≡ Some l
    wrapped false h = absurd (none-some l h)
    wrapped true h = ap (λ k. Some k) (sym (first_region b 0 cut (omega (arith, inside)) refl) ∙ same_Some _ l h)

-- a region that is told of a place's events is the one before the place's owner, or the one after it
pub told_is_near : (b : Bands) (l p : ℕ) → IsCut b → IsPlace b.lattice p → is_told b l p ≡ true → (region_before b (owner_of b p) ≡ Some l) ⊎ (region_after b (owner_of b p) ≡ Some l)
told_is_near b l p cut place told =
    let s = sites_at b.lattice p place in
    let row = row_of_place b.lattice p in
    let inside = row_below b.lattice p s.0 s.1 in
    let is = (Decides-is_told b l p).0 told in
    let own : owner_of b p ≡ region_of b row = owner_is b p s.0 s.1 in
    let other : region_of b row ≢ l = λ e. is.other (own ∙ e) in
    elim (told_row b l p is).near [
      | inl up ↦ inl (ap (region_before b) own ∙ above_case b row l cut inside up other)
      | inr down ↦ inr (ap (region_after b) own ∙ below_case b row l cut inside down.1 other)
    ]
