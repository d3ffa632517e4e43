-- The rows of a region.
use Rattle.std.proofs.Common.{◌≡◌, ℕ, zero, suc, ◌+◌, ◌-◌, ◌*◌, ◌/◌, ◌<◌, ◌≤◌, ◌^◌, true, inl, inr, sym, ap, ◌∙◌, subst, arith, if◌then◌else◌}
use Rattle.std.specs.Prelude.{nat_lt, nat_le}
use Rattle.std.proofs.Math.Nat.{div-lt_iff_lt-mul, le-div_iff_mul-le, lt_of_mul-lt-mul_right, lt-div-mul-add, div-mul-le_self, mul_comm}
use Rattle.std.proofs.lemmas.Nat.{mul-le}
use Rattle.std.proofs.lemmas.Bool.{both_ways, cases_Bool, and_parts, and_from, leb-true, ltb-true, le-leb, lt-ltb}
use Rattle.regions.specs.Bands.{Bands, IsCut, first_row, has_row, one_with, region_of}

-- a region has a row, without a division
pub record Within (b : Bands) (region row : ℕ) : Type 0 where
  pub from : region * b.lattice.rows < (row + 1) * b.count
  pub upto : (row + 1) * b.count ≤ (region + 1) * b.lattice.rows

pub within : (b : Bands) (region row : ℕ) → 1 ≤ b.count → has_row b region row ≡ true → Within b region row
within b region row one h =
    let parts = and_parts (nat_le (first_row b region) row) (nat_lt row (first_row b (region + 1))) h in
    let some : zero < b.count = omega arith in
    record {
      from = (div-lt_iff_lt-mul {k = b.count} {x = region * b.lattice.rows} {y = row + 1} some).0 (omega (arith, leb-true _ _ parts.0));
      upto = (le-div_iff_mul-le {k = b.count} {x = row + 1} {y = (region + 1) * b.lattice.rows} some).0 (omega (arith, ltb-true _ _ parts.1));
    }

has_from : (b : Bands) (region row : ℕ) → 1 ≤ b.count → Within b region row → has_row b region row ≡ true
has_from b region row one w =
    let some : zero < b.count = omega arith in
    let low : region * b.lattice.rows / b.count < row + 1 = (div-lt_iff_lt-mul {k = b.count} {x = region * b.lattice.rows} {y = row + 1} some).1 w.from in
    let high : row + 1 ≤ (region + 1) * b.lattice.rows / b.count = (le-div_iff_mul-le {k = b.count} {x = row + 1} {y = (region + 1) * b.lattice.rows} some).1 w.upto in
    and_from (nat_le (first_row b region) row) (nat_lt row (first_row b (region + 1))) (le-leb _ _ (omega (arith, low))) (lt-ltb _ _ (omega (arith, high)))

not_after : (b : Bands) (i j row : ℕ) → Within b i row → Within b j row → i ≤ j
not_after b i j row w v =
    let less : i < j + 1 = lt_of_mul-lt-mul_right b.lattice.rows {m = i} {n = j + 1} (omega (arith, w.from, v.upto)) in
    omega arith

-- no two regions have a row
pub one_has : (b : Bands) (i j row : ℕ) → 1 ≤ b.count → has_row b i row ≡ true → has_row b j row ≡ true → i ≡ j
one_has b i j row one h k =
    let w = within b i row one h in
    let v = within b j row one k in
    omega (arith, not_after b i j row w v, not_after b j i row v w)

-- the rows of a region are rows of the lattice
pub has_below : (b : Bands) (region row : ℕ) → 1 ≤ b.count → region < b.count → has_row b region row ≡ true → row < b.lattice.rows
has_below b region row one below h =
    let w = within b region row one h in
    let least : (region + 1) * b.lattice.rows ≤ b.count * b.lattice.rows = mul-le (region + 1) b.lattice.rows b.count b.lattice.rows (omega arith) (omega arith) in
    lt_of_mul-lt-mul_right b.count {m = row} {n = b.lattice.rows} (omega (arith, w.upto, least, mul_comm b.count b.lattice.rows))

-- a row of the lattice belongs to a region
region_below : (b : Bands) (region row : ℕ) → 1 ≤ b.count → row < b.lattice.rows → Within b region row → region < b.count
region_below b region row one below w =
    let least : (row + 1) * b.count ≤ b.lattice.rows * b.count = mul-le (row + 1) b.count b.lattice.rows b.count (omega arith) (omega arith) in
    lt_of_mul-lt-mul_right b.lattice.rows {m = region} {n = b.count} (omega (arith, w.from, least, mul_comm b.count b.lattice.rows))

one_with_is : (b : Bands) (i row n : ℕ) → ((j : ℕ) → has_row b j row ≡ true → j ≡ i) → i < n → has_row b i row ≡ true → one_with b row n ≡ i
one_with_is b i row zero only below h = absurd (omega arith)
one_with_is b i row (suc m) only below h =
    elim (cases_Bool (has_row b m row)) [
      | inl holds ↦ ap (λ t. if t then m else one_with b row m) holds ∙ only m holds
      | inr fails ↦
          let differ : i ≡ m → ⊥ = λ e. both_ways (has_row b m row) fails (subst (λ k. has_row b k row ≡ true) e h) in
          ap (λ t. if t then m else one_with b row m) fails ∙ one_with_is b i row m only (omega (arith, differ)) h
    ]

-- a region that has a row is the region of that row
pub region_is : (b : Bands) (region row : ℕ) → IsCut b → row < b.lattice.rows → Within b region row → region_of b row ≡ region
unfolding region_of
region_is b region row cut below w =
    let has : has_row b region row ≡ true = has_from b region row cut.at_least w in
    one_with_is b region row b.count (λ j h. one_has b j region row cut.at_least h has) (region_below b region row cut.at_least below w) has

-- the last region whose first row is at most this one has it
by_quotient : (b : Bands) (row : ℕ) → 1 ≤ b.count → 1 ≤ b.lattice.rows → Within b (((row + 1) * b.count - 1) / b.lattice.rows) row
by_quotient b row one some =
    let all = (row + 1) * b.count - 1 in
    let least : 1 * 1 ≤ (row + 1) * b.count = mul-le 1 1 (row + 1) b.count (omega arith) one in
    let low : all / b.lattice.rows * b.lattice.rows ≤ all = div-mul-le_self all b.lattice.rows in
    let high : all < all / b.lattice.rows * b.lattice.rows + b.lattice.rows = lt-div-mul-add {a = all} {b = b.lattice.rows} (omega arith) in
    record { from = omega (arith, least, low); upto = omega (arith, least, high) }

pub region_by_quotient : (b : Bands) (row : ℕ) → IsCut b → row < b.lattice.rows → region_of b row ≡ ((row + 1) * b.count - 1) / b.lattice.rows
region_by_quotient b row cut below = region_is b _ row cut below (by_quotient b row cut.at_least (omega (arith, below)))

-- the region of a row is a region, and has the row
pub record Has (b : Bands) (row : ℕ) : Type 0 where
  pub below : region_of b row < b.count
  pub has : has_row b (region_of b row) row ≡ true

pub region_has : (b : Bands) (row : ℕ) → IsCut b → row < b.lattice.rows → Has b row
region_has b row cut below =
    let w = by_quotient b row cut.at_least (omega (arith, below)) in
    let is = sym (region_by_quotient b row cut below) in
    record {
      below = subst (λ k. k < b.count) is (region_below b _ row cut.at_least below w);
      has = subst (λ k. has_row b k row ≡ true) is (has_from b _ row cut.at_least w);
    }

-- no region is empty
pub first_is_own : (b : Bands) (region : ℕ) → IsCut b → has_row b region (first_row b region) ≡ true
first_is_own b region cut =
    let some : zero < b.count = omega (arith, cut.at_least) in
    let low : first_row b region * b.count ≤ region * b.lattice.rows = div-mul-le_self (region * b.lattice.rows) b.count in
    let high : first_row b region + 1 ≤ first_row b (region + 1) = (le-div_iff_mul-le {k = b.count} {x = first_row b region + 1} {y = (region + 1) * b.lattice.rows} some).1 (omega (arith, low, cut.has_rows)) in
    and_from (nat_le (first_row b region) (first_row b region)) (nat_lt (first_row b region) (first_row b (region + 1))) (le-leb _ _ (omega arith)) (lt-ltb _ _ (omega (arith, high)))

-- there are at most 2 ^ 20 rows
pub few_rows : (b : Bands) → IsCut b → b.lattice.rows ≤ 2 ^ 20
few_rows b cut =
    let least : b.lattice.rows * 1 ≤ b.lattice.rows * b.lattice.cols = mul-le b.lattice.rows 1 b.lattice.rows b.lattice.cols (omega arith) cut.size.cols_at_least in
    omega (arith, least, cut.size.at_most)
