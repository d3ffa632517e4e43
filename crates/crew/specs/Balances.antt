-- What the totals of regions account for.
use Rattle.std.specs.Prelude.{◌≡◌, ℕ, zero, suc, ◌+◌, ◌<◌, List, length, Some, slice_get}
use Rattle.region_run.specs.declared.region.Region.{Region}
use Rattle.region_run.specs.Regions.{part_of}

-- The entries that a region added are those that it cut, those that it has, the received ones that it forgot, and so many own ones that it forgot. Where the count of entries added stands at its end, nothing is said.
pub record IsBalanced (own : ℕ) (r : Region) : Type 0 where
  pub is : r.totals.added < 18446744073709551615 → r.totals.added ≡ r.totals.cut + length (part_of r).timeline + r.totals.forgotten + own

-- the first n numbers together
abbrev pub total_of : (ℕ → ℕ) → ℕ → ℕ
total_of f zero = 0
total_of f (suc n) = f 0 + total_of (λ i. f (suc i)) n

-- The totals of the regions balance, and so many own entries were forgotten by all together.
pub record AreBalanced (rs : List Region) (own : ℕ) : Type 0 where
  pub own_of : ℕ → ℕ
  pub each : (i : ℕ) (r : Region) → slice_get rs i ≡ Some r → IsBalanced (own_of i) r
  pub all : total_of own_of (length rs) ≡ own
