-- A power in floating point: a number of 64 bits, times a power of two, that is the power or a little less.
use Rattle.std.specs.Prelude.{ℕ, ◌*◌, ◌^◌, ◌≤◌}

-- x times 2 ^ t is at most p, and at least p times u out of 2 ^ 63
pub record IsNear (p t x u : ℕ) : Type 0 where
  pub lower : 2 ^ t * x ≤ p
  pub upper : p * u ≤ 2 ^ 63 * (2 ^ t * x)
