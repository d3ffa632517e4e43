-- The wait of a rate at a drawn word.
use Rattle.std.specs.Prelude.{ℕ, ◌+◌, ◌*◌, ◌/◌, ◌^◌}
use Rattle.fixed_log.specs.Log.{energy_of}
use Rattle.surf_kinds.specs.Rates.{Fraction}

-- in ticks, of which 10 ^ 6 make a unit of time: the energy over the rate, rounded down, and 1 more
unfoldable pub wait_of : Fraction → ℕ → ℕ
wait_of f w = 1 + energy_of w * f.q * 10 ^ 6 / (f.p * 2 ^ 32)
