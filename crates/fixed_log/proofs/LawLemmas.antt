-- The lemmas that other crates cite: each is a clause of a law.
use Rattle.std.proofs.Common.{ℕ, ◌≤◌, arith}
use Rattle.fixed_log.specs.Log.{energy_of}

-- the word 0 has the greatest energy
pub energy-at_most : (w : ℕ) → energy_of w ≤ 190530846208
unfolding energy_of
energy-at_most w = omega arith
