-- What holds of every wait, over the definition alone.
use Rattle.std.proofs.Common.{◌≡◌, ℕ, ◌+◌, ◌*◌, ◌/◌, ◌^◌, ◌<◌, ◌≤◌, arith}
use Rattle.std.proofs.Math.Nat.{mul-le-mul}
use Rattle.std.proofs.lemmas.Nat.{div_below}
use Rattle.fixed_log.specs.Log.{energy_of}
use Rattle.fixed_log.proofs.LawLemmas.{energy-at_most}
use Rattle.surf_kinds.specs.Rates.{Fraction}
use Rattle.rates.specs.Waits.{wait_of}

pub wait-at_least : (f : Fraction) → (w : ℕ) → 1 ≤ wait_of f w
unfolding wait_of
wait-at_least f w = omega arith

pub wait-at_most : (f : Fraction) → (w : ℕ) → 0 < f.p → f.q ≤ 1000000000 → wait_of f w ≤ 2 ^ 56 + 1
unfolding wait_of
wait-at_most f w h k =
    let product : energy_of w * f.q ≤ 190530846208 * 1000000000 = mul-le-mul (energy-at_most w) k in
    let below : energy_of w * f.q * 10 ^ 6 < (2 ^ 56 + 1) * (f.p * 2 ^ 32) = omega arith in
    let quotient : energy_of w * f.q * 10 ^ 6 / (f.p * 2 ^ 32) < 2 ^ 56 + 1 = div_below (energy_of w * f.q * 10 ^ 6) (f.p * 2 ^ 32) (2 ^ 56 + 1) (omega arith) below in
    omega (arith, quotient)

-- at the rate 10 ^ 9 every wait is 1
pub wait-instant : (w : ℕ) → wait_of (record { p = 1000000000; q = 1 }) w ≡ 1
unfolding wait_of
wait-instant w = omega (arith, energy-at_most w)
