-- Waits of some words and rates, so that a wrong step in the definition does not check.
use Rattle.std.proofs.Common.{◌≡◌, ◌-◌, ◌^◌, refl}
use Rattle.fixed_log.specs.Log.{floor_log_below, x_after, bits_after, fixed_log_of, energy_of}
use Rattle.rates.specs.Waits.{wait_of}

at_one : wait_of (record { p = 1; q = 1 }) 0 ≡ 44361420
unfolding wait_of energy_of fixed_log_of floor_log_below x_after bits_after
at_one = refl

at_slowest : wait_of (record { p = 1; q = 1000000000 }) 0 ≡ 44361419558525086
unfolding wait_of energy_of fixed_log_of floor_log_below x_after bits_after
at_slowest = refl

half_at_one : wait_of (record { p = 1; q = 1 }) (2 ^ 63 - 1) ≡ 693148
unfolding wait_of energy_of fixed_log_of floor_log_below x_after bits_after
half_at_one = refl

half_at_half : wait_of (record { p = 1; q = 2 }) (2 ^ 63 - 1) ≡ 1386295
unfolding wait_of energy_of fixed_log_of floor_log_below x_after bits_after
half_at_half = refl

half_at_two : wait_of (record { p = 2; q = 1 }) (2 ^ 63 - 1) ≡ 346574
unfolding wait_of energy_of fixed_log_of floor_log_below x_after bits_after
half_at_two = refl

last_at_slowest : wait_of (record { p = 1; q = 1000000000 }) (2 ^ 64 - 1) ≡ 1
unfolding wait_of energy_of fixed_log_of floor_log_below x_after bits_after
last_at_slowest = refl
