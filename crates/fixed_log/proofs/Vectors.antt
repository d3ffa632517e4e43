-- Values of the logarithm and of the energy, so that a wrong step in the definitions does not check.
use Rattle.std.proofs.Common.{◌≡◌, ◌-◌, ◌^◌, refl}
use Rattle.fixed_log.specs.Log.{floor_log_below, x_after, bits_after, fixed_log_of, energy_of}

log_of_1 : fixed_log_of 1 ≡ 0
unfolding fixed_log_of floor_log_below x_after bits_after
log_of_1 = refl

log_of_2 : fixed_log_of 2 ≡ 4294967296
unfolding fixed_log_of floor_log_below x_after bits_after
log_of_2 = refl

log_near_top : fixed_log_of (2 ^ 64 - 1) ≡ 274877906943
unfolding fixed_log_of floor_log_below x_after bits_after
log_near_top = refl

log_at_top : fixed_log_of (2 ^ 64) ≡ 274877906944
unfolding fixed_log_of floor_log_below x_after bits_after
log_at_top = refl

energy_of_0 : energy_of 0 ≡ 190530846208
unfolding energy_of fixed_log_of floor_log_below x_after bits_after
energy_of_0 = refl

energy_of_half : energy_of (2 ^ 63 - 1) ≡ 2977044472
unfolding energy_of fixed_log_of floor_log_below x_after bits_after
energy_of_half = refl

energy_near_top : energy_of (2 ^ 64 - 2) ≡ 0
unfolding energy_of fixed_log_of floor_log_below x_after bits_after
energy_near_top = refl

energy_at_top : energy_of (2 ^ 64 - 1) ≡ 0
unfolding energy_of fixed_log_of floor_log_below x_after bits_after
energy_at_top = refl
