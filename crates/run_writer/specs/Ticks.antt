-- The sampling ticks that are left.
use Rattle.std.specs.Prelude.{◌≡◌, ℕ, ◌+◌, ◌-◌, ◌*◌, ◌/◌, ◌^◌, ◌≤◌, List, map, Option, Some, None, nat_le, if◌then◌else◌}
use Rattle.std.specs.List.{range_with_len}

-- those from number n on
abbrev pub ticks_after : ℕ → ℕ → ℕ → List ℕ
ticks_after until samples n = map (λ i. i * until / samples) (range_with_len n (samples + 1 - n))

-- the tick of number n, where there are so many
abbrev pub tick_at : ℕ → ℕ → ℕ → Option ℕ
tick_at until samples n = if nat_le n samples then Some (n * until / samples) else None

-- this is the number of the next tick, and that tick
pub record IsNext (until samples number : ℕ) (tick : Option ℕ) : Type 0 where
  pub from : 1 ≤ number
  pub to : number ≤ samples + 1
  pub long : until ≤ 10 ^ 15
  pub few : samples ≤ 10000
  pub is : tick ≡ tick_at until samples number
