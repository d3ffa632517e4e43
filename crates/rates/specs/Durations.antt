-- Durations in a text.
use Rattle.std.specs.Prelude.{ℕ, ◌*◌, ◌/◌, ◌^◌, List, Option, Some, None, nat_le, if◌then◌else◌}
use Rattle.std.specs.Option.{option_and_then}
use Rattle.surf_text.specs.Decimals.{decimal_of}
use Rattle.surf_text.specs.declared.numbers.Dec.{Dec}
use Rattle.rates.specs.Rates.{scaled}

-- whole ticks of so many units: a unit has 10 ^ 6 ticks, and what is left of a tick is dropped
abbrev pub ticks_of : Dec → ℕ
ticks_of d = (scaled d.digits d.exp).p * 1000000 / (scaled d.digits d.exp).q

-- the ticks that a decimal spells, of at most 10 ^ 15
abbrev pub duration_of : List ℕ → Option ℕ
duration_of text = option_and_then (λ d. if nat_le (ticks_of d) (10 ^ 15) then Some (ticks_of d) else None) (decimal_of text)
