-- A channel's number taken apart: its rule, and the way in which the rule's reactants stand.
use Rattle.std.specs.Prelude.{ℕ, ◌/◌, ◌%◌}

abbrev pub rule_of_channel : ℕ → ℕ
rule_of_channel channel = channel / 2

-- 0 as they are written, 1 the other way round
abbrev pub way_of_channel : ℕ → ℕ
way_of_channel channel = channel % 2
