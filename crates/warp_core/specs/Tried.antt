-- Whether a step was made, as a number.
use Rattle.std.specs.Prelude.{ℕ}
use Rattle.warp_core.specs.declared.step.Did.{Did}
use Rattle.warp_core.specs.declared.step.Did.TheVariants.{Done, NotNow}

abbrev pub count_of : Did → ℕ
count_of Done = 1
count_of NotNow = 0
