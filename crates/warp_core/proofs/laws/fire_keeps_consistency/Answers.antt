use Rattle.warp_core.proofs.LawLemmas.{step_keeps}
use Rattle.warp_core.specs.declared.step.Step.TheVariants.{Fire}
use Rattle.warp_core.proofs.laws.fire_keeps_consistency.Goals as goal

pub returns : goal.returns
returns c = λ w laws old new i. step_keeps w laws old new (Fire i)
