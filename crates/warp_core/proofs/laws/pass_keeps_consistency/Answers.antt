use Rattle.warp_core.proofs.LawLemmas.{step_keeps}
use Rattle.warp_core.specs.declared.step.Step.TheVariants.{Pass}
use Rattle.warp_core.proofs.laws.pass_keeps_consistency.Goals as goal

pub returns : goal.returns
returns c = λ w laws old new i. step_keeps w laws old new (Pass i)
