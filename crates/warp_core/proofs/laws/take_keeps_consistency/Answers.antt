use Rattle.warp_core.proofs.LawLemmas.{step_keeps}
use Rattle.warp_core.specs.declared.step.Step.TheVariants.{Take}
use Rattle.warp_core.proofs.laws.take_keeps_consistency.Goals as goal

pub returns : goal.returns
returns c = λ w laws old new j i. step_keeps w laws old new (Take j i)
