use Rattle.warp_core.proofs.LawLemmas.{step_keeps}
use Rattle.warp_core.specs.declared.step.Step.TheVariants.{Commit}
use Rattle.warp_core.proofs.laws.commit_keeps_consistency.Goals as goal

pub returns : goal.returns
returns c = λ w laws old new key. step_keeps w laws old new (Commit key)
