use Rattle.warp_core.proofs.LawLemmas.{forgetful_keeps}
use Rattle.warp_core.proofs.laws.stacks_may_forget.Goals as goal

pub returns : goal.returns
returns c = forgetful_keeps
