use Rattle.warp_core.proofs.LawLemmas.{round_keeps}
use Rattle.warp_core.proofs.laws.runs_join.Goals as goal

pub returns : goal.returns
returns c = round_keeps
