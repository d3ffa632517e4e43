use Rattle.warp_core.proofs.LawLemmas.{runs}
use Rattle.warp_core.proofs.laws.a_run_keeps_a_part_sound.Goals as goal

pub returns : goal.returns
returns c = runs
