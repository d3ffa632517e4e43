use Rattle.fixed_log.proofs.LawLemmas.{energy-at_most}
use Rattle.fixed_log.proofs.laws.energies_are_bounded.Goals as goal

pub returns : goal.returns
returns c = energy-at_most
