use Rattle.run_writer.proofs.SpeciesKept.{counts_whole}
use Rattle.run_writer.proofs.laws.counts_are_whole.Goals as goal

pub returns : goal.returns
returns c = λ s cells es rules known. counts_whole s cells es c.each_site_is_counted_once.ensures rules known
