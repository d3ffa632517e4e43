use Rattle.run_writer.proofs.Endings.{first_fresh}
use Rattle.run_writer.proofs.laws.first_surfaces_are_fresh.Goals as goal

pub returns : goal.returns
returns c = first_fresh
