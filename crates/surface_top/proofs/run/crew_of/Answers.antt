use Rattle.std.proofs.Common.{sym, subst}
use Rattle.std.specs.Prelude.{All}
use Rattle.warp_core.specs.Configs.{IsFresh}
use Rattle.run_writer.proofs.LawLemmas.{first_fresh}
use Rattle.surface_top.proofs.run.crew_of.Goals as goal

pub new-requires-clause-fresh : goal.new-requires-clause-fresh
new-requires-clause-fresh c = subst (All IsFresh) (sym c.requires.first.1) (first_fresh c.requires.first.0)
