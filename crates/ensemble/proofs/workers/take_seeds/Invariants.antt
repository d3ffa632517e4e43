use Rattle.std.specs.Prelude.{All}
use Rattle.ensemble.specs.Running.{IsNumbered}
use Rattle.ensemble.proofs.workers.take_seeds.Given as goal

abbrev pub invariant-loop : goal.invariant-loop
invariant-loop l = All (IsNumbered l.m l.settings) l.found.items
