use Rattle.ensemble.specs.Running.{HasFired}
use Rattle.ensemble.proofs.one_seed.fire_at_most.Given as goal

abbrev pub invariant-loop-events : goal.invariant-loop-events
invariant-loop-events l = HasFired l.until l.events l.fn.engine l.engine l.events l.last
