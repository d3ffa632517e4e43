use Rattle.run_writer.proofs.Sampling.{ticks_within}
use Rattle.run_writer.proofs.ticks.Ticks.new.Goals as goal

pub returns-clause-within : goal.returns-clause-within
returns-clause-within c = ticks_within c.args.until c.args.samples
