use Rattle.warp_core.specs.Parts.{PartStep}
use Rattle.region_run.proofs.Spares.{step_counted, spare_counted}
use Rattle.region_run.proofs.region.Region.absorb.Goals as goal

pub returns-clause-step : goal.returns-clause-step
returns-clause-step c until x g = step_counted c.args.plan.now c.args.cut.now until x c.args.self.now c.take-undone.new.self (PartStep.Takes c.args.sender c.args.op) c.with_work-self.result (c.take-undone.ensures.step until x g)

pub returns-clause-spare : goal.returns-clause-spare
returns-clause-spare c m h = spare_counted m c.take-undone.new.self c.with_work-self.result (c.take-undone.ensures.spare m h)
