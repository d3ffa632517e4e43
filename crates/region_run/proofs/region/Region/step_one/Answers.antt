use Rattle.region_run.proofs.Spares.{steps_counted, spare_counted}
use Rattle.region_run.proofs.region.Region.step_one.Goals as goal

pub returns-then-made-clause-steps : goal.returns-then-made-clause-steps
returns-then-made-clause-steps c x g = steps_counted c.args.plan.now c.args.cut.now c.args.until x c.args.self.now c.step-made.new.self c.step-made.result c.with_work-self.result (c.step-made.ensures.steps x g)

pub returns-then-made-clause-spare : goal.returns-then-made-clause-spare
returns-then-made-clause-spare c m h = spare_counted m c.step-made.new.self c.with_work-self.result (c.step-made.ensures.spare m h)
