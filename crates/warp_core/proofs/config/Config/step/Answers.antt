use Rattle.warp_core.specs.Configs.{core_of}
use Rattle.warp_core.specs.Simulation.{world_in}
use Rattle.warp_core.specs.declared.step.Step.TheVariants.{Fire, Pass, Take}
use Rattle.warp_core.proofs.Machine.Trying.{makes_grows}
use Rattle.warp_core.proofs.config.Config.step.Goals as goal

pub returns-in-Fire-clause-grows : goal.returns-in-Fire-clause-grows
returns-in-Fire-clause-grows c = let w = c.requires.config in makes_grows (world_in c.args.plan.now w.0) (core_of c.args.self.now) (Fire c.in-Fire.region) c.fire.result (core_of c.fire.new.self) (c.fire.ensures.made w.0 w.1)

pub returns-in-Pass-clause-grows : goal.returns-in-Pass-clause-grows
returns-in-Pass-clause-grows c = let w = c.requires.config in makes_grows (world_in c.args.plan.now w.0) (core_of c.args.self.now) (Pass c.in-Pass.region) c.pass.result (core_of c.pass.new.self) (c.pass.ensures.made w.0 w.1)

pub returns-in-Take-clause-grows : goal.returns-in-Take-clause-grows
returns-in-Take-clause-grows c = let w = c.requires.config in makes_grows (world_in c.args.plan.now w.0) (core_of c.args.self.now) (Take c.in-Take.from c.in-Take.to) c.take.result (core_of c.take.new.self) (c.take.ensures.made w.0 w.1)
