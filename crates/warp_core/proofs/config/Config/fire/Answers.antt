use Rattle.std.proofs.Common.{refl}
use Rattle.warp_core.specs.Configs.{core_of}
use Rattle.warp_core.proofs.Machine.Stepping.{none_fires}
use Rattle.warp_core.proofs.config.Config.fire.Goals as goal

pub returns-in-None-clause-made : goal.returns-in-None-clause-made
returns-in-None-clause-made c s g = (refl, none_fires c.args.plan.now s (core_of c.args.self.now) c.args.region (c.in-None.ensures.none s g))

pub fire_entry-requires-clause-next : goal.fire_entry-requires-clause-next
fire_entry-requires-clause-next c = let w = c.requires.config in (w.0, w.1, c.in-Some.ensures.some w.0 w.1)

pub returns-in-Some-clause-made : goal.returns-in-Some-clause-made
returns-in-Some-clause-made c s g = c.fire_entry.ensures.made s g (c.in-Some.ensures.some s g)

pub returns-in-Some-clause-kept : goal.returns-in-Some-clause-kept
returns-in-Some-clause-kept c s g = c.fire_entry.ensures.kept s g (c.in-Some.ensures.some s g)
