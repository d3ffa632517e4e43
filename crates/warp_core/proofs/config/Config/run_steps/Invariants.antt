use Rattle.std.proofs.Common.{◌≡◌, ◌≤◌, take}
use Rattle.warp_core.specs.Simulation.{Setting, world_in}
use Rattle.warp_core.specs.Steps.{IsPrefixOf}
use Rattle.warp_core.specs.Configs.{core_of, region_count, IsConfigOf, Tries}
use Rattle.warp_core.proofs.config.Config.run_steps.Given as goal

abbrev pub invariant-loop-step : goal.invariant-loop-step
invariant-loop-step l = record {
  kept : (s : Setting) → IsConfigOf l.plan s l.fn.self → IsConfigOf l.plan s l.self;
  tried : (s : Setting) → IsConfigOf l.plan s l.fn.self → Tries (world_in l.plan s) (core_of l.fn.self) (take l.step-index l.steps) l.done (core_of l.self);
  grows : IsPrefixOf (core_of l.fn.self).committed (core_of l.self).committed;
  count : region_count l.self ≡ region_count l.fn.self;
  few : l.done ≤ l.step-index;
}
