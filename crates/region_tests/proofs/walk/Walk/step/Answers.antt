use Rattle.std.proofs.Common.{ℕ, Bool, true, false}
use Rattle.plan.specs.Network.{Network}
use Rattle.regions.specs.Bands.{Bands}
use Rattle.region_run.specs.declared.region.Region.{Region}
use Rattle.region_run.specs.Regions.{Base, IsRegion}
use Rattle.region_run.specs.Runs.{StepsOn}
use Rattle.region_tests.proofs.walk.Walk.step.Goals as goal

stepped : (n : Network) (b : Bands) (until : ℕ) (x : Base) (r new : Region) (answer : Bool) → StepsOn n b until x r answer new → IsRegion n b until x new
stepped n b until x r new true s = s.1.region
stepped n b until x r new false s = s.0.region

pub invariant_of-self : goal.invariant_of-self
invariant_of-self c = let w = c.self.invariant in (w.0, c.prepare.ensures.region _ _ 5 w.0 w.1)

pub step_one-requires-clause-region : goal.step_one-requires-clause-region
step_one-requires-clause-region c = let w = c.self.invariant in (w.0, c.prepare.ensures.region _ _ 5 w.0 w.1)

pub invariant_of-self-2 : goal.invariant_of-self-2
invariant_of-self-2 c =
    let w = c.self.invariant in
    (w.0, stepped _ _ 5 w.0 _ _ c.step_one.result (c.step_one.ensures.steps w.0 (c.prepare.ensures.region _ _ 5 w.0 w.1)))
