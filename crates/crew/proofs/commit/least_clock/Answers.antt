use Rattle.std.proofs.Common.{◌≡◌, subst, arith, if◌then◌else◌}
use Rattle.surf_kinds.specs.Keys.{is_before}
use Rattle.region_run.specs.declared.region.Region.{Region}
use Rattle.crew.proofs.Clocks.{first_least, first_some, least_more, some_more}
use Rattle.crew.proofs.commit.least_clock.Goals as goal

pub loop-i-init : goal.loop-i-init
loop-i-init c =
    let is = subst (λ (r : Region). c.clock-least.result ≡ r.clock) c.index-regions-0.is c.clock-least.ensures in
    record { least = first_least c.args.regions.now c.clock-least.result c.index-regions-0.result c.requires is; some = first_some c.args.regions.now c.clock-least.result c.index-regions-0.result c.requires is }

pub loop-i-preserved : goal.loop-i-preserved
loop-i-preserved c =
    let is = subst (λ (r : Region). c.lesser-least.result ≡ (if is_before r.clock c.loop-i.least then r.clock else c.loop-i.least)) c.index-regions-i.is c.lesser-least.ensures in
    record {
      least = least_more c.args.regions.now c.loop-i.i c.loop-i.least c.lesser-least.result c.index-regions-i.result (omega (arith, c.loop-i-test.true)) is c.loop-i.invariant.least;
      some = some_more c.args.regions.now c.loop-i.i c.loop-i.least c.lesser-least.result c.index-regions-i.result (omega (arith, c.loop-i-test.true)) is c.loop-i.invariant.some;
    }
