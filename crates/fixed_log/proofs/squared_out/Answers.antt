use Rattle.std.proofs.Common.{refl, sym, lit<}
use Rattle.fixed_log.specs.Log.{x_after, bits_after}
use Rattle.fixed_log.proofs.Squarings.{turns}
use Rattle.fixed_log.proofs.squared_out.Goals as goal

pub loop-init : goal.loop-init
unfolding x_after bits_after
loop-init c = record { x_is = refl; bits_are = refl; low = c.requires; high = c.ranges.first.fits; bits_fit = lit< tt }

pub loop-preserved : goal.loop-preserved
loop-preserved c =
    let i = c.loop.invariant in
    let step = c.squared_once-bit.ensures in
    let t = turns c.args.first c.loop.counter c.loop.x c.loop.bits _ _ i.low i.high i.x_is i.bits_are (sym step.left) (sym step.bit) in
    record { x_is = t.x_is; bits_are = t.bits_are; low = t.low; high = t.high; bits_fit = t.bits_fit }
