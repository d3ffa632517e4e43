-- After `counter` rounds x and the bits are near to the power.
use Rattle.std.proofs.Common.{◌<◌, ◌≤◌, ◌^◌, ◌+◌, ◌-◌, ◌*◌}
use Rattle.fixed_log.specs.Log.{squared}
use Rattle.fixed_log.specs.Near.{IsNear}
use Rattle.fixed_log.proofs.Near.{loss}
use Rattle.fixed_log.proofs.estimate.Given as goal

abbrev pub invariant-loop : goal.invariant-loop
invariant-loop l = record {
  near : IsNear (squared l.fn.first (4 * l.counter)) (63 * (2 ^ (4 * l.counter) - 1) + l.bits) l.x (2 ^ 63 - loss l.counter);
  low : 2 ^ 63 ≤ l.x;
  bits_fit : l.bits < 2 ^ (4 * l.counter);
}
