use Rattle.std.proofs.Common.{arith}
use Rattle.surf_outside.proofs.Gains.{appends_piece}
use Rattle.surf_outside.proofs.writing.put_all.Goals as goal

pub loop-at-preserved : goal.loop-at-preserved
loop-at-preserved g c =
    record {
      in_range = grind arith;
      written = appends_piece _ _ _ c.args.bytes.now c.loop-at.at c.in_ok-n.n c.loop-at.invariant.written c.in_ok-n.ensures.bytes;
      later = omega (arith, c.in_ok-n.ensures.cause.later);
    }
