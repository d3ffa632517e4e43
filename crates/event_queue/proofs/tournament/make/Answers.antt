use Rattle.std.proofs.Common.{◌∙◌, ap, arith}
use Rattle.event_queue.specs.Tournament.{entry_at}
use Rattle.event_queue.proofs.Leaves.{still_nothing}
use Rattle.event_queue.proofs.tournament.make.Goals as goal

pub loop-made-preserved : goal.loop-made-preserved
loop-made-preserved c =
    let inv = c.loop-made.invariant in
    let pushed = c.push_reserved.ensures in
    record {
      len = omega (arith, inv.len, pushed.len);
      same = λ j. ap (λ l. entry_at l j) pushed.items ∙ still_nothing c.loop-made.nodes.items j ∙ inv.same j;
      capacity = omega (arith, inv.capacity, pushed.capacity);
    }
