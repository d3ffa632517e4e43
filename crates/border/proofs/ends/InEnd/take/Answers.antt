use Rattle.std.proofs.Common.{arith}
use Rattle.std.proofs.lemmas.Grind.{common_steps}
use Rattle.rtrb.specs.Ring.{known_items}
use Rattle.border.proofs.Waiting.{take-tail}
use Rattle.border.proofs.ends.InEnd.take.Goals as goal

pub returns-in-Ok-clause-some : goal.returns-in-Ok-clause-some
returns-in-Ok-clause-some c =
    let rest = take-tail c.self.inside.waiting (known_items c.self.inside.consumer) (known_items c.pop.new.self) c.in-Ok.op c.in-Ok.ensures.ok.1 c.self.invariant in
    rw (← c.self.view_is, c.saturating_sub-self-inside.ensures, c.saturating_add-self-inside.ensures, rest) (grind (arith, common_steps))
