use Rattle.border.proofs.StackFacts.{empty_stacks}
use Rattle.border.proofs.stacks.Stacks.new.Goals as goal

pub invariant_of-result : goal.invariant_of-result
invariant_of-result c = empty_stacks c.loop.stacks.items c.loop.counter c.loop.invariant.1
