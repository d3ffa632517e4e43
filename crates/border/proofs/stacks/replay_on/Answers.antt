use Rattle.std.proofs.Common.{arith, ◌≡◌, ◌++◌, ◌∷◌, []}
use Rattle.std.proofs.lemmas.Grind.{common_steps}
use Rattle.surf_kinds.specs.Keys.{below, key_of}
use Rattle.border.proofs.Cutting.{rise-put}
use Rattle.border.proofs.stacks.replay_on.Goals as goal

pub returns-in-Put-clause-rising : goal.returns-in-Put-clause-rising
returns-in-Put-clause-rising c =
    let e : c.push_reserved.new.self.items ≡ below (key_of c.in-Put.event) c.args.stack.now.items ++ c.in-Put.event ∷ [] = grind (arith, common_steps) in
    rw e (rise-put c.in-Put.event c.args.stack.now.items c.requires.rising)
