use Rattle.std.proofs.Common.{◌+◌, ◌/◌, arith}
use Rattle.std.specs.Prelude.{vec_capacity}
use Rattle.event_queue.proofs.Leaves.{none_sound, none_leaves}
use Rattle.event_queue.proofs.tournament.Tournament.new.Goals as goal

pub invariant_of-result : goal.invariant_of-result
invariant_of-result c =
    let made = c.in_ok-nodes.ensures in
    let n = c.args.count in
    none_sound c.in_ok-nodes.nodes.items (vec_capacity c.in_ok-nodes.nodes) (6 + (n + 5) / 7) n made.items (omega arith) (omega (arith, c.requires)) (omega arith) (omega (arith, made.capacity))

pub returns : goal.returns
returns c = none_leaves c.in_ok-nodes.nodes.items (6 + (c.args.count + 5) / 7) c.args.count c.in_ok-nodes.ensures.items
