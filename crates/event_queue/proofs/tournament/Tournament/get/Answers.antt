use Rattle.std.proofs.Common.{◌<◌, ◌+◌, ◌∙◌, sym, arith}
use Rattle.std.proofs.lemmas.List.{get_or_read, get_or_past}
use Rattle.event_queue.specs.Tournament.{nothing}
use Rattle.event_queue.proofs.Leaves.{in_view, view_at}
use Rattle.event_queue.proofs.tournament.Tournament.get.Goals as goal

pub overflow_add-at : goal.overflow_add-at
overflow_add-at c =
    let t = c.self.inside in
    let i = c.self.invariant in
    let within : c.args.number < t.count = in_view t.nodes.items t.inner_end t.count c.args.number c.args.self.now c.self.view_is c.requires in
    omega (arith, within, i.few, i.enough)

pub returns-then-at-len : goal.returns-then-at-len
returns-then-at-len c =
    let t = c.self.inside in
    get_or_read t.nodes.items (t.inner_end + c.args.number) c.index.result.now (omega arith) c.index.ensures nothing
    ∙ view_at t.nodes.items t.inner_end t.count c.args.number c.args.self.now c.self.view_is c.requires

pub returns-else-at-len : goal.returns-else-at-len
returns-else-at-len c =
    let t = c.self.inside in
    sym (get_or_past t.nodes.items (t.inner_end + c.args.number) nothing (omega arith))
    ∙ view_at t.nodes.items t.inner_end t.count c.args.number c.args.self.now c.self.view_is c.requires
