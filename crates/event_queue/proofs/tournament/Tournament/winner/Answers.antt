use Rattle.std.proofs.Common.{◌≡◌, sym, arith}
use Rattle.std.specs.Prelude.{vec_capacity}
use Rattle.std.proofs.lemmas.List.{get_or_read, get_or_past}
use Rattle.event_queue.specs.Tournament.{entry_at, nothing}
use Rattle.event_queue.proofs.Leaves.{view_wins}
use Rattle.event_queue.proofs.tournament.Tournament.winner.Goals as goal

pub returns-then-len-gt-ROOT : goal.returns-then-len-gt-ROOT
returns-then-len-gt-ROOT c =
    let t = c.self.inside in
    let read : c.index.result.now ≡ entry_at t.nodes.items 6 = get_or_read t.nodes.items 6 c.index.result.now (omega arith) c.index.ensures nothing in
    view_wins t.nodes.items (vec_capacity t.nodes) t.inner_end t.count c.args.self.now c.index.result.now c.self.invariant c.self.view_is read

pub returns-else-len-gt-ROOT : goal.returns-else-len-gt-ROOT
returns-else-len-gt-ROOT c =
    let t = c.self.inside in
    let read : nothing ≡ entry_at t.nodes.items 6 = sym (get_or_past t.nodes.items 6 nothing (omega arith)) in
    view_wins t.nodes.items (vec_capacity t.nodes) t.inner_end t.count c.args.self.now nothing c.self.invariant c.self.view_is read
