use Rattle.std.proofs.Common.{subst, sym, ◌<◌}
use Rattle.std.specs.BinaryHeap.{heap_items}
use Rattle.std.specs.List.{All, Contains}
use Rattle.bench_read.proofs.Heaps.{push-added, push-kept, push-only}
use Rattle.bench_read.proofs.ready.Ready.push.Goals as goal

pub returns-clause-added : goal.returns-clause-added
returns-clause-added c = push-added (record { 0 = c.args.item }) (heap_items c.self.inside.heap) (heap_items c.push.new.self) c.in_ok-push.ensures.permutation

pub returns-clause-kept : goal.returns-clause-kept
returns-clause-kept c = λ d m.
    push-kept (record { 0 = c.args.item }) (heap_items c.self.inside.heap) (heap_items c.push.new.self) d c.in_ok-push.ensures.permutation (subst (λ v. Contains v d) (sym c.self.view_is) m)

pub returns-clause-only : goal.returns-clause-only
returns-clause-only c = λ bound lt all.
    push-only (record { 0 = c.args.item }) (heap_items c.self.inside.heap) (heap_items c.push.new.self) bound c.in_ok-push.ensures.permutation lt (subst (All (λ d. d < bound)) (sym c.self.view_is) all)
