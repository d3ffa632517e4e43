use Rattle.std.proofs.Common.{subst, sym, ◌<◌, ◌≤◌}
use Rattle.std.specs.BinaryHeap.{heap_items}
use Rattle.std.specs.List.{All, Contains}
use Rattle.bench_read.proofs.Heaps.{pop-least, pop-left, pop-only}
use Rattle.bench_read.proofs.ready.Ready.pop.Goals as goal

pub returns-clause-least : goal.returns-clause-least
returns-clause-least c =
    subst (All (λ d. c.in_ok-item.field-0.0 ≤ d)) c.self.view_is
    (pop-least c.in_ok-item.field-0 (heap_items c.self.inside.heap) (c.in_ok-item.ensures.heap_order c.self.inside.ordered).1)

pub returns-clause-left : goal.returns-clause-left
returns-clause-left c = λ d m.
    pop-left c.in_ok-item.field-0 (heap_items c.self.inside.heap) (heap_items c.pop.new.self) d c.in_ok-item.ensures.permutation (subst (λ v. Contains v d) (sym c.self.view_is) m)

pub returns-clause-only : goal.returns-clause-only
returns-clause-only c = λ bound all.
    pop-only c.in_ok-item.field-0 (heap_items c.self.inside.heap) (heap_items c.pop.new.self) bound c.in_ok-item.ensures.permutation (subst (All (λ d. d < bound)) (sym c.self.view_is) all)
