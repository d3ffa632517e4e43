use Rattle.std.proofs.Common.{ℕ, heap_items}
use Rattle.std.specs.declared.cmp.Reverse.{Reverse}
use Rattle.track_layout.proofs.Frees.{popped, distinct_popped}
use Rattle.track_layout.proofs.free.take_least.Goals as goal

pub returns-in-Some-clause-once : goal.returns-in-Some-clause-once
returns-in-Some-clause-once c =
    (distinct_popped {X = Reverse ℕ} (λ r. r.0) c.in-Some.field-0 (heap_items c.args.free.now) (heap_items c.pop.new.self) c.in-Some.ensures.permutation c.requires.once).1

pub returns-in-Some-clause-some : goal.returns-in-Some-clause-some
returns-in-Some-clause-some c =
    popped {X = Reverse ℕ} (λ r. r.0) c.in-Some.field-0 (heap_items c.args.free.now) (heap_items c.pop.new.self) c.in-Some.ensures.permutation
    (distinct_popped {X = Reverse ℕ} (λ r. r.0) c.in-Some.field-0 (heap_items c.args.free.now) (heap_items c.pop.new.self) c.in-Some.ensures.permutation c.requires.once).0
    (c.in-Some.ensures.below_top c.requires.heap)
