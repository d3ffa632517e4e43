use Rattle.std.proofs.Common.{◌≡◌, ◌≤◌, true, length}
use Rattle.std.specs.Prelude.{vec_len, vec_capacity, IfSome}
use Rattle.lattice.specs.Ranges.{is_in_range}
use Rattle.region_run.specs.Boards.{AllChanges, AreInOrder, ArePutBack}
use Rattle.region_run.proofs.changes.put_back.Given as goal

abbrev pub invariant-loop-change : goal.invariant-loop-change
invariant-loop-change l = record {
  back : ArePutBack l.key l.fn.range l.fn.changes.items l.changes.items l.fn.queue l.queue;
  order : AreInOrder l.changes.items;
  inside : AllChanges (λ c. (is_in_range l.fn.range c.place.0 ≡ true) × IfSome c.was (λ e. e.place ≡ c.place)) l.changes.items;
  len : vec_len l.changes ≤ vec_len l.fn.changes;
  capacity : vec_capacity l.changes ≡ vec_capacity l.fn.changes;
}

abbrev pub decreases-loop-change : goal.decreases-loop-change
decreases-loop-change l = length l.changes.items
