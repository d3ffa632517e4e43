use Rattle.std.proofs.Common.{◌≡◌, ◌+◌, ◌-◌}
use Rattle.plan.specs.declared.index.Reactants.{Reactants}
use Rattle.plan.specs.Index.{found_in, AreRows}
use Rattle.plan.proofs.index.Index.grow.Given as goal

abbrev pub invariant-loop-alloc : goal.invariant-loop-alloc
invariant-loop-alloc l = record {
  rows : AreRows l.self;
  found : (r : Reactants) → found_in l.self r ≡ found_in l.initial.self r;
}

abbrev pub decreases-loop-alloc : goal.decreases-loop-alloc
decreases-loop-alloc l = l.first.0 + 1 - l.self.rows.len
