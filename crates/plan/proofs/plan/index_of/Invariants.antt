use Rattle.std.proofs.Common.{◌≡◌}
use Rattle.plan.specs.declared.index.Reactants.{Reactants}
use Rattle.plan.specs.Channels.{channels_upto}
use Rattle.plan.specs.Index.{found_in, AreRows}
use Rattle.plan.proofs.plan.index_of.Given as goal

abbrev pub invariant-loop-i : goal.invariant-loop-i
invariant-loop-i l =
    AreRows l.index
    × ((r : Reactants) → found_in l.index r ≡ channels_upto l.rules r l.i)
