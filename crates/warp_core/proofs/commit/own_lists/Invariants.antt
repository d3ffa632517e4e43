use Rattle.warp_core.specs.Commits.{AreOwnLists}
use Rattle.warp_core.proofs.commit.own_lists.Given as goal

abbrev pub invariant-loop-region : goal.invariant-loop-region
invariant-loop-region l = AreOwnLists l.cut l.key l.regions l.region l.lists.items
