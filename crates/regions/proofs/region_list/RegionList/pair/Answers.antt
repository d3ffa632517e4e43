use Rattle.std.proofs.Common.{arith}
use Rattle.regions.proofs.Pairs.{one_listed, two_listed}
use Rattle.regions.proofs.region_list.RegionList.pair.Goals as goal
use Rattle.regions.proofs.region_list.RegionList.pair.Goals.{then-a-b, else-a-b}

pub returns-clause-listed : goal.returns-clause-listed
returns-clause-listed c region =
    elim c.if-a-b.branch [
      | then-a-b w ↦
          let one = one_listed c.if-a-b.result c.min.result c.max.result region w.result-is in
          (λ e. one.0 (grind arith), λ h. let e = one.1 h in grind arith)
      | else-a-b w ↦
          let two = two_listed c.if-a-b.result c.min.result c.max.result region w.result-is in
          (λ e. two.0 (grind arith), λ h. let e = two.1 h in grind arith)
    ]
