use Rattle.std.proofs.Common.{arith}
use Rattle.regions.proofs.region_list.RegionList.of.Goals as goal

pub returns-in-Some-b-clause-listed : goal.returns-in-Some-b-clause-listed
returns-in-Some-b-clause-listed c region =
    let listed = c.pair.ensures.listed region in
    (λ e. listed.0 (grind arith), λ h. let e = listed.1 h in grind arith)

pub returns-in-Some-clause-listed : goal.returns-in-Some-clause-listed
returns-in-Some-clause-listed c region =
    let listed = c.pair-in-Some.ensures.listed region in
    (λ e. listed.0 (grind arith), λ h. let e = listed.1 h in grind arith)
