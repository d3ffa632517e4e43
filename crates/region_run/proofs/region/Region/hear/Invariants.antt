use Rattle.std.proofs.Common.{◌≡◌, ◌+◌, ◌-◌, ◌≤◌, ℕ}
use Rattle.region_run.specs.Regions.{Base, IsRegion}
use Rattle.region_run.specs.Runs.{HasSpare}
use Rattle.region_run.specs.Hearing.{Works}
use Rattle.region_run.proofs.region.Region.hear.Given as goal

abbrev pub invariant-loop-taken : goal.invariant-loop-taken
invariant-loop-taken l = record {
  works : (until : ℕ) (x : Base) → IsRegion l.plan l.cut until x l.fn.self → Works l.plan l.cut until x l.taken l.fn.self 0 l.taken 0 l.self;
  few : l.taken ≤ l.most;
  totals : l.self.totals ≡ l.fn.self.totals;
  spare : (m : ℕ) → HasSpare (m + l.taken) l.fn.self → HasSpare m l.self;
}

abbrev pub decreases-loop-taken : goal.decreases-loop-taken
decreases-loop-taken l = l.most - l.taken
