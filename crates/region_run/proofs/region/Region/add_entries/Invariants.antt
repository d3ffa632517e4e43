use Rattle.std.proofs.Common.{◌≡◌, ◌+◌, ◌-◌, ◌≤◌, ◌<◌, ℕ}
use Rattle.region_run.specs.Regions.{Base, IsRegion}
use Rattle.region_run.specs.Runs.{HasSpare}
use Rattle.region_run.specs.Hearing.{Works}
use Rattle.region_run.specs.Turns.{AreSent}
use Rattle.region_run.proofs.region.Region.add_entries.Given as goal

abbrev pub invariant-loop-added : goal.invariant-loop-added
invariant-loop-added l = record {
  works : (x : Base) → IsRegion l.plan l.cut l.until x l.fn.self → Works l.plan l.cut l.until x l.quota l.fn.self l.added l.taken l.added l.self;
  few : l.taken ≤ l.quota;
  most : l.added ≤ l.quota;
  sent : 0 < l.added → AreSent l.fn.self l.self;
  totals : l.self.totals ≡ l.fn.self.totals;
  spare : (m : ℕ) → HasSpare (m + (l.taken + l.added)) l.fn.self → HasSpare m l.self;
}

abbrev pub decreases-loop-added : goal.decreases-loop-added
decreases-loop-added l = l.quota - l.added
