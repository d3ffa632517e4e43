use Rattle.std.proofs.Common.{◌≡◌, ℕ, ◌≤◌, length, drop}
use Rattle.crew.specs.Reports.{added_in_all, cut_in_all, forgotten_in_all}
use Rattle.crew.proofs.report.Sums.of.Given as goal

abbrev pub invariant-loop-i : goal.invariant-loop-i
invariant-loop-i l = record {
  inside : l.i ≤ length l.regions;
  added : l.sums.added ≡ added_in_all (drop l.i l.regions);
  cut : l.sums.cut ≡ cut_in_all (drop l.i l.regions);
  forgotten : l.sums.forgotten ≡ forgotten_in_all (drop l.i l.regions);
}

abbrev pub decreases-loop-i : goal.decreases-loop-i
decreases-loop-i l = l.i
