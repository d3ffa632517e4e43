-- What a crew did so far.
use Rattle.std.specs.Prelude.{ℕ, ◌-◌, ◌==◌, List, [], ◌∷◌, if◌then◌else◌}
use Rattle.region_run.specs.declared.region.Region.{Region}
use Rattle.region_run.specs.Sides.{raised}
use Rattle.crew.specs.declared.settings.Report.{Report}
use Rattle.crew.specs.Crews.{CrewView}

-- the sums over the regions: each stops at 2 ^ 64 - 1
abbrev pub added_in_all : List Region → ℕ
added_in_all [] = 0
added_in_all (r ∷ rs) = raised (added_in_all rs) r.totals.added

abbrev pub cut_in_all : List Region → ℕ
cut_in_all [] = 0
cut_in_all (r ∷ rs) = raised (cut_in_all rs) r.totals.cut

abbrev pub forgotten_in_all : List Region → ℕ
forgotten_in_all [] = 0
forgotten_in_all (r ∷ rs) = raised (forgotten_in_all rs) r.totals.forgotten

-- the entries that were added, less the received ones that were forgotten: a committed event is counted once
abbrev pub fired_in_all : List Region → ℕ
fired_in_all rs = if added_in_all rs == 18446744073709551615 then 18446744073709551615 else added_in_all rs - forgotten_in_all rs

abbrev pub report_of : CrewView → Report
report_of v = record { regions = v.bands.count; rounds = v.rounds; fired = fired_in_all v.regions; committed = v.committed; cancelled = cut_in_all v.regions }
