use Rattle.std.proofs.Common.{◌≡◌, ◌≤◌}
use Rattle.run_writer.specs.Counting.{GoesOn, EndsAlike, counted_of}
use Rattle.run_writer.specs.Crewed.{IsAlong, IsSameCrew, rounds_left}
use Rattle.run_writer.specs.Writing.{scene_of}
use Rattle.run_writer.proofs.counting.count_rounds.Given as goal

abbrev pub invariant-loop-crew : goal.invariant-loop-crew
invariant-loop-crew g l = record {
  goes_on : GoesOn l.task.plan.now l.surface;
  along : IsAlong (scene_of l.task) l.crew (counted_of l.surface l.end);
  alike : EndsAlike (scene_of l.task) l.fn.surface.sites (record { events = 0; last = 0 }) l.surface.sites l.end;
  within : l.end.events ≤ l.task.span.limit;
  surface : l.surface ≡ record l.fn.surface { sites = l.surface.sites };
  same : IsSameCrew l.fn.crew l.crew;
}

abbrev pub decreases-loop-crew : goal.decreases-loop-crew
decreases-loop-crew g l = rounds_left (scene_of l.task) l.crew l.surface.sites
