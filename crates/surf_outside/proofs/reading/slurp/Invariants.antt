use Rattle.std.proofs.Common.{length, ◌-◌, ◌≤◌}
use Rattle.std.specs.Io.KnownBytes.{Consumes}
use Rattle.surf_outside.proofs.reading.slurp.Given as goal

abbrev pub invariant-loop-n : goal.invariant-loop-n
invariant-loop-n g l =
    record {
      in_range : length l.all.items ≤ l.most;
      taken : Consumes (g.S.Source.unread l.fn.source) (g.S.Source.unread l.source) l.all.items;
      later : g.S.Source.faults l.fn.source ≤ g.S.Source.faults l.source;
    }

abbrev pub decreases-loop-n : goal.decreases-loop-n
decreases-loop-n g l = l.most - length l.all.items
