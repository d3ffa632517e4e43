use Rattle.std.proofs.Common.{◌≡◌}
use Rattle.run_writer.specs.Pages.{page}
use Rattle.run_writer.specs.Writing.{scene_of}
use Rattle.run_writer.specs.Crewed.{rounds_left, first_in, handed_by}
use Rattle.run_writer.proofs.Crewing.{WritingRounds}
use Rattle.run_writer.proofs.rounds.make_rounds.Given as goal

abbrev pub invariant-loop-crew : goal.invariant-loop-crew
invariant-loop-crew g l = record {
  rounds : WritingRounds (scene_of l.task) l.fn.crew l.crew l.fn.writer l.writer (page (g.O.Sink.written l.fn.out) (g.O.Sink.faults l.fn.out) l.fn.writer.buffer) (page (g.O.Sink.written l.out) (g.O.Sink.faults l.out) l.writer.buffer);
  seen : g.W.Observer.has_seen l.observer l.task.plan.now (first_in l.crew) (handed_by l.crew);
  mark : g.W.Observer.mark l.observer ≡ g.W.Observer.mark l.fn.observer;
}

abbrev pub decreases-loop-crew : goal.decreases-loop-crew
decreases-loop-crew g l = rounds_left (scene_of l.task) l.crew l.writer.surface.sites
