use Rattle.std.proofs.Common.{length}
use Rattle.run_writer.specs.Pages.{page}
use Rattle.run_writer.specs.Writing.{scene_of}
use Rattle.run_writer.proofs.Showing.{Showing}
use Rattle.run_writer.proofs.writer.Writer.show.Given as goal

abbrev pub invariant-loop-tick : goal.invariant-loop-tick
invariant-loop-tick g l =
    Showing (scene_of l.task) l.fn.self l.self l.time
    (page (g.O.Sink.written l.fn.out) (g.O.Sink.faults l.fn.out) l.fn.self.buffer) (page (g.O.Sink.written l.out) (g.O.Sink.faults l.out) l.self.buffer)

abbrev pub decreases-loop-tick : goal.decreases-loop-tick
decreases-loop-tick g l = length l.self.ticks
