use Rattle.run_writer.specs.Pages.{page}
use Rattle.run_writer.specs.Writing.{scene_of}
use Rattle.run_writer.proofs.Batches.{WritingList}
use Rattle.run_writer.proofs.writer.Writer.write_events.Given as goal

abbrev pub invariant-loop-event : goal.invariant-loop-event
invariant-loop-event g l =
    WritingList (scene_of l.task) l.fn.self l.self l.events l.event-index
    (page (g.O.Sink.written l.fn.out) (g.O.Sink.faults l.fn.out) l.fn.self.buffer) (page (g.O.Sink.written l.out) (g.O.Sink.faults l.out) l.self.buffer)
