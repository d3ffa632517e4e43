use Rattle.std.proofs.Common.{Err, arith}
use Rattle.run_writer.specs.Writing.{scene_of, reached_of}
use Rattle.run_writer.proofs.Progressing.{progress_ends, flushed_advances, on_ok, no_limit}
use Rattle.run_writer.proofs.Batches.{writing_step, writing_count, ready_sent}
use Rattle.run_writer.proofs.writer.Writer.write_events.Goals as goal

pub returns-in-Err-clause-advances : goal.returns-in-Err-clause-advances
returns-in-Err-clause-advances g c =
    progress_ends {T = Unit {0}} (scene_of c.args.task.now) (reached_of c.args.self.now) (reached_of c.loop-event.self) _ _ _ (Err c.in-Err.stop) c.loop-event.invariant.progress c.in-Err.ensures.advances

pub loop-event-preserved : goal.loop-event-preserved
loop-event-preserved g c =
    writing_step (scene_of c.args.task.now) c.args.self.now c.loop-event.self c.write_event.new.self c.args.events.now c.loop-event.event-index _ _ _ _ c.loop-event.invariant c.loop-event-test.true c.in-Ok.ensures.ready c.in-Ok.ensures.advances c.in-Ok.ensures.sites c.in-Ok.ensures.count

pub returns-clause-advances : goal.returns-clause-advances
returns-clause-advances g c =
    flushed_advances (scene_of c.args.task.now) (reached_of c.args.self.now) (reached_of c.loop-event.self) _ _ _ c.flush.result c.loop-event.invariant.progress c.flush.ensures.puts

pub returns-clause-ready : goal.returns-clause-ready
returns-clause-ready g c = on_ok c.flush.result (ready_sent (scene_of c.args.task.now) c.loop-event.self c.flush.new.buffer c.loop-event.invariant.ready)

pub returns-clause-count : goal.returns-clause-count
returns-clause-count g c = on_ok c.flush.result (writing_count (scene_of c.args.task.now) c.args.self.now c.loop-event.self c.args.events.now c.loop-event.event-index _ _ c.loop-event.invariant (omega (arith, c.loop-event-test.false)))

pub returns-in-Err-clause-limit : goal.returns-in-Err-clause-limit
returns-in-Err-clause-limit g c h = omega (arith, c.in-Err.ensures.limit h, c.loop-event.invariant.count, c.loop-event-test.true)

pub returns-clause-limit : goal.returns-clause-limit
returns-clause-limit g c h = absurd (no_limit _ _ _ c.flush.result c.flush.ensures.puts h)
