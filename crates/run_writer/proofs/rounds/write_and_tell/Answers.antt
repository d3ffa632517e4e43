use Rattle.std.proofs.Common.{arith}
use Rattle.run_writer.specs.Writing.{scene_of, reached_of}
use Rattle.run_writer.proofs.Progressing.{progress_memory}
use Rattle.run_writer.proofs.rounds.write_and_tell.Goals as goal

pub saw-requires : goal.saw-requires
saw-requires g c =
    let s = c.requires.seen in
    record { next = (c.args.task.now.span.until, s.0, s.1, s.2, s.3, omega (arith, c.in-Ok.ensures.count, c.in-Ok.ensures.ready.within, s.4, c.requires.limit)) }

pub returns-in-Err-saw-clause-advances : goal.returns-in-Err-saw-clause-advances
returns-in-Err-saw-clause-advances g c =
    progress_memory {T = Unit {0}} (scene_of c.args.task.now) (reached_of c.args.writer.now) (reached_of c.write_events.new.self) _ _ c.in-Ok.ensures.advances
