use Rattle.std.proofs.Common.{ℕ, List, sym, ap, ◌∙◌, subst}
use Rattle.run_writer.specs.declared.writer.Writer.{Writer}
use Rattle.run_writer.specs.Pages.{page}
use Rattle.run_writer.specs.Writing.{scene_of}
use Rattle.run_writer.proofs.Showing.{Showing, showing_step, showing_stops, showing_ends, showing_leaves}
use Rattle.run_writer.proofs.writer.Writer.show.Goals as goal

pub loop-tick-preserved : goal.loop-tick-preserved
loop-tick-preserved g c =
    subst (λ (w : Writer). Showing (scene_of c.args.task.now) c.args.self.now w c.args.time (page (g.O.Sink.written c.args.out.now) (g.O.Sink.faults c.args.out.now) c.args.self.now.buffer) (page (g.O.Sink.written c.put_surface.new.out) (g.O.Sink.faults c.put_surface.new.out) w.buffer)) (sym c.in-Ok.ensures.rest)
    (showing_step (scene_of c.args.task.now) c.args.self.now c.loop-tick.self c.args.time c.in-Some.tick c.before-in-loop-tick.new.self _ _ _ c.put_surface.new.self.buffer c.loop-tick.invariant c.in-Some.ensures.0 c.in-Some.ensures.1 c.in-Ok.ensures.puts)

pub returns-in-Err-clause-puts : goal.returns-in-Err-clause-puts
returns-in-Err-clause-puts g c =
    showing_stops (scene_of c.args.task.now) c.args.self.now c.loop-tick.self c.args.time c.in-Some.tick c.before-in-loop-tick.new.self _ _ _ c.in-Err.stop c.loop-tick.invariant c.in-Some.ensures.0 c.in-Some.ensures.1 c.in-Err.ensures.puts

pub returns-clause-puts : goal.returns-clause-puts
returns-clause-puts g c =
    showing_ends (scene_of c.args.task.now) c.args.self.now c.loop-tick.self c.args.time _ _ c.loop-tick.invariant c.in_default.ensures.1

pub returns-clause-rest : goal.returns-clause-rest
returns-clause-rest g c =
    let v = c.loop-tick.self in
    ap (λ (l : List ℕ). record v { ticks = l }) c.in_default.ensures.0
    ∙ showing_leaves (scene_of c.args.task.now) c.args.self.now v c.args.time _ _ c.loop-tick.invariant c.in_default.ensures.1
