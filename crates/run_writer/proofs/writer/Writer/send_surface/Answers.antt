use Rattle.std.proofs.Common.{subst}
use Rattle.std.specs.Io.KnownBytes.{Appends}
use Rattle.lattice.specs.Shape.{Shape}
use Rattle.surf_outside.specs.Known.{AppendsPrefix}
use Rattle.trace_text.specs.Lines.{surface_text}
use Rattle.run_writer.specs.Pages.{page}
use Rattle.run_writer.proofs.Written.{stopped_longer, sent_directly, stopped_directly}
use Rattle.run_writer.proofs.writer.Writer.send_surface.Goals as goal

pub returns-in-Err-clause-puts : goal.returns-in-Err-clause-puts
returns-in-Err-clause-puts g c =
    stopped_longer _ _ _ (surface_text c.args.task.now.names.now c.args.task.now.plan.now.lattice c.args.self.now.surface.sites c.args.tick c.args.self.now.events) c.in-Err.stop c.in-Err.ensures.puts

pub returns-in-Ok-write_surface-clause-puts : goal.returns-in-Ok-write_surface-clause-puts
returns-in-Ok-write_surface-clause-puts g c =
    let names = c.args.task.now.names.now in
    let w = c.args.self.now in
    sent_directly _ (page (g.O.Sink.written c.flush.new.out) (g.O.Sink.faults c.flush.new.out) c.flush.new.buffer) _ _ _ c.in-Ok.ensures.puts c.in-Ok.ensures.none
    (subst (λ (l : Shape). Appends (g.O.Sink.written c.flush.new.out) (g.O.Sink.written c.write_surface.new.out) (surface_text names l w.surface.sites c.args.tick w.events)) c.lattice-lattice.ensures c.in-Ok-write_surface.ensures.ok)
    c.in-Ok-write_surface.ensures.cause.later

pub returns-in-Err-write_surface-clause-puts : goal.returns-in-Err-write_surface-clause-puts
returns-in-Err-write_surface-clause-puts g c =
    let names = c.args.task.now.names.now in
    let w = c.args.self.now in
    stopped_directly _ (page (g.O.Sink.written c.flush.new.out) (g.O.Sink.faults c.flush.new.out) c.flush.new.buffer) _ _ _ c.in-Ok.ensures.puts c.in-Ok.ensures.none
    (subst (λ (l : Shape). AppendsPrefix (g.O.Sink.written c.flush.new.out) (g.O.Sink.written c.write_surface.new.out) (surface_text names l w.surface.sites c.args.tick w.events)) c.lattice-lattice.ensures c.in-Err-write_surface.ensures.err)
    c.in-Err-write_surface.ensures.cause.later c.in-Err-write_surface.ensures.cause.failed
