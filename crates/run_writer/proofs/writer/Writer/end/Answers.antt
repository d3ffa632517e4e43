use Rattle.std.proofs.Common.{◌++◌, Err, ap, ◌∙◌, subst}
use Rattle.trace_text.specs.Lines.{end_text}
use Rattle.run_writer.specs.declared.writer.Writer.{Writer}
use Rattle.run_writer.specs.declared.pages.Stop.TheVariants as stops
use Rattle.run_writer.specs.Pages.{page, Wrote, Stopped}
use Rattle.run_writer.specs.RunText.{shown}
use Rattle.run_writer.specs.Writing.{scene_of, reached_of}
use Rattle.run_writer.proofs.Progressing.{end_ends, last_shows_ends, puts_behind, out_of_memory}
use Rattle.run_writer.proofs.Firing.{shows_all}
use Rattle.run_writer.proofs.writer.Writer.end.Goals as goal

pub returns-in-Err : goal.returns-in-Err
returns-in-Err g c =
    let s = scene_of c.args.task.now in
    let w = c.args.self.now in
    last_shows_ends s (reached_of w) _ _ c.in-Err.stop c.requires.last
    (subst (λ l. Stopped (page (g.O.Sink.written c.args.out.now) (g.O.Sink.faults c.args.out.now) w.buffer) (page (g.O.Sink.written c.show.new.out) (g.O.Sink.faults c.show.new.out) c.show.new.self.buffer) (shown s (reached_of w) l) c.in-Err.stop) (shows_all s w c.requires.ready) c.in-Err.ensures.puts)

pub returns-in-Ok-write_end : goal.returns-in-Ok-write_end
returns-in-Ok-write_end g c =
    let s = scene_of c.args.task.now in
    let w = c.args.self.now in
    let v = c.show.new.self in
    end_ends s (reached_of w) _ _ _ c.flush.result c.requires.last c.requires.ready.within
    (subst (λ l. Wrote (page (g.O.Sink.written c.args.out.now) (g.O.Sink.faults c.args.out.now) w.buffer) (page (g.O.Sink.written c.show.new.out) (g.O.Sink.faults c.show.new.out) v.buffer) (shown s (reached_of w) l)) (shows_all s w c.requires.ready) c.in-Ok.ensures.puts)
    (puts_behind (g.O.Sink.written c.show.new.out) (g.O.Sink.faults c.show.new.out) v.buffer c.write_end.new.out _ (end_text s.until w.events) c.flush.result
    (c.in-Ok-write_end.ensures.ok ∙ ap (λ (x : Writer). v.buffer.bytes ++ end_text s.until x.events) c.in-Ok.ensures.rest) c.flush.ensures.puts)
    c.flush.ensures.none

pub returns-in-Err-write_end : goal.returns-in-Err-write_end
returns-in-Err-write_end g c =
    let s = scene_of c.args.task.now in
    let w = c.args.self.now in
    let v = c.show.new.self in
    end_ends {T = Unit {0}} s (reached_of w) _ _ _ (Err stops.Memory) c.requires.last c.requires.ready.within
    (subst (λ l. Wrote (page (g.O.Sink.written c.args.out.now) (g.O.Sink.faults c.args.out.now) w.buffer) (page (g.O.Sink.written c.show.new.out) (g.O.Sink.faults c.show.new.out) v.buffer) (shown s (reached_of w) l)) (shows_all s w c.requires.ready) c.in-Ok.ensures.puts)
    (out_of_memory (g.O.Sink.written c.show.new.out) (g.O.Sink.faults c.show.new.out) v.buffer c.write_end.new.out (end_text s.until w.events)) tt
