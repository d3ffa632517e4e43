use Rattle.std.proofs.Common.{Err, refl, subst}
use Rattle.trace_text.specs.Lines.{limit_text}
use Rattle.run_writer.specs.Pages.{page, StopsWith}
use Rattle.run_writer.specs.Writing.{scene_of, reached_of}
use Rattle.run_writer.proofs.Progressing.{shows_ends, stop_ends, event_advances, on_ok, no_limit}
use Rattle.run_writer.proofs.Firing.{Fires, ready_shown, due_shown, fires_place_here, fires_channel, fires_room, fires_pair, fires_species, fires_below, fires_reached, fires_sites, fires_ready, fires_count, stop_events, stop_limit}
use Rattle.run_writer.proofs.writer.Writer.write_event.Given.{Over}
use Rattle.run_writer.proofs.writer.Writer.write_event.Goals as goal

pub returns-in-Err-clause-advances : goal.returns-in-Err-clause-advances
returns-in-Err-clause-advances g c =
    shows_ends (scene_of c.args.task.now) (reached_of c.args.self.now) c.args.event _ _ c.in-Err.stop c.requires.due c.in-Err.ensures.puts

pub returns-in-Err-admit-clause-advances : goal.returns-in-Err-admit-clause-advances
returns-in-Err-admit-clause-advances g c =
    let s = scene_of c.args.task.now in
    let w = c.args.self.now in
    let v = c.show.new.self in
    stop_ends s (reached_of w) c.args.event _ _ _ c.stop_at_limit.result c.requires.due (stop_events s w v c.args.event.time c.requires.ready c.in-Ok.ensures.rest (c.in-Err-admit.ensures.refused.0 refl)) c.in-Ok.ensures.puts
    (subst (λ n. StopsWith (page (g.O.Sink.written c.show.new.out) (g.O.Sink.faults c.show.new.out) v.buffer) (page (g.O.Sink.written c.stop_at_limit.new.out) (g.O.Sink.faults c.stop_at_limit.new.out) c.stop_at_limit.new.self.buffer) (limit_text n) c.stop_at_limit.result)
    (stop_limit s w v c.args.event.time c.in-Err-admit.field-0.limit c.requires.ready c.in-Ok.ensures.rest c.in-Err-admit.ensures.error) c.stop_at_limit.ensures)

pub products-requires : goal.products-requires
products-requires g c =
    let s = scene_of c.args.task.now in
    fires_channel s c.args.self.now c.args.event c.requires.ready c.requires.due

pub apply-requires-clause-place : goal.apply-requires-clause-place
apply-requires-clause-place g c =
    let s = scene_of c.args.task.now in
    let v = c.show.new.self in
    fires_place_here s v c.args.event (ready_shown s c.args.self.now v c.args.event.time c.in-Ok.ensures.rest c.requires.ready) (due_shown s c.args.self.now v c.args.event.time c.args.event c.in-Ok.ensures.rest c.requires.due)

pub apply-requires-clause-pair : goal.apply-requires-clause-pair
apply-requires-clause-pair g c =
    let s = scene_of c.args.task.now in
    let v = c.show.new.self in
    fires_pair s v c.args.event c.products.result (ready_shown s c.args.self.now v c.args.event.time c.in-Ok.ensures.rest c.requires.ready) (due_shown s c.args.self.now v c.args.event.time c.args.event c.in-Ok.ensures.rest c.requires.due) c.products.ensures

pub apply-requires-clause-species : goal.apply-requires-clause-species
apply-requires-clause-species g c =
    let s = scene_of c.args.task.now in
    let v = c.show.new.self in
    fires_species s v c.args.event c.products.result (ready_shown s c.args.self.now v c.args.event.time c.in-Ok.ensures.rest c.requires.ready) c.products.ensures

pub apply-requires-clause-room : goal.apply-requires-clause-room
apply-requires-clause-room g c =
    let s = scene_of c.args.task.now in
    let v = c.show.new.self in
    fires_room s v c.args.event (ready_shown s c.args.self.now v c.args.event.time c.in-Ok.ensures.rest c.requires.ready) (due_shown s c.args.self.now v c.args.event.time c.args.event c.in-Ok.ensures.rest c.requires.due)

firing : (g : Over) (c : goal.After-put_event g) → Fires (scene_of c.args.task.now) c.args.self.now c.show.new.self c.put_event.new.self c.args.event
firing g c = record {
  ready = c.requires.ready;
  due = c.requires.due;
  shown = c.in-Ok.ensures.rest;
  surface = c.apply.new.self;
  tally = c.admit.new.self;
  number = c.in-Ok-admit.number;
  is = c.put_event.ensures.rest;
  to = c.products.result;
  products = c.products.ensures;
  fired = c.apply.ensures.surface;
  counted = c.in-Ok-admit.ensures.counted;
  numbered = c.in-Ok-admit.ensures.number;
  within = c.in-Ok-admit.ensures.within;
}

pub returns-clause-advances : goal.returns-clause-advances
returns-clause-advances g c =
    let s = scene_of c.args.task.now in
    let w = c.args.self.now in
    let v = c.show.new.self in
    let u = c.put_event.new.self in
    event_advances s (reached_of w) (reached_of u) c.args.event _ _ _ c.put_event.result c.requires.due (fires_below s w v u c.args.event (firing g c)) (fires_reached s w v u c.args.event (firing g c)) c.in-Ok.ensures.puts c.put_event.ensures.puts

pub returns-clause-sites : goal.returns-clause-sites
returns-clause-sites g c =
    on_ok c.put_event.result (fires_sites (scene_of c.args.task.now) c.args.self.now c.show.new.self c.put_event.new.self c.args.event (firing g c))

pub returns-clause-ready : goal.returns-clause-ready
returns-clause-ready g c =
    on_ok c.put_event.result (fires_ready (scene_of c.args.task.now) c.args.self.now c.show.new.self c.put_event.new.self c.args.event (firing g c))

pub returns-clause-count : goal.returns-clause-count
returns-clause-count g c =
    on_ok c.put_event.result (fires_count (scene_of c.args.task.now) c.args.self.now c.show.new.self c.put_event.new.self c.args.event (firing g c))

pub returns-in-Err-clause-limit : goal.returns-in-Err-clause-limit
returns-in-Err-clause-limit g c h = absurd (no_limit {T = Unit {0}} _ _ _ (Err c.in-Err.stop) c.in-Err.ensures.puts h)

pub returns-in-Err-admit-clause-limit : goal.returns-in-Err-admit-clause-limit
returns-in-Err-admit-clause-limit g c h = stop_events (scene_of c.args.task.now) c.args.self.now c.show.new.self c.args.event.time c.requires.ready c.in-Ok.ensures.rest (c.in-Err-admit.ensures.refused.0 refl)

pub returns-clause-limit : goal.returns-clause-limit
returns-clause-limit g c h = absurd (no_limit _ _ _ c.put_event.result c.put_event.ensures.puts h)
