use Rattle.std.proofs.Common.{rules, ◌≡◌, ◌+◌, List, length, refl, sym, subst, ap, ◌∙◌, arith}
use Rattle.surf_kinds.specs.declared.event.Event.{Event}
use Rattle.surface_state.specs.SurfaceView.{SurfaceView}
use Rattle.run_writer.specs.Counting.{EndsAlike, counted_of}
use Rattle.run_writer.specs.Cuts.{surface_after}
use Rattle.run_writer.specs.StressText.{last_time}
use Rattle.run_writer.specs.Writing.{scene_of}
use Rattle.run_writer.proofs.Crewing.{round_next, round_along, round_same, round_fewer, round_limited}
use Rattle.run_writer.proofs.Alike.{next_alike, next_many}
use Rattle.run_writer.proofs.counting.count_round.Goals as goal

pub returns-in-Err-clause-same : goal.returns-in-Err-clause-same
returns-in-Err-clause-same g c = round_same c.args.crew.now c.round.new.self c.args.crew.now.horizon c.args.crew.now.rounds c.args.crew.now.committed c.round.new.self.regions c.in-Err.ensures.err

pub returns-then-handed-task-clause-many : goal.returns-then-handed-task-clause-many
returns-then-handed-task-clause-many g c h =
    let s = scene_of c.args.task.now in
    let v = c.args.surface.now.sites in
    let es : List Event = c.in-Ok.events.items in
    next_many s v (surface_after s v es) c.args.end.events es (round_next s c.args.crew.now c.round.new.self (counted_of c.args.surface.now c.args.end) es c.requires.along c.in-Ok.ensures.later c.in-Ok.ensures.events) refl (omega (arith, c.requires.within))

pub returns-then-handed-task-clause-past : goal.returns-then-handed-task-clause-past
returns-then-handed-task-clause-past g c h =
    round_limited (scene_of c.args.task.now) c.args.crew.now c.round.new.self _ _ (counted_of c.args.surface.now c.args.end) c.in-Ok.events.items c.requires.along c.in-Ok.ensures.later c.in-Ok.ensures.events c.in-Ok.ensures.counted (omega (arith, c.requires.within))

pub apply_events-last-requires-clause-next : goal.apply_events-last-requires-clause-next
apply_events-last-requires-clause-next g c = (
  c.args.task.now.span.until,
  c.requires.duration,
  round_next (scene_of c.args.task.now) c.args.crew.now c.round.new.self (counted_of c.args.surface.now c.args.end) c.as_slice.result.now c.requires.along c.in-Ok.ensures.later (c.as_slice.ensures.value ∙ c.in-Ok.ensures.events),
)

pub returns-clause-along : goal.returns-clause-along
returns-clause-along g c =
    round_along (scene_of c.args.task.now) c.args.crew.now c.round.new.self _ _ (counted_of c.args.surface.now c.args.end) _ c.as_slice.result.now c.requires.along c.in-Ok.ensures.later (c.as_slice.ensures.value ∙ c.in-Ok.ensures.events) c.in-Ok.ensures.counted
    (ap (λ (x : SurfaceView). x.sites) c.apply_events-last.ensures.same) (omega (arith, ap length c.as_slice.ensures.value))

pub returns-clause-alike : goal.returns-clause-alike
returns-clause-alike g c =
    let s = scene_of c.args.task.now in
    let v = c.args.surface.now.sites in
    let es : List Event = c.in-Ok.events.items in
    let same : length es ≡ c.len-handed.result = search rules in
    subst (λ n. EndsAlike s v c.args.end c.apply_events-last.new.surface.sites (record { events = c.args.end.events + n; last = c.apply_events-last.result })) same
    (next_alike s v c.apply_events-last.new.surface.sites c.args.end c.apply_events-last.result es
    (round_next s c.args.crew.now c.round.new.self (counted_of c.args.surface.now c.args.end) es c.requires.along c.in-Ok.ensures.later c.in-Ok.ensures.events)
    (ap (λ (x : SurfaceView). x.sites) c.apply_events-last.ensures.same ∙ ap (surface_after s v) c.as_slice.ensures.value)
    (c.apply_events-last.ensures.last ∙ ap (last_time c.args.end.last) c.as_slice.ensures.value))

pub returns-clause-fewer : goal.returns-clause-fewer
returns-clause-fewer g c =
    let s = scene_of c.args.task.now in
    let next = round_next s c.args.crew.now c.round.new.self (counted_of c.args.surface.now c.args.end) c.as_slice.result.now c.requires.along c.in-Ok.ensures.later (c.as_slice.ensures.value ∙ c.in-Ok.ensures.events) in
    round_fewer s c.args.crew.now c.round.new.self c.args.surface.now.sites c.apply_events-last.new.surface.sites c.as_slice.result.now next (ap (λ (x : SurfaceView). x.sites) c.apply_events-last.ensures.same) c.requires.unfinished
    (round_same c.args.crew.now c.round.new.self _ _ _ _ c.in-Ok.ensures.counted) (λ none. c.in-Ok.ensures.some (sym c.as_slice.ensures.value ∙ none))
