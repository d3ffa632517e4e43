use Rattle.std.proofs.Common.{◌≡◌, sym, ◌∙◌}
use Rattle.lattice.specs.Surface.{after_all}
use Rattle.run_writer.specs.Writing.{scene_of, reached_of}
use Rattle.run_writer.specs.Crewed.{first_in, handed_by}
use Rattle.run_writer.proofs.Progressing.{progress_start, progress_memory}
use Rattle.run_writer.proofs.Crewing.{round_next, round_wrote, round_same, round_fewer, round_limited, round_upto, round_seen, on_ok_then}
use Rattle.run_writer.proofs.rounds.write_round.Goals as goal

pub returns-in-Err-clause-advances : goal.returns-in-Err-clause-advances
returns-in-Err-clause-advances g c =
    progress_memory {T = Unit {0}} (scene_of c.args.task.now) (reached_of c.args.writer.now) (reached_of c.args.writer.now) _ _ (progress_start (scene_of c.args.task.now) (reached_of c.args.writer.now) _)

pub returns-in-Err-clause-same : goal.returns-in-Err-clause-same
returns-in-Err-clause-same g c = round_same c.args.crew.now c.round.new.self c.args.crew.now.horizon c.args.crew.now.rounds c.args.crew.now.committed c.round.new.self.regions c.in-Err.ensures.err

pub write_and_tell-requires-clause-next : goal.write_and_tell-requires-clause-next
write_and_tell-requires-clause-next g c =
    round_next (scene_of c.args.task.now) c.args.crew.now c.round.new.self (reached_of c.args.writer.now) c.as_slice.result.now c.requires.along c.in-Ok.ensures.later (c.as_slice.ensures.value ∙ c.in-Ok.ensures.events)

pub returns-clause-along : goal.returns-clause-along
returns-clause-along g c =
    round_wrote c.write_and_tell.result (scene_of c.args.task.now) c.args.crew.now c.round.new.self _ _ (reached_of c.args.writer.now) (reached_of c.write_and_tell.new.writer) c.as_slice.result.now c.requires.along c.in-Ok.ensures.later (c.as_slice.ensures.value ∙ c.in-Ok.ensures.events) c.in-Ok.ensures.counted c.write_and_tell.ensures.sites c.write_and_tell.ensures.count

pub returns-clause-fewer : goal.returns-clause-fewer
returns-clause-fewer g c =
    let s = scene_of c.args.task.now in
    let next = round_next s c.args.crew.now c.round.new.self (reached_of c.args.writer.now) c.as_slice.result.now c.requires.along c.in-Ok.ensures.later (c.as_slice.ensures.value ∙ c.in-Ok.ensures.events) in
    on_ok_then {P = c.write_and_tell.new.writer.surface.sites ≡ after_all s.network.lattice s.network.rules c.args.writer.now.surface.sites c.as_slice.result.now} c.write_and_tell.result
    (λ is. round_fewer s c.args.crew.now c.round.new.self c.args.writer.now.surface.sites c.write_and_tell.new.writer.surface.sites c.as_slice.result.now next is c.requires.unfinished
    (round_same c.args.crew.now c.round.new.self _ _ _ _ c.in-Ok.ensures.counted) (λ none. c.in-Ok.ensures.some (sym c.as_slice.ensures.value ∙ none)))
    c.write_and_tell.ensures.sites

pub returns-clause-same : goal.returns-clause-same
returns-clause-same g c = round_same c.args.crew.now c.round.new.self _ _ _ _ c.in-Ok.ensures.counted

pub returns-clause-limited : goal.returns-clause-limited
returns-clause-limited g c h =
    round_limited (scene_of c.args.task.now) c.args.crew.now c.round.new.self _ _ (reached_of c.args.writer.now) c.as_slice.result.now c.requires.along c.in-Ok.ensures.later (c.as_slice.ensures.value ∙ c.in-Ok.ensures.events) c.in-Ok.ensures.counted (c.write_and_tell.ensures.limit h)

pub write_and_tell-requires-clause-seen : goal.write_and_tell-requires-clause-seen
write_and_tell-requires-clause-seen g c =
    let s = scene_of c.args.task.now in (
      first_in c.args.crew.now,
      handed_by c.args.crew.now,
      c.requires.seen,
      round_upto s c.args.crew.now c.round.new.self (reached_of c.args.writer.now) c.as_slice.result.now c.requires.along c.in-Ok.ensures.later (c.as_slice.ensures.value ∙ c.in-Ok.ensures.events),
      c.requires.along.count,
    )

pub returns-clause-seen : goal.returns-clause-seen
returns-clause-seen g c =
    let s = scene_of c.args.task.now in
    let is = c.as_slice.ensures.value ∙ c.in-Ok.ensures.events in
    on_ok_then c.write_and_tell.result
    (λ told. round_seen (λ first es. g.W.Observer.has_seen c.write_and_tell.new.observer c.args.task.now.plan.now first es) c.args.crew.now c.round.new.self _ _ _ _ c.as_slice.result.now c.in-Ok.ensures.counted c.in-Ok.ensures.later is
    (told (first_in c.args.crew.now) (handed_by c.args.crew.now) c.requires.seen (round_upto s c.args.crew.now c.round.new.self (reached_of c.args.writer.now) c.as_slice.result.now c.requires.along c.in-Ok.ensures.later is)))
    c.write_and_tell.ensures.seen
