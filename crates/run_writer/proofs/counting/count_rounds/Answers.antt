use Rattle.std.proofs.Common.{refl, ap, ◌∙◌, arith}
use Rattle.surface_state.specs.SurfaceView.{SurfaceView}
use Rattle.run_writer.specs.Counting.{counted_of}
use Rattle.run_writer.specs.Writing.{scene_of}
use Rattle.run_writer.proofs.Crewing.{same_self, same_more, finished_none}
use Rattle.run_writer.proofs.Alike.{alike_self, alike_more, alike_end, alike_few, alike_sites}
use Rattle.run_writer.proofs.counting.count_rounds.Goals as goal

pub loop-crew-init : goal.loop-crew-init
loop-crew-init g c = record {
  goes_on = c.requires.goes_on;
  along = c.requires.along;
  alike = alike_self (scene_of c.args.task.now) c.args.surface.now.sites (record { events = 0; last = 0 });
  within = omega arith;
  surface = refl;
  same = same_self c.args.crew.now;
}

pub loop-crew-preserved : goal.loop-crew-preserved
loop-crew-preserved g c =
    let h = c.loop-crew.invariant in
    record {
      goes_on = c.in-Ok.ensures.goes_on;
      along = c.in-Ok.ensures.along;
      alike = alike_more (scene_of c.args.task.now) c.args.surface.now.sites c.loop-crew.surface.sites c.count_round.new.surface.sites _ c.loop-crew.end c.in-Ok.later h.alike c.in-Ok.ensures.alike;
      within = c.in-Ok.ensures.within;
      surface = c.in-Ok.ensures.surface ∙ ap (λ (x : SurfaceView). record x { sites = c.count_round.new.surface.sites }) h.surface;
      same = same_more c.args.crew.now c.loop-crew.crew c.count_round.new.crew h.same c.count_round.ensures.same;
    }

pub returns-in-Err-clause-same : goal.returns-in-Err-clause-same
returns-in-Err-clause-same g c = same_more c.args.crew.now c.loop-crew.crew c.count_round.new.crew c.loop-crew.invariant.same c.count_round.ensures.same

pub returns-clause-end : goal.returns-clause-end
returns-clause-end g c =
    alike_end (scene_of c.args.task.now) c.args.surface.now.sites c.loop-crew.surface.sites c.loop-crew.end c.loop-crew.invariant.alike
    (finished_none (scene_of c.args.task.now) c.loop-crew.crew (counted_of c.loop-crew.surface c.loop-crew.end) c.loop-crew.invariant.along (c.finished.ensures.yes c.loop-crew-test.false))

pub returns-clause-few : goal.returns-clause-few
returns-clause-few g c =
    alike_few (scene_of c.args.task.now) c.args.surface.now.sites c.loop-crew.surface.sites c.loop-crew.end c.loop-crew.invariant.alike
    (finished_none (scene_of c.args.task.now) c.loop-crew.crew (counted_of c.loop-crew.surface c.loop-crew.end) c.loop-crew.invariant.along (c.finished.ensures.yes c.loop-crew-test.false)) c.loop-crew.invariant.within

pub returns-clause-surface : goal.returns-clause-surface
returns-clause-surface g c =
    c.loop-crew.invariant.surface
    ∙ ap (λ x. record c.args.surface.now { sites = x })
    (alike_sites (scene_of c.args.task.now) c.args.surface.now.sites c.loop-crew.surface.sites (record { events = 0; last = 0 }) c.loop-crew.end c.loop-crew.invariant.alike
    (finished_none (scene_of c.args.task.now) c.loop-crew.crew (counted_of c.loop-crew.surface c.loop-crew.end) c.loop-crew.invariant.along (c.finished.ensures.yes c.loop-crew-test.false)))
