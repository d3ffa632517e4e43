use Rattle.std.proofs.Common.{◌≡◌, sym, subst}
use Rattle.surface_state.specs.SurfaceView.{SurfaceView}
use Rattle.run_writer.specs.RunText.{Scene}
use Rattle.run_writer.specs.Writing.{scene}
use Rattle.watch_run.specs.Seats.{AreLinesOf}
use Rattle.surface_top.specs.Answer.{run_answer, scene_of}
use Rattle.surface_top.specs.Crewed.{first_of}
use Rattle.surface_top.specs.Ending.{Answered}
use Rattle.surface_top.specs.Kept.{Asked, scene_by}
use Rattle.surface_top.proofs.Leaving.{run_leaves}
use Rattle.surface_top.proofs.RunEnds.{run_answers, started_scene}
use Rattle.surface_top.proofs.Watches.{shown_by}
use Rattle.surface_top.proofs.watch.watch_manifest.Given.{Over}
use Rattle.surface_top.proofs.watch.watch_manifest.Goals as goal

same_scene : (g : Over) (c : goal.After-drop-plan-inside-2 g) → scene c.args.manifest.now.names c.in-Ok.parts.0 c.span_of.result ≡ scene_of c.args.options.seed c.args.options.until c.args.options.samples c.args.options.limit c.args.manifest.now
same_scene g c = started_scene c.args.manifest.now c.args.options c.in-Ok.parts.0 c.span_of.result c.in-Ok.ensures.plan c.span_of.ensures

pub returns-clause-answered : goal.returns-clause-answered
returns-clause-answered g c =
    let m = c.args.manifest.now in
    let o = c.args.options in
    subst (λ e. Answered (run_answer (scene_of o.seed o.until o.samples o.limit m) m) e (g.O.Sink.written c.args.out.now) (g.O.Sink.written c.run_watched-run.new.out) (g.O.Sink.faults c.args.out.now) (g.O.Sink.faults c.run_watched-run.new.out))
    (sym c.ending_with-ending.ensures.ending)
    (run_answers c.run_watched-run.result _ _ c.in-Ok.parts.2 c.run_watched-run.new.crew (first_of m) _ _ _ _ (same_scene g c) c.in-Ok.ensures.crew.start c.run_watched-run.ensures.run)

pub returns-clause-kept : goal.returns-clause-kept
returns-clause-kept g c =
    run_leaves c.run_watched-run.result (record { manifest = c.args.manifest.now; options = c.args.options }) _ c.in-Ok.parts.2 c.run_watched-run.new.crew c.left_by.result c.ending_with-ending.result _ _
    (same_scene g c) c.in-Ok.ensures.crew c.run_watched-run.ensures.run.ended c.requires.bounds.limit c.left_by.ensures c.ending_with-ending.ensures.ending

pub returns-clause-shown : goal.returns-clause-shown
returns-clause-shown g c =
    let m = c.args.manifest.now in
    let asked : Asked = record { manifest = m; options = c.args.options } in
    λ done.
    let shown = shown_by c.run_watched-run.result c.args.options.limit c.ending_with-ending.result _ _ c.ending_with-ending.ensures.ending done c.run_watched-run.ensures.lines c.ending_with-ending.ensures.lines in
    subst (λ v. AreLinesOf c.args.seats (scene_by asked) (first_of m).sites v.items) (sym shown.2)
    (subst (λ (x : Scene). AreLinesOf c.args.seats x (first_of m).sites shown.0.items) (same_scene g c)
    (subst (λ (x : SurfaceView). AreLinesOf c.args.seats (scene m.names c.in-Ok.parts.0 c.span_of.result) x.sites shown.0.items) c.in-Ok.ensures.crew.start shown.1))
