use Rattle.std.proofs.Common.{rules, ◌≡◌, sym, subst}
use Rattle.surface_top.specs.Answer.{run_answer, scene_of}
use Rattle.surface_top.specs.Crewed.{first_of}
use Rattle.surface_top.specs.Ending.{Answered}
use Rattle.run_writer.specs.Writing.{scene}
use Rattle.surface_top.proofs.Leaving.{run_leaves}
use Rattle.surface_top.proofs.RunEnds.{run_answers, started_leaves, started_scene}
use Rattle.surface_top.proofs.run.run_manifest.Given.{Over}
use Rattle.surface_top.proofs.run.run_manifest.Goals as goal

same_scene : (g : Over) (c : goal.After-drop-plan-inside-2 g) → scene c.args.manifest.now.names c.in-Ok.parts.0 c.span_of.result ≡ scene_of c.args.options.seed c.args.options.until c.args.options.samples c.args.options.limit c.args.manifest.now
same_scene g c = started_scene c.args.manifest.now c.args.options c.in-Ok.parts.0 c.span_of.result c.in-Ok.ensures.plan c.span_of.ensures

pub write_run-run-requires-clause-may : goal.write_run-run-requires-clause-may
write_run-run-requires-clause-may g c lifetimes outlived = record {
  lattice = search rules;
  species_count = search rules;
  species = started_leaves c.args.manifest.now _ c.in-Ok.parts.0 c.in-Ok.parts.2.start c.requires.sound c.in-Ok.ensures.plan c.in-Ok.ensures.crew.start;
  first = search rules;
  duration = search rules;
  network = search rules;
  until = search rules;
  horizon = search rules;
}

pub returns-clause-answered : goal.returns-clause-answered
returns-clause-answered g c =
    let m = c.args.manifest.now in
    subst (λ e. Answered (run_answer (scene_of c.args.options.seed c.args.options.until c.args.options.samples c.args.options.limit m) m) e (g.O.Sink.written c.args.out.now) (g.O.Sink.written c.write_run-run.new.out) (g.O.Sink.faults c.args.out.now) (g.O.Sink.faults c.write_run-run.new.out))
    (sym c.ending_of-ending.ensures)
    (run_answers c.write_run-run.result _ _ c.in-Ok.parts.2 c.write_run-run.new.crew (first_of m) _ _ _ _ (same_scene g c) c.in-Ok.ensures.crew.start c.write_run-run.ensures.run)

pub returns-clause-kept : goal.returns-clause-kept
returns-clause-kept g c =
    run_leaves c.write_run-run.result (record { manifest = c.args.manifest.now; options = c.args.options }) _ c.in-Ok.parts.2 c.write_run-run.new.crew c.left_by.result c.ending_of-ending.result _ _
    (same_scene g c) c.in-Ok.ensures.crew c.write_run-run.ensures.run.ended c.requires.bounds.limit c.left_by.ensures c.ending_of-ending.ensures
