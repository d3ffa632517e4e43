use Rattle.std.proofs.Common.{rules, ◌≡◌, arith, refl, sym, ap, ◌∙◌, subst}
use Rattle.std.specs.Prelude.{unwrap_or}
use Rattle.surface_top.specs.declared.run.RunOptions.{RunOptions}
use Rattle.surface_top.specs.Answer.{stress_answer, stress_scene, scene_of}
use Rattle.surface_top.specs.Crewed.{first_of}
use Rattle.surface_top.specs.Ending.{Answered}
use Rattle.surface_top.specs.Kept.{stress_options, IsCrewOf}
use Rattle.run_writer.specs.Writing.{scene}
use Rattle.surface_top.proofs.Leaving.{run_leaves}
use Rattle.surface_top.proofs.RunEnds.{scene_is, started_leaves}
use Rattle.surface_top.proofs.Stressing.{stress_answers}
use Rattle.surface_top.proofs.stress.stress_manifest.Given.{Over}
use Rattle.surface_top.proofs.stress.stress_manifest.Goals as goal

same_scene : (g : Over) (c : goal.After-drop-plan-inside-2 g) → scene c.args.manifest.now.names c.in-Ok.parts.0 c.span_of.result ≡ stress_scene c.args.manifest.now
same_scene g c =
    let m = c.args.manifest.now in
    let o = c.stress_options-options.result in
    ap (scene m.names c.in-Ok.parts.0) c.span_of.ensures
    ∙ (scene_is m c.in-Ok.parts.0 o.seed o.until o.samples o.limit (unwrap_or o.seed m.seed) (unwrap_or o.until m.until) c.in-Ok.ensures.plan refl refl
    ∙ ap (λ (x : RunOptions). scene_of x.seed x.until x.samples x.limit m) c.stress_options-options.ensures)

pub write_stress-run-requires-clause-may : goal.write_stress-run-requires-clause-may
write_stress-run-requires-clause-may g c lifetimes outlived = record {
  lattice = search rules;
  species_count = search rules;
  species = started_leaves c.args.manifest.now _ c.in-Ok.parts.0 c.in-Ok.parts.2.start c.requires.sound c.in-Ok.ensures.plan c.in-Ok.ensures.crew.start;
  first = search rules;
  duration = search rules;
  network = search rules;
  until = search rules;
  horizon = search rules;
}

pub returns-clause-answered : goal.returns-clause-answered
returns-clause-answered g c =
    let m = c.args.manifest.now in
    subst (λ e. Answered (stress_answer c.args.number m) e (g.O.Sink.written c.args.out.now) (g.O.Sink.written c.write_stress-run.new.out) (g.O.Sink.faults c.args.out.now) (g.O.Sink.faults c.write_stress-run.new.out))
    (sym c.ending_of-ending.ensures)
    (stress_answers c.write_stress-run.result c.args.number _ _ c.in-Ok.parts.2 c.write_stress-run.new.crew (first_of m) _ _ _ _ (same_scene g c) c.in-Ok.ensures.crew.start
    c.write_stress-run.ensures.ended c.write_stress-run.ensures.text c.write_stress-run.ensures.few)

pub returns-clause-kept : goal.returns-clause-kept
returns-clause-kept g c =
    let m = c.args.manifest.now in
    run_leaves c.write_stress-run.result (record { manifest = m; options = stress_options c.args.workers }) _ c.in-Ok.parts.2 c.write_stress-run.new.crew c.left_by.result c.ending_of-ending.result _ _ (same_scene g c)
    (subst (λ (o : RunOptions). IsCrewOf (record { manifest = m; options = o }) c.in-Ok.parts.2) c.stress_options-options.ensures c.in-Ok.ensures.crew) c.write_stress-run.ensures.ended (omega arith) c.left_by.ensures c.ending_of-ending.ensures
