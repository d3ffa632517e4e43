use Rattle.std.proofs.Common.{◌≡◌, ◌⊎◌, inl, inr, ℕ, List, Option, None, refl, sym, subst}
use Rattle.circuit_text.specs.Circuits.{circuit_in}
use Rattle.manifest_read.specs.Manifest.{manifest_of}
use Rattle.surface_top.specs.declared.call.ManifestJob.{ManifestJob}
use Rattle.surface_top.specs.declared.call.ManifestJob.TheVariants as job
use Rattle.surface_top.specs.Answer.{by_manifest, by_circuit, compile_answer, value_answer}
use Rattle.surface_top.specs.declared.answers.LayoutKind.TheVariants as on
use Rattle.surface_top.specs.Ending.{Answered, manifest_answer}
use Rattle.surface_top.specs.Kept.{Asked, run_by, run_read, Leaves}
use Rattle.surface_top.proofs.Leaving.{none_read}
use Rattle.surface_top.proofs.call.answer_text.Goals as goal

pub returns-in-Compile-clause-answered : goal.returns-in-Compile-clause-answered
returns-in-Compile-clause-answered g c =
    rw c.in-Compile.is (subst (λ (word : List ℕ). Answered (by_circuit (compile_answer on.Closed word) (circuit_in c.args.text.now)) c.answer_circuit.result (g.O.Sink.written c.args.out.now) (g.O.Sink.written c.answer_circuit.new.out) (g.O.Sink.faults c.args.out.now) (g.O.Sink.faults c.answer_circuit.new.out))
    c.inputs.ensures c.answer_circuit.ensures)

pub returns-in-Compact-clause-answered : goal.returns-in-Compact-clause-answered
returns-in-Compact-clause-answered g c =
    rw c.in-Compact.is (subst (λ (word : List ℕ). Answered (by_circuit (compile_answer on.Compact word) (circuit_in c.args.text.now)) c.answer_circuit-in-Compact.result (g.O.Sink.written c.args.out.now) (g.O.Sink.written c.answer_circuit-in-Compact.new.out) (g.O.Sink.faults c.args.out.now) (g.O.Sink.faults c.answer_circuit-in-Compact.new.out))
    c.inputs-in-Compact.ensures c.answer_circuit-in-Compact.ensures)

pub returns-in-Value-clause-answered : goal.returns-in-Value-clause-answered
returns-in-Value-clause-answered g c =
    rw c.in-Value.is (subst (λ (word : List ℕ). Answered (by_circuit (value_answer word) (circuit_in c.args.text.now)) c.answer_circuit-in-Value.result (g.O.Sink.written c.args.out.now) (g.O.Sink.written c.answer_circuit-in-Value.new.out) (g.O.Sink.faults c.args.out.now) (g.O.Sink.faults c.answer_circuit-in-Value.new.out))
    c.inputs-in-Value.ensures c.answer_circuit-in-Value.ensures)

-- a run, or one before viewers
either : {A B C : Type 0} → (A → C) → (B → C) → A ⊎ B → C
either f g (inl a) = f a
either f g (inr b) = g b

pub returns-in-Run-clause-answered : goal.returns-in-Run-clause-answered
returns-in-Run-clause-answered g c = either (λ run. rw run.1 c.answer_manifest-in-Run.ensures.answered) (λ watch. rw watch.2 c.answer_manifest-in-Run.ensures.answered) c.in-Run.is

pub returns-in-Ensemble-clause-answered : goal.returns-in-Ensemble-clause-answered
returns-in-Ensemble-clause-answered g c =
    rw c.in-Ensemble.is (subst (λ (job : ManifestJob). Answered (by_manifest (manifest_answer job) (manifest_of c.args.text.now)) c.answer_manifest-in-Ensemble.result (g.O.Sink.written c.args.out.now) (g.O.Sink.written c.answer_manifest-in-Ensemble.new.out) (g.O.Sink.faults c.args.out.now) (g.O.Sink.faults c.answer_manifest-in-Ensemble.new.out))
    c.ensemble_job-job.ensures c.answer_manifest-in-Ensemble.ensures.answered)

pub returns-in-Check-clause-kept : goal.returns-in-Check-clause-kept
returns-in-Check-clause-kept g c =
    rw c.in-Check.is (subst (λ (a : Option Asked). Leaves c.answer_manifest.result a c.answer_manifest.new.kept) (none_read (run_by job.Check) (manifest_of c.args.text.now) (λ m. refl)) c.answer_manifest.ensures.kept)

pub returns-in-Print-clause-kept : goal.returns-in-Print-clause-kept
returns-in-Print-clause-kept g c =
    rw c.in-Print.is (subst (λ (a : Option Asked). Leaves c.answer_manifest-in-Print.result a c.answer_manifest-in-Print.new.kept) (none_read (run_by job.Print) (manifest_of c.args.text.now) (λ m. refl)) c.answer_manifest-in-Print.ensures.kept)

pub returns-in-Ensemble-clause-kept : goal.returns-in-Ensemble-clause-kept
returns-in-Ensemble-clause-kept g c =
    rw c.in-Ensemble.is (subst (λ (a : Option Asked). Leaves c.answer_manifest-in-Ensemble.result a c.answer_manifest-in-Ensemble.new.kept)
    (none_read (run_by c.ensemble_job-job.result) (manifest_of c.args.text.now) (λ m. subst (λ (j : ManifestJob). run_by j m ≡ None) (sym c.ensemble_job-job.ensures) refl)) c.answer_manifest-in-Ensemble.ensures.kept)
