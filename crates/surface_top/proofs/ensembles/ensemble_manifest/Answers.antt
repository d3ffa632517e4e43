use Rattle.std.proofs.Common.{sym, ap, ◌∙◌, subst}
use Rattle.ensemble.specs.declared.outcome.EnsembleSettings.{EnsembleSettings}
use Rattle.ensemble.specs.Outcomes.{AreAllowed, outcomes}
use Rattle.ensemble.specs.Texts.{ensemble_text}
use Rattle.surface_top.specs.Answer.{Text}
use Rattle.surface_top.specs.Ending.{Answered}
use Rattle.surface_top.proofs.SeedLines.{settings_allowed}
use Rattle.surface_top.proofs.ensembles.ensemble_manifest.Goals as goal

pub ensemble-requires-clause-allowed : goal.ensemble-requires-clause-allowed
ensemble-requires-clause-allowed g c _ _ =
    let o = c.args.options in
    subst AreAllowed (sym c.settings_of-settings.ensures) (settings_allowed o.workers o.seeds o.first o.until o.limit c.args.manifest.now c.requires.within c.requires.sound)

pub returns-in-Ok : goal.returns-in-Ok
returns-in-Ok g c =
    let m = c.args.manifest.now in
    subst (λ os. Answered (Text (ensemble_text m.names os)) c.write_outcomes.result (g.O.Sink.written c.args.out.now) (g.O.Sink.written c.write_outcomes.new.out) (g.O.Sink.faults c.args.out.now) (g.O.Sink.faults c.write_outcomes.new.out))
    (c.deref.ensures.value ∙ (c.in-Ok.ensures.outcomes ∙ ap (λ (s : EnsembleSettings). outcomes m s) c.settings_of-settings.ensures))
    c.write_outcomes.ensures
