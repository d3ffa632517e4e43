use Rattle.std.proofs.Common.{sym, ap, subst}
use Rattle.ensemble.specs.Texts.{ensemble_text}
use Rattle.surface_top.specs.Answer.{Text}
use Rattle.surface_top.specs.Ending.{Answered}
use Rattle.run_writer.specs.Pages.{Waiting}
use Rattle.surface_top.proofs.SeedLines.{ensemble_ends}
use Rattle.surface_top.proofs.ensembles.write_outcomes.Goals as goal

pub returns : goal.returns
returns g c =
    subst (λ e. Answered (Text (ensemble_text c.args.names.now c.args.outcomes.now)) e (g.O.Sink.written c.args.out.now) (g.O.Sink.written c.put_ensemble-written.new.out) (g.O.Sink.faults c.args.out.now) (g.O.Sink.faults c.put_ensemble-written.new.out))
    (sym c.ending_of.ensures)
    (ensemble_ends c.args.names.now c.args.outcomes.now _ _ c.put_ensemble-written.result (ap (λ (x : Waiting). x.bytes) c.new-buffer.ensures) c.put_ensemble-written.ensures.puts c.put_ensemble-written.ensures.none)
