use Rattle.std.proofs.Common.{sym, subst}
use Rattle.surface_state.specs.SurfaceView.{SurfaceView}
use Rattle.run_writer.specs.Writing.{Begins}
use Rattle.run_writer.proofs.rounds.write_run.Goals as goal

pub write_rounds-requires-clause-begins : goal.write_rounds-requires-clause-begins
write_rounds-requires-clause-begins g c lifetimes outlived =
    subst (λ (x : SurfaceView). Begins c.args.task.now.span x c.new-writer.result) (sym c.requires.start) c.new-writer.ensures
