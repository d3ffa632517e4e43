use Rattle.std.proofs.Common.{subst}
use Rattle.surface_state.specs.SurfaceView.{SurfaceView}
use Rattle.run_writer.specs.Counting.{GoesOn, counted_of}
use Rattle.run_writer.specs.Crewed.{IsAlong}
use Rattle.run_writer.specs.RunText.{start}
use Rattle.run_writer.specs.Writing.{scene_of}
use Rattle.run_writer.proofs.Crewing.{along_first}
use Rattle.run_writer.proofs.Alike.{along_counted, first_goes_on}
use Rattle.run_writer.proofs.counting.write_stress.Goals as goal

pub count_rounds-requires-clause-goes_on : goal.count_rounds-requires-clause-goes_on
count_rounds-requires-clause-goes_on g c lifetimes outlived =
    subst (GoesOn c.args.task.now.plan.now) c.requires.start (first_goes_on (scene_of c.args.task.now) c.args.crew.now c.requires.may)

pub count_rounds-requires-clause-along : goal.count_rounds-requires-clause-along
count_rounds-requires-clause-along g c lifetimes outlived =
    let s = scene_of c.args.task.now in
    subst (λ (x : SurfaceView). IsAlong s c.args.crew.now (counted_of x (record { events = 0; last = 0 }))) c.requires.start
    (along_counted s c.args.crew.now (start s c.args.crew.now.start.sites) (along_first s c.args.crew.now c.requires.may))
