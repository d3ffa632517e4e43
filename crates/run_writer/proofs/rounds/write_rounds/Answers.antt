use Rattle.std.proofs.Common.{sym, ap, subst}
use Rattle.run_writer.specs.Pages.{Waiting}
use Rattle.run_writer.specs.Writing.{scene_of}
use Rattle.run_writer.specs.Crewed.{IsAlong}
use Rattle.run_writer.proofs.Crewing.{along_first, seen_first, seen_all, on_ok_both}
use Rattle.run_writer.proofs.Endings.{begins_ready, begins_reached, begins_ends, has_run}
use Rattle.run_writer.proofs.rounds.write_rounds.Goals as goal

pub make_rounds-requires-clause-ready : goal.make_rounds-requires-clause-ready
make_rounds-requires-clause-ready g c lifetimes outlived = begins_ready c.args.task.now c.args.crew.now c.args.writer.now c.requires.begins c.requires.may

pub make_rounds-requires-clause-along : goal.make_rounds-requires-clause-along
make_rounds-requires-clause-along g c lifetimes outlived =
    subst (IsAlong (scene_of c.args.task.now) c.args.crew.now) (sym (begins_reached c.args.task.now c.args.crew.now.start c.args.writer.now c.requires.begins))
    (along_first (scene_of c.args.task.now) c.args.crew.now c.requires.may)

pub make_rounds-requires-clause-seen : goal.make_rounds-requires-clause-seen
make_rounds-requires-clause-seen g c lifetimes outlived =
    seen_first (λ first es. g.W.Observer.has_seen c.args.observer.now c.args.task.now.plan.now first es) (scene_of c.args.task.now) c.args.crew.now c.requires.may c.requires.seen

pub returns-clause-run : goal.returns-clause-run
returns-clause-run g c =
    has_run (scene_of c.args.task.now) c.args.crew.now c.make_rounds.new.crew _ _ c.make_rounds.result (ap (λ (x : Waiting). x.bytes) c.requires.begins.buffer)
    (begins_ends c.args.task.now c.args.crew.now.start c.args.writer.now _ _ c.make_rounds.result c.requires.begins c.make_rounds.ensures.ends)
    c.make_rounds.ensures.finished c.make_rounds.ensures.limited c.make_rounds.ensures.same

pub returns-clause-seen : goal.returns-clause-seen
returns-clause-seen g c =
    on_ok_both c.make_rounds.result
    (λ finished seen. seen_all (λ first es. g.W.Observer.has_seen c.make_rounds.new.observer c.args.task.now.plan.now first es) (scene_of c.args.task.now) c.args.crew.now c.make_rounds.new.crew c.requires.may c.make_rounds.ensures.same finished seen)
    c.make_rounds.ensures.finished
    c.make_rounds.ensures.seen
