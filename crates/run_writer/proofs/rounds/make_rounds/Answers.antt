use Rattle.std.proofs.Common.{Err, refl, ◌∙◌}
use Rattle.run_writer.specs.Writing.{scene_of, reached_of}
use Rattle.run_writer.proofs.Progressing.{progress_start, progress_more, progress_ends, ends_no_limit}
use Rattle.run_writer.proofs.Crewing.{same_self, same_more, finished_none}
use Rattle.run_writer.proofs.rounds.make_rounds.Goals as goal

pub loop-crew-init : goal.loop-crew-init
loop-crew-init g c = record {
  rounds = record {
    ready = c.requires.ready;
    along = c.requires.along;
    progress = progress_start (scene_of c.args.task.now) (reached_of c.args.writer.now) _;
    same = same_self c.args.crew.now;
  };
  seen = c.requires.seen;
  mark = refl;
}

pub loop-crew-preserved : goal.loop-crew-preserved
loop-crew-preserved g c =
    let h = c.loop-crew.invariant.rounds in
    record {
      rounds = record {
        ready = c.in-Ok.ensures.ready;
        along = c.in-Ok.ensures.along;
        progress = progress_more (scene_of c.args.task.now) (reached_of c.args.writer.now) (reached_of c.loop-crew.writer) (reached_of c.write_round.new.writer) _ _ _ h.progress c.in-Ok.ensures.advances;
        same = same_more c.args.crew.now c.loop-crew.crew c.write_round.new.crew h.same c.write_round.ensures.same;
      };
      seen = c.in-Ok.ensures.seen;
      mark = c.write_round.ensures.mark ∙ c.loop-crew.invariant.mark;
    }

pub returns-in-Err-clause-ends : goal.returns-in-Err-clause-ends
returns-in-Err-clause-ends g c =
    progress_ends {T = Unit {0}} (scene_of c.args.task.now) (reached_of c.args.writer.now) (reached_of c.loop-crew.writer) _ _ _ (Err c.in-Err.stop) c.loop-crew.invariant.rounds.progress c.in-Err.ensures.advances

pub returns-in-Err-clause-same : goal.returns-in-Err-clause-same
returns-in-Err-clause-same g c = same_more c.args.crew.now c.loop-crew.crew c.write_round.new.crew c.loop-crew.invariant.rounds.same c.write_round.ensures.same

pub end-requires-clause-last : goal.end-requires-clause-last
end-requires-clause-last g c = finished_none (scene_of c.args.task.now) c.loop-crew.crew (reached_of c.loop-crew.writer) c.loop-crew.invariant.rounds.along (c.finished.ensures.yes c.loop-crew-test.false)

pub returns-clause-ends : goal.returns-clause-ends
returns-clause-ends g c =
    progress_ends (scene_of c.args.task.now) (reached_of c.args.writer.now) (reached_of c.loop-crew.writer) _ _ _ c.end.result c.loop-crew.invariant.rounds.progress c.end.ensures

pub returns-clause-limited : goal.returns-clause-limited
returns-clause-limited g c h = absurd (ends_no_limit (scene_of c.args.task.now) (reached_of c.loop-crew.writer) _ _ c.end.result (finished_none (scene_of c.args.task.now) c.loop-crew.crew (reached_of c.loop-crew.writer) c.loop-crew.invariant.rounds.along (c.finished.ensures.yes c.loop-crew-test.false)) c.loop-crew.invariant.rounds.ready.within c.end.ensures h)
