use Rattle.std.proofs.Common.{map, string_bytes}
use Rattle.surface_words.specs.declared.commands.Program.TheVariants.{Surface}
use Rattle.surface_top.specs.Answer.{specified_answer}
use Rattle.surface_top.specs.Kept.{specified_run}
use Rattle.surface_top.specs.Reporting.{wants_report}
use Rattle.surface_top.proofs.Reports.{concludes, done_runs}
use Rattle.surface_top.proofs.call.surface_main.Goals as goal

pub returns-clause-answer : goal.returns-clause-answer
returns-clause-answer g c =
    let words = map string_bytes c.args.words.now in
    concludes (specified_answer Surface words) (specified_run Surface words) (wants_report Surface words) c.work-ending.result c.report-ending.result c.work-ending.new.kept c.report-ending.new.kept c.conclude.new.kept c.conclude.result _ _ _
    (record {
      ends = c.work-ending.ensures.ends;
      runs = done_runs words;
      told = c.report-ending.ensures.told;
      right = c.report-ending.ensures.right;
      same = c.report-ending.ensures.same;
      none = c.report-ending.ensures.none;
      read = c.work-ending.ensures.read;
      write = c.work-ending.ensures.write;
    })
    c.conclude.ensures
