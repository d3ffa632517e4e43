use Rattle.std.proofs.Common.{rules, map, string_bytes, refl, sym, ◌∙◌}
use Rattle.surface_words.specs.declared.commands.Program.TheVariants.{Surface}
use Rattle.surface_top.specs.Reporting.{wants_report}
use Rattle.surface_top.proofs.Reports.{told_line, right_of}
use Rattle.surface_top.proofs.call.report.Goals as goal

pub returns-in-Done-put_report-clause-told : goal.returns-in-Done-put_report-clause-told
returns-in-Done-put_report-clause-told g c =
    told_line (wants_report Surface (map string_bytes c.args.words.now)) c.args.kept.now c.in-Some.crew.now c.report.result _ _ _ _ (search rules) (search rules) (search rules) c.report.ensures.counts c.in-Done-put_report.ensures.noted c.put_report.ensures.later

pub returns-in_default-put_report : goal.returns-in_default-put_report
returns-in_default-put_report g c = record {
  told = told_line (wants_report Surface (map string_bytes c.args.words.now)) c.args.kept.now c.in-Some.crew.now c.report.result _ _ _ _ (search rules) (search rules) (search rules) c.report.ensures.counts c.put_report.ensures.noted c.put_report.ensures.later;
  right = λ done wants. right_of c.args.kept.now c.in-Some.crew.now (search rules) (search rules);
  same = λ is. absurd (c.in_default-put_report.not-Done (is ∙ c.in-Done.is));
  none = λ other. refl;
}
