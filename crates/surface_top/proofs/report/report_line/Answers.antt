use Rattle.std.proofs.Common.{append_assoc}
use Rattle.surface_top.specs.Reporting.{report_text}
use Rattle.surface_top.proofs.report.report_line.Goals as goal

pub returns : goal.returns
unfolding report_text
returns c = simp append_assoc c.format.ensures.ok
