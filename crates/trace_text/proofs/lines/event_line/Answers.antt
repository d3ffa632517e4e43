use Rattle.trace_text.proofs.Texts.{event-is}
use Rattle.trace_text.proofs.lines.event_line.Goals as goal

pub returns : goal.returns
returns c = event-is c.args.cols c.args.event _ cc
