use Rattle.std.proofs.Common.{sym, ◌∙◌}
use Rattle.timeline.proofs.Rising.{begins_at, begins_nowhere}
use Rattle.timeline.proofs.cuts.count_below.Goals as goal

pub returns-in-Some-clause-rest : goal.returns-in-Some-clause-rest
returns-in-Some-clause-rest c = begins_at c.args.key c.args.entries.now c.in-Some.count c.requires (sym c.first_from.ensures ∙ c.in-Some.is)

pub returns-in-None-clause-rest : goal.returns-in-None-clause-rest
returns-in-None-clause-rest c = begins_nowhere c.args.key c.args.entries.now c.requires (sym c.first_from.ensures ∙ c.in-None.is)
