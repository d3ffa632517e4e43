use Rattle.std.proofs.Common.{ap, ◌∙◌}
use Rattle.manifest_read.specs.CollectedView.{with_cell}
use Rattle.manifest_read.proofs.Stays.{collected-cell}
use Rattle.manifest_read.proofs.collected.Collected.cell.Goals as goal

pub returns-clause-ok : goal.returns-clause-ok
returns-clause-ok c =
    collected-cell c.self.inside.names c.intern.new.self c.self.inside.rules c.self.inside.cells c.push.new.self c.args.name.now c.in-Ok.id
    c.in-Ok.ensures.names c.in-Ok-push.ensures.ok c.in-Ok.ensures.place c.self.invariant
    ∙ ap (λ s. with_cell s c.args.name.now) c.self.view_is
