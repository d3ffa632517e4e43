use Rattle.std.proofs.Common.{subst, ◌∙◌}
use Rattle.manifest_read.specs.Views.{Gives}
use Rattle.manifest_read.proofs.Outcomes.{is-text, no-text}
use Rattle.manifest_read.proofs.reading.read_text.Goals as goal

pub returns-in-Ok : goal.returns-in-Ok
returns-in-Ok c =
    subst (Gives c.read_lines.result)
    (is-text c.args.text.now c.in-Ok.lines.now c.unmarked.result.now c.in-Ok.ensures.cases.0 c.in-Ok.ensures.cases.1 c.unmarked.ensures)
    c.read_lines.ensures

pub returns-in-Err : goal.returns-in-Err
returns-in-Err c = no-text c.args.text.now c.valid_up_to.result c.in-Err.ensures.cases.0 (c.valid_up_to.ensures ∙ c.in-Err.ensures.valid_len)
