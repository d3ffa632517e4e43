use Rattle.std.proofs.Common.{ap, ◌∙◌}
use Rattle.manifest_read.specs.Seen.{named_rule_of}
use Rattle.manifest_read.specs.CollectedView.{with_named_rule}
use Rattle.manifest_read.proofs.Stays.{collected-rule, numbered-push}
use Rattle.manifest_read.proofs.collected.Collected.rule.Goals as goal

pub invariant_of-self-2 : goal.invariant_of-self-2
invariant_of-self-2 c =
    numbered-push c.self.inside.names c.number_rule.new.names c.self.inside.rules c.push.new.self c.self.inside.cells (named_rule_of c.args.text.now) c.in-Ok.rule
    c.in-Ok.ensures.names c.in-Ok-push.ensures.ok c.in-Ok.ensures.rule c.in-Ok.ensures.grown c.self.invariant

pub returns-clause-ok : goal.returns-clause-ok
returns-clause-ok c =
    collected-rule c.self.inside.names c.number_rule.new.names c.self.inside.rules c.push.new.self c.self.inside.cells (named_rule_of c.args.text.now) c.in-Ok.rule
    c.in-Ok.ensures.names c.in-Ok-push.ensures.ok c.in-Ok.ensures.rule c.self.invariant
    ∙ ap (λ s. with_named_rule s (named_rule_of c.args.text.now)) c.self.view_is
