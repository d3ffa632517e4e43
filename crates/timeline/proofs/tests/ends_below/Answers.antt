use Rattle.std.proofs.Common.{sym, subst, ◌∙◌}
use Rattle.surf_kinds.specs.Keys.{◌is_below◌}
use Rattle.timeline.proofs.Rising.{ends_at}
use Rattle.timeline.proofs.tests.ends_below.Goals as goal

pub returns-in-Some : goal.returns-in-Some
returns-in-Some c = λ h.
    ends_at c.args.key c.args.entries.now c.in-Some.last.now (sym c.in-Some.ensures.value) (subst (λ k. k is_below c.args.key) c.key.ensures (sym c.is_before.ensures ∙ h))
