-- The event is a step, and so the entries lead on by its entry.
use Rattle.std.proofs.Common.{◌∷◌, [], ◌++◌, true, sym, ap, subst, ◌∙◌}
use Rattle.timeline.specs.declared.entry.Entry.{Entry}
use Rattle.timeline.specs.Led.{LedTo}
use Rattle.timeline.proofs.Leading.{pushed, step_applied}
use Rattle.timeline.proofs.tests.act.Goals as goal

pub returns : goal.returns
returns g c =
    let base = c.requires.0 in
    let before = c.args.surface.now in
    let now = c.apply-before.new.self in
    let entry : Entry = record { before = c.apply-before.result; own = true } in (
      base,
      subst (λ l. LedTo base l now) (sym (c.push.ensures.entries ∙ ap (λ l. l ++ entry ∷ []) c.in_ok-reserve.ensures.entries))
          (pushed base before now c.args.timeline.now.entries entry c.requires.1
          (step_applied before now c.args.event c.args.to entry c.apply-before.ensures.event c.apply-before.ensures.surface c.apply-before.ensures.stood c.apply-before.ensures.below)),
    )
