use Rattle.std.proofs.Common.{length, sym, ap, subst, arith}
use Rattle.timeline.specs.TimelineView.{below}
use Rattle.timeline.specs.Led.{LedTo}
use Rattle.timeline.proofs.Rising.{Rise, rise_below, lengths}
use Rattle.timeline.proofs.Leading.{cut}
use Rattle.timeline.proofs.timeline.Timeline.back_to.Goals as goal

pub invariant_of-self : goal.invariant_of-self
invariant_of-self c =
    let entries = c.self.inside.entries.items in (
      subst Rise (sym c.undo_from.ensures.entries) (rise_below c.args.key entries c.self.invariant.0),
      omega (arith, c.undo_from.ensures.capacity, c.self.invariant.1, ap length c.undo_from.ensures.entries, lengths c.args.key entries),
    )

pub returns-clause-led : goal.returns-clause-led
returns-clause-led c = rw (← c.self.view_is) (λ base led.
    let key = c.args.key in
    let entries = c.self.inside.entries.items in
    let mid = cut key base c.args.surface.now entries c.self.invariant.0 led in
    subst (λ l. LedTo base l c.undo_from.new.surface) (sym c.undo_from.ensures.entries)
    (subst (λ t. LedTo base (below key entries) t) (sym (c.undo_from.ensures.surface mid.0 mid.2)) mid.1))

pub returns-clause-spare : goal.returns-clause-spare
returns-clause-spare c =
    let entries = c.self.inside.entries.items in
    rw (← c.self.view_is) (omega (arith, c.undo_from.ensures.capacity, c.undo_from.ensures.answer, c.self.invariant.1, ap length c.undo_from.ensures.entries, lengths c.args.key entries))
