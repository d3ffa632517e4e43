use Rattle.std.proofs.Common.{sym, subst, arith}
use Rattle.timeline.specs.TimelineView.{TimelineView, IsLater}
use Rattle.timeline.proofs.Rising.{Rise, rise_pushed}
use Rattle.timeline.proofs.timeline.Timeline.push.Goals as goal

pub invariant_of-self : goal.invariant_of-self
invariant_of-self c = (
  subst Rise (sym c.push_reserved.ensures.items)
      (rise_pushed c.self.inside.entries.items c.args.entry c.self.invariant.0 (subst (λ (v : TimelineView). IsLater v.entries c.args.entry) (sym c.self.view_is) c.requires.later)),
  grind (arith, c.push_reserved.ensures.len, c.push_reserved.ensures.capacity, c.requires.room, c.self.view_is),
)
