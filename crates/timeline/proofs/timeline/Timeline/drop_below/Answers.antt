use Rattle.std.proofs.Common.{length, sym, ap, subst, arith}
use Rattle.timeline.proofs.Rising.{Rise, rise_from, lengths}
use Rattle.timeline.specs.Led.{LedTo}
use Rattle.timeline.proofs.Leading.{cut}
use Rattle.timeline.proofs.timeline.Timeline.drop_below.Goals as goal

pub invariant_of-self : goal.invariant_of-self
invariant_of-self c =
    let entries = c.self.inside.entries.items in (
      subst Rise (sym c.forget_below.ensures.entries) (rise_from c.args.key entries c.self.invariant.0),
      omega (arith, c.forget_below.ensures.capacity, c.self.invariant.1, ap length c.forget_below.ensures.entries, lengths c.args.key entries),
    )

pub returns-clause-led : goal.returns-clause-led
returns-clause-led c = rw (← c.self.view_is) (λ base now led.
    let entries = c.self.inside.entries.items in
    let mid = cut c.args.key base now entries c.self.invariant.0 led in
    (mid.0, mid.1, subst (λ l. LedTo mid.0 l now) (sym c.forget_below.ensures.entries) mid.2))

pub returns-clause-spare : goal.returns-clause-spare
returns-clause-spare c =
    rw (← c.self.view_is)
    (omega (arith, c.forget_below.ensures.capacity, c.self.invariant.1, ap length c.forget_below.ensures.entries, lengths c.args.key c.self.inside.entries.items))
