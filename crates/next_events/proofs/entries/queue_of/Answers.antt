use Rattle.std.proofs.Common.{sym, ap, ◌∙◌}
use Rattle.lattice.specs.Places.{sites_of}
use Rattle.next_events.proofs.Filling.{Filled, filled_more, filled_none}
use Rattle.next_events.proofs.entries.queue_of.Goals as goal
use Rattle.next_events.proofs.entries.queue_of.Goals.{in-Some, in_default}

pub loop-number-preserved : goal.loop-number-preserved
loop-number-preserved c =
    let i = c.loop-number.invariant in
    let n = c.args.plan.now in
    let sites = c.args.surface.now.sites in
    let number = c.loop-number.number in
    let before : Filled n sites c.args.range c.loop-number.queue number = record { covers = i.covers; low = i.low; entries = i.entries; empty = i.empty } in
    elim c.match-sites_of.branch [
      | in-Some w ↦
          (let f = filled_more n sites c.args.range c.loop-number.queue number c.loop-number-test.true before in
          rw (w.queue-is, w.set_next.ensures) (record { covers = f.covers; low = f.low; entries = f.entries; empty = f.empty }))
      | in_default w ↦
          (let none = ap (λ l. sites_of l number) (sym c.lattice-in-loop-number.ensures) ∙ sym c.sites_of.ensures ∙ w.in_default.is in
          let f = filled_none n sites c.args.range c.loop-number.queue number none before in
          rw w.queue-is (record { covers = f.covers; low = f.low; entries = f.entries; empty = f.empty }))
    ]
