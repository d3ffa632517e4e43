use Rattle.std.proofs.Common.{sym, ◌∙◌}
use Rattle.run_writer.proofs.Sampling.{ticks_step}
use Rattle.run_writer.proofs.ticks.Ticks.before.Goals as goal

pub returns-in-Some : goal.returns-in-Some
returns-in-Some c =
    let i = c.self.inside in
    (c.if-tick-time.true, sym c.self.view_is ∙ (ticks_step i.until i.samples i.number c.in-Some.tick (sym c.in-Some.is ∙ c.self.invariant.is)).1)
