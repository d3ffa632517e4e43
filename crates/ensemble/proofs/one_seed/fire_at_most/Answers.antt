use Rattle.std.proofs.Common.{◌≡◌, ℕ, sym, subst, arith}
use Rattle.one_engine.specs.State.{State}
use Rattle.ensemble.specs.Running.{HasFired}
use Rattle.ensemble.proofs.Firing.{fired_start, fired_more, fired_out}
use Rattle.ensemble.proofs.one_seed.fire_at_most.Goals as goal

pub loop-events-init : goal.loop-events-init
loop-events-init c = fired_start c.args.until c.args.engine.now

pub loop-events-preserved : goal.loop-events-preserved
loop-events-preserved c =
    let i = c.loop-events.events in
    fired_more c.args.until i i c.loop-events.last c.args.engine.now c.loop-events.engine c.fire.new.self c.in-Some.event c.loop-events.invariant c.in-Some.ensures.history c.in-Some.ensures.state

pub returns-in-None : goal.returns-in-None
returns-in-None c =
    let i = c.loop-events.events in
    subst (λ (x : State). HasFired c.args.until c.args.limit c.args.engine.now x i c.loop-events.last) (sym c.in-None.ensures.state)
    (fired_out c.args.until i c.args.limit i c.loop-events.last c.args.engine.now c.loop-events.engine c.loop-events.invariant (omega (arith, c.loop-events-test.true)) c.in-None.ensures.history)

pub returns : goal.returns
returns c =
    let all : c.loop-events.events ≡ c.args.limit = omega (arith, c.loop-events-test.false) in
    subst (λ (k : ℕ). HasFired c.args.until k c.args.engine.now c.loop-events.engine k c.loop-events.last) all c.loop-events.invariant
