use Rattle.std.proofs.Common.{◌+◌, subst, ap, arith, ℕ, Bool, if◌then◌else◌}
use Rattle.region_run.specs.Hearing.{Asks}
use Rattle.region_run.proofs.Spares.{less}
use Rattle.region_run.proofs.Works.{works_first, works_second}
use Rattle.region_run.proofs.region.Region.hear_one.Goals as goal

pub hear_second-requires-clause-region : goal.hear_second-requires-clause-region
hear_second-requires-clause-region c =
    let w = c.requires.region in
    (w.0, w.1, (c.hear_first.ensures.asks w.0 w.1 w.2).hears.run.region)

pub hear_second-requires-clause-spare : goal.hear_second-requires-clause-spare
hear_second-requires-clause-spare c =
    let none = ap {B = ℕ} (λ (t : Bool). if t then 1 else 0) c.if-hear_first.false in
    c.hear_first.ensures.spare 1 (less 1 (1 + (if c.hear_first.result then 1 else 0)) c.args.self.now (omega (arith, none)) c.requires.spare)

pub returns-then-hear_first-clause-works : goal.returns-then-hear_first-clause-works
returns-then-hear_first-clause-works c until x g =
    works_first c.args.plan.now c.args.cut.now until x c.args.self.now c.hear_first.new.self
    (subst (λ t. Asks c.args.plan.now c.args.cut.now until x c.args.self.now 1 0 t c.hear_first.new.self) c.if-hear_first.true (c.hear_first.ensures.asks until x g))

pub returns-then-hear_first-clause-spare : goal.returns-then-hear_first-clause-spare
returns-then-hear_first-clause-spare c m h =
    let one = ap {B = ℕ} (λ (t : Bool). if t then 1 else 0) c.if-hear_first.true in
    c.hear_first.ensures.spare m (less (m + 1) (m + (if c.hear_first.result then 1 else 0)) c.args.self.now (omega (arith, one)) h)

pub returns-clause-works : goal.returns-clause-works
returns-clause-works c until x g =
    let asks = c.hear_first.ensures.asks until x g in
    works_second c.args.plan.now c.args.cut.now until x c.args.self.now c.hear_first.new.self c.hear_second.new.self c.hear_second.result g
    (subst (λ t. Asks c.args.plan.now c.args.cut.now until x c.args.self.now 1 0 t c.hear_first.new.self) c.if-hear_first.false asks)
    (c.hear_second.ensures.asks until x asks.hears.run.region)

pub returns-clause-spare : goal.returns-clause-spare
returns-clause-spare c m h =
    let none = ap {B = ℕ} (λ (t : Bool). if t then 1 else 0) c.if-hear_first.false in
    c.hear_second.ensures.spare m (c.hear_first.ensures.spare (m + (if c.hear_second.result then 1 else 0)) (less (m + (if c.hear_second.result then 1 else 0)) (m + (if c.hear_second.result then 1 else 0) + (if c.hear_first.result then 1 else 0)) c.args.self.now (omega (arith, none)) h))
