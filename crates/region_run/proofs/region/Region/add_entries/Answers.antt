use Rattle.std.proofs.Common.{◌+◌, ◌-◌, ◌*◌, ◌∙◌, ap, arith, refl, ℕ, Bool, if◌then◌else◌}
use Rattle.std.specs.Prelude.{max}
use Rattle.region_run.proofs.Spares.{less}
use Rattle.region_run.proofs.Works.{works_none, works_then, works_sent_on}
use Rattle.region_run.proofs.region.Region.add_entries.Goals as goal

pub loop-added-init : goal.loop-added-init
loop-added-init c =
    record {
      works = λ x g. works_none c.args.plan.now c.args.cut.now c.args.until x c.args.self.now c.args.quota g;
      few = omega arith;
      most = omega arith;
      sent = λ h. absurd (omega (arith, h));
      totals = refl;
      spare = λ m h. less (m + (0 + 0)) m c.args.self.now (omega arith) h;
    }

pub add_one-heard-requires-clause-region : goal.add_one-heard-requires-clause-region
add_one-heard-requires-clause-region c = let w = c.requires.region in (w.0, (c.loop-added.invariant.works w.0 w.1).hears.run.region)

pub add_one-heard-requires-clause-spare : goal.add_one-heard-requires-clause-spare
add_one-heard-requires-clause-spare c =
    let t = c.loop-added.taken in
    let a = c.loop-added.added in
    c.loop-added.invariant.spare (c.args.quota - t + 1) (less (2 * c.args.quota) (c.args.quota - t + 1 + (t + a)) c.args.self.now (omega (arith, c.loop-added.invariant.few, c.loop-added-test.true)) c.requires.spare)

pub loop-added-preserved : goal.loop-added-preserved
loop-added-preserved c =
    let t = c.loop-added.taken in
    let a = c.loop-added.added in
    let q = c.args.quota in
    let one = ap {B = ℕ} (λ (t : Bool). if t then 1 else 0) c.if-not-made.false in
    record {
      works = λ x g.
          let before = c.loop-added.invariant.works x g in
          works_then c.args.plan.now c.args.cut.now c.args.until x c.args.self.now c.loop-added.self c.add_one-heard.new.self q a t a (q - t) (if c.add_one-heard.result.1 then 1 else 0) c.add_one-heard.result.0 1 q (a + 1) (t + c.add_one-heard.result.0) (a + 1)
          g (omega (arith, one)) refl (omega (arith, c.add_one-heard.ensures.few, c.loop-added.invariant.few)) (λ p k h1 h2 h. omega (arith, h1, h2, h)) before (c.add_one-heard.ensures.works x before.hears.run.region);
      few = omega (arith, c.add_one-heard.ensures.few, c.loop-added.invariant.few);
      most = omega (arith, c.loop-added-test.true);
      sent = λ h. let w = c.requires.region in works_sent_on c.args.plan.now c.args.cut.now c.args.until w.0 q a t a c.args.self.now c.loop-added.self c.add_one-heard.new.self (c.loop-added.invariant.works w.0 w.1) c.add_one-heard.ensures.sent;
      totals = c.add_one-heard.ensures.totals ∙ c.loop-added.invariant.totals;
      spare = λ m h. c.add_one-heard.ensures.spare m (c.loop-added.invariant.spare (m + (c.add_one-heard.result.0 + 1)) (less (m + (t + c.add_one-heard.result.0 + (a + 1))) (m + (c.add_one-heard.result.0 + 1) + (t + a)) c.args.self.now (omega arith) h));
    }

pub returns-then-not-made-clause-works : goal.returns-then-not-made-clause-works
returns-then-not-made-clause-works c x g =
    let t = c.loop-added.taken in
    let a = c.loop-added.added in
    let q = c.args.quota in
    let none = ap {B = ℕ} (λ (t : Bool). if t then 1 else 0) c.if-not-made.true in
    let before = c.loop-added.invariant.works x g in
    works_then c.args.plan.now c.args.cut.now c.args.until x c.args.self.now c.loop-added.self c.add_one-heard.new.self q a t a (q - t) (if c.add_one-heard.result.1 then 1 else 0) c.add_one-heard.result.0 1 q a (t + c.add_one-heard.result.0) (max 1 a)
    g (omega (arith, none)) refl (omega (arith, c.add_one-heard.ensures.few, c.loop-added.invariant.few)) (λ p k h1 h2 h. omega (arith, h1, h2, h)) before (c.add_one-heard.ensures.works x before.hears.run.region)

pub returns-then-not-made-clause-end : goal.returns-then-not-made-clause-end
returns-then-not-made-clause-end c x g low = c.add_one-heard.ensures.end x (c.loop-added.invariant.works x g).hears.run.region c.if-not-made.true

pub returns-clause-works : goal.returns-clause-works
returns-clause-works c x g =
    let t = c.loop-added.taken in
    let a = c.loop-added.added in
    let q = c.args.quota in
    let before = c.loop-added.invariant.works x g in
    works_then c.args.plan.now c.args.cut.now c.args.until x c.args.self.now c.loop-added.self c.loop-added.self q a t a 0 0 0 0 q a t (max 1 a) g (omega arith) (omega arith) c.loop-added.invariant.few
    (λ p k h1 h2 h. omega (arith, h1, h, c.loop-added-test.false, c.requires.at_least)) before (works_none c.args.plan.now c.args.cut.now c.args.until x c.loop-added.self 0 before.hears.run.region)

pub returns-then-not-made-clause-sent : goal.returns-then-not-made-clause-sent
returns-then-not-made-clause-sent c =
    let w = c.requires.region in
    works_sent_on c.args.plan.now c.args.cut.now c.args.until w.0 c.args.quota c.loop-added.added c.loop-added.taken c.loop-added.added c.args.self.now c.loop-added.self c.add_one-heard.new.self (c.loop-added.invariant.works w.0 w.1) c.add_one-heard.ensures.sent

pub returns-clause-sent : goal.returns-clause-sent
returns-clause-sent c = c.loop-added.invariant.sent (omega (arith, c.loop-added-test.false, c.requires.at_least))
