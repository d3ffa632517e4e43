use Rattle.std.proofs.Common.{◌+◌, ◌∙◌, ap, arith, refl, ℕ, Bool, if◌then◌else◌}
use Rattle.region_run.proofs.Spares.{less}
use Rattle.region_run.proofs.Works.{works_none, works_then}
use Rattle.region_run.proofs.region.Region.hear.Goals as goal

pub loop-taken-init : goal.loop-taken-init
loop-taken-init c =
    record {
      works = λ until x g. works_none c.args.plan.now c.args.cut.now until x c.args.self.now 0 g;
      few = omega arith;
      totals = refl;
      spare = λ m h. less (m + 0) m c.args.self.now (omega arith) h;
    }

pub hear_one-requires-clause-region : goal.hear_one-requires-clause-region
hear_one-requires-clause-region c =
    let w = c.requires.region in
    (w.0, w.1, (c.loop-taken.invariant.works w.0 w.1 w.2).hears.run.region)

pub hear_one-requires-clause-spare : goal.hear_one-requires-clause-spare
hear_one-requires-clause-spare c = c.loop-taken.invariant.spare 1 (less c.args.most (1 + c.loop-taken.taken) c.args.self.now (omega (arith, c.loop-taken-test.true)) c.requires.spare)

pub loop-taken-preserved : goal.loop-taken-preserved
loop-taken-preserved c =
    let k = c.loop-taken.taken in
    let one = ap {B = ℕ} (λ (t : Bool). if t then 1 else 0) c.if-not-hear_one.false in
    record {
      works = λ until x g.
          let before = c.loop-taken.invariant.works until x g in
          works_then c.args.plan.now c.args.cut.now until x c.args.self.now c.loop-taken.self c.hear_one.new.self k 0 k 0 1 0 (if c.hear_one.result then 1 else 0) 1 (k + 1) 0 (k + 1) 0 g refl (omega (arith, one)) (omega arith) (λ p q h1 h2 h. omega arith)
          before (c.hear_one.ensures.works until x before.hears.run.region);
      few = omega (arith, c.loop-taken-test.true);
      totals = c.hear_one.ensures.totals ∙ c.loop-taken.invariant.totals;
      spare = λ m h.
          c.hear_one.ensures.spare m (c.loop-taken.invariant.spare (m + (if c.hear_one.result then 1 else 0)) (less (m + (k + 1)) (m + (if c.hear_one.result then 1 else 0) + k) c.args.self.now (omega (arith, one)) h));
    }

pub returns-then-not-hear_one-clause-works : goal.returns-then-not-hear_one-clause-works
returns-then-not-hear_one-clause-works c until x g =
    let k = c.loop-taken.taken in
    let none = ap {B = ℕ} (λ (t : Bool). if t then 1 else 0) c.if-not-hear_one.true in
    let before = c.loop-taken.invariant.works until x g in
    works_then c.args.plan.now c.args.cut.now until x c.args.self.now c.loop-taken.self c.hear_one.new.self k 0 k 0 1 0 (if c.hear_one.result then 1 else 0) 1 c.args.most 0 k 1 g refl (omega (arith, none)) (omega (arith, c.loop-taken-test.true))
    (λ p q h1 h2 h. omega (arith, h2, none)) before (c.hear_one.ensures.works until x before.hears.run.region)

pub returns-then-not-hear_one-clause-spare : goal.returns-then-not-hear_one-clause-spare
returns-then-not-hear_one-clause-spare c m h =
    let k = c.loop-taken.taken in
    let none = ap {B = ℕ} (λ (t : Bool). if t then 1 else 0) c.if-not-hear_one.true in
    c.hear_one.ensures.spare m (c.loop-taken.invariant.spare (m + (if c.hear_one.result then 1 else 0)) (less (m + k) (m + (if c.hear_one.result then 1 else 0) + k) c.args.self.now (omega (arith, none)) h))

pub returns-clause-works : goal.returns-clause-works
returns-clause-works c until x g =
    let k = c.loop-taken.taken in
    let before = c.loop-taken.invariant.works until x g in
    works_then c.args.plan.now c.args.cut.now until x c.args.self.now c.loop-taken.self c.loop-taken.self k 0 k 0 0 0 0 0 c.args.most 0 k 1 g refl (omega arith) c.loop-taken.invariant.few
    (λ p q h1 h2 h. omega (arith, h, c.loop-taken-test.false)) before (works_none c.args.plan.now c.args.cut.now until x c.loop-taken.self 0 before.hears.run.region)
