use Rattle.std.proofs.Common.{◌+◌, arith, if◌then◌else◌}
use Rattle.region_run.proofs.Spares.{less}
use Rattle.region_run.proofs.Works.{works_then, works_on, works_sent, on_to_end, flushed_end, flushed_spare, sent_after}
use Rattle.region_run.proofs.region.Region.add_one.Goals as goal

pub hear-taken-requires-clause-region : goal.hear-taken-requires-clause-region
hear-taken-requires-clause-region c = let w = c.requires.region in (c.args.until, w.0, w.1)

pub hear-taken-requires-clause-spare : goal.hear-taken-requires-clause-spare
hear-taken-requires-clause-spare c = less (c.args.most + 1) c.args.most c.args.self.now (omega arith) c.requires.spare

pub step-made-requires-clause-region : goal.step-made-requires-clause-region
step-made-requires-clause-region c = let w = c.requires.region in (w.0, (c.hear-taken.ensures.works c.args.until w.0 w.1).hears.run.region)

pub step-made-requires-clause-spare : goal.step-made-requires-clause-spare
step-made-requires-clause-spare c = c.hear-taken.ensures.spare 1 (less (c.args.most + 1) (1 + c.hear-taken.result) c.args.self.now (omega (arith, c.hear-taken.ensures.few)) c.requires.spare)

pub returns-clause-works : goal.returns-clause-works
returns-clause-works c x g =
    let n = c.args.plan.now in
    let b = c.args.cut.now in
    let u = c.args.until in
    let r = c.args.self.now in
    let mid = c.hear-taken.new.self in
    let last = c.step-made.new.self in
    let heard = c.hear-taken.ensures.works u x g in
    let made = works_on n b u x mid last c.step-made.result heard.hears.run.region (c.step-made.ensures.steps x heard.hears.run.region) c.step-made.ensures.rings in
    let both = works_then n b u x r mid last c.args.most 0 c.hear-taken.result 1 0 (if c.step-made.result then 1 else 0) 0 0 c.args.most (if c.step-made.result then 1 else 0) c.hear-taken.result 1
    g (omega arith) (omega arith) c.hear-taken.ensures.few (λ p q h1 h2 h. omega (arith, h1, h)) heard made in
    works_then n b u x r last _ c.args.most (if c.step-made.result then 1 else 0) c.hear-taken.result 1 0 0 0 0 c.args.most (if c.step-made.result then 1 else 0) c.hear-taken.result 1
    g (omega arith) (omega arith) c.hear-taken.ensures.few (λ p q h1 h2 h. omega (arith, h1, h)) both
    (works_sent last c.flush_side.new.side c.flush_side-2.new.side c.flush_side.ensures c.flush_side-2.ensures n b u x both.hears.run.region)

pub returns-clause-end : goal.returns-clause-end
returns-clause-end c x g e =
    let heard = c.hear-taken.ensures.works c.args.until x g in
    flushed_end c.step-made.new.self c.flush_side.new.side c.flush_side-2.new.side c.flush_side.ensures c.flush_side-2.ensures c.args.plan.now c.args.cut.now c.args.until x
    (on_to_end c.args.plan.now c.args.cut.now c.args.until x c.hear-taken.new.self c.step-made.new.self c.step-made.result (c.step-made.ensures.steps x heard.hears.run.region) e)

pub returns-clause-spare : goal.returns-clause-spare
returns-clause-spare c m h =
    flushed_spare c.step-made.new.self c.flush_side.new.side c.flush_side-2.new.side c.flush_side.ensures c.flush_side-2.ensures m
    (c.step-made.ensures.spare m (c.hear-taken.ensures.spare (m + 1) (less (m + (c.hear-taken.result + 1)) (m + 1 + c.hear-taken.result) c.args.self.now (omega arith) h)))

pub returns-clause-sent : goal.returns-clause-sent
returns-clause-sent c =
    let w = c.requires.region in
    let r = c.args.self.now in
    let mid = c.hear-taken.new.self in
    let last = c.step-made.new.self in
    let heard = (c.hear-taken.ensures.works c.args.until w.0 w.1).hears in
    let rings = c.step-made.ensures.rings in (
      sent_after r.first mid.first last.first c.flush_side.new.side heard.ops1 _ heard.first rings.0 c.flush_side.ensures,
      sent_after r.second mid.second last.second c.flush_side-2.new.side heard.ops2 _ heard.second rings.1 c.flush_side-2.ensures,
    )
