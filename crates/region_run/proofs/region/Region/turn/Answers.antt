use Rattle.std.proofs.Common.{◌<◌, sym, subst, arith}
use Rattle.std.specs.Prelude.{max}
use Rattle.region_run.specs.Hearing.{Works}
use Rattle.region_run.specs.Turns.{IsSent, AreSent}
use Rattle.region_run.proofs.Works.{works_then, no_longer, whole_quota, is_turn}
use Rattle.region_run.proofs.region.Region.turn.Goals as goal

pub add_entries-added-requires-clause-region : goal.add_entries-added-requires-clause-region
add_entries-added-requires-clause-region c = c.requires.region

pub end-empty-requires : goal.end-empty-requires
end-empty-requires c = let w = c.requires.region in record { region = (c.args.plan.now, c.args.cut.now, w.0, (c.add_entries-added.ensures.works w.0 w.1).hears.run.region) }

pub overflow_sub-turn : goal.overflow_sub-turn
overflow_sub-turn c =
    let w = c.requires.region in
    let n = c.args.plan.now in
    let b = c.args.cut.now in
    let mid = c.add_entries-added.new.self in
    let work = c.add_entries-added.ensures.works w.0 w.1 in
    let rest = c.end-empty.ensures.works n b w.0 work.hears.run.region in
    let one = no_longer n b c.args.until w.0 c.from.result c.add_entries-added.result.0 c.add_entries-added.result.1 (max 1 c.add_entries-added.result.0) c.args.self.now mid work in
    let two = no_longer n b c.args.until w.0 0 0 0 0 mid c.end-empty.new.self rest in
    omega (arith, one, two, c.entry_count-before.ensures.count, c.entry_count-after.ensures.count)

pub returns-clause-turn : goal.returns-clause-turn
returns-clause-turn c x g =
    let n = c.args.plan.now in
    let b = c.args.cut.now in
    let u = c.args.until in
    let r = c.args.self.now in
    let mid = c.add_entries-added.new.self in
    let last = c.end-empty.new.self in
    let added = c.add_entries-added.result.0 in
    let taken = c.add_entries-added.result.1 in
    let q = c.args.quota in
    let p = c.from.result in
    let work = c.add_entries-added.ensures.works x g in
    let rest = c.end-empty.ensures.works n b x work.hears.run.region in
    let left = c.end-empty.ensures.left n b x work.hears.run.region in
    let both : Works n b u x q r added taken (max 1 added) last = works_then n b u x r mid last p added taken (max 1 added) 0 0 0 0 q added taken (max 1 added) g (omega arith) (omega arith) (omega (arith, work.few)) (λ j k h1 h2 h. let few : taken < p = omega (arith, h) in let asked = h1 few in omega (arith, asked)) work rest in
    let long = no_longer n b u x q added taken (max 1 added) r last both in
    let sides = c.end-empty.ensures.sides in
    let sent : AreSent r last = (subst (IsSent r.first) (sym sides.0) c.add_entries-added.ensures.sent.0, subst (IsSent r.second) (sym sides.1) c.add_entries-added.ensures.sent.1) in
    is_turn n b u x q r last _ _ g both (omega (arith, c.add_entries-added.ensures.most)) (λ h. let all = whole_quota n b u x mid last added p c.end-empty.result c.add_entries-added.ensures.most (c.add_entries-added.ensures.end x g) c.end-empty.ensures.same left h in omega (arith, all)) left
    (omega (arith, long, c.entry_count-before.ensures.count, c.entry_count-after.ensures.count)) sent
