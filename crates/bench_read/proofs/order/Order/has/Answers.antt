use Rattle.std.proofs.Common.{◌≡◌, ◌<◌, length, not, ◌==◌, ap, sym, ◌∙◌, subst, arith, get_or}
use Rattle.std.proofs.lemmas.List.{get_or_read}
use Rattle.bench_read.specs.Order.{is_placed}
use Rattle.bench_read.specs.Placing.{OrderView}
use Rattle.bench_read.proofs.Located.{marked}
use Rattle.bench_read.proofs.order.Order.has.Goals as goal

pub returns : goal.returns
returns c =
    let places = c.self.inside.places.items in
    let order = c.self.inside.placed.items in
    let lt : c.args.item < length places = subst (λ (v : OrderView). c.args.item < v.count) (sym c.self.view_is) c.requires in
    let read : c.index.result.now ≡ get_or places c.args.item 0 = get_or_read places _ _ lt c.index.ensures 0 in
    ap (λ n. not (n == 4294967295)) read ∙ marked order places c.args.item c.self.invariant.1 lt ∙ ap (λ (v : OrderView). is_placed v.placed c.args.item) c.self.view_is
