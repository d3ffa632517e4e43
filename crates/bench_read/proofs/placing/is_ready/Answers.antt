use Rattle.std.proofs.Common.{◌≡◌, ◌<◌, length, map, ap, sym, ◌∙◌, subst, arith}
use Rattle.std.specs.List.{All}
use Rattle.std.proofs.lemmas.List.{length-map}
use Rattle.bench_read.specs.Order.{GateNet, item_at, operands_at}
use Rattle.bench_read.specs.Readings.{item_of}
use Rattle.bench_read.proofs.Items.{item-here}
use Rattle.bench_read.proofs.placing.is_ready.Goals as goal

pub are_placed-requires : goal.are_placed-requires
are_placed-requires c =
    let items = c.args.items.now in
    let here : item_at (map item_of items) c.args.number ≡ GateNet c.in-Gate.op c.in-Gate.operands.items = item-here items c.args.number c.index-items-number.result c.requires.number c.index-items-number.is ∙ ap item_of c.in-Gate.is in
    let long : length (map item_of items) ≡ length items = length-map items item_of in
    let all : All (λ y. y < length (map item_of items)) c.in-Gate.operands.items
    = subst (λ x. All (λ y. y < length (map item_of items)) (operands_at x)) here (c.requires.within c.args.number (omega (arith, long, c.requires.number))) in
    let deref : All (λ y. y < length (map item_of items)) c.deref.result.now = subst (All (λ y. y < length (map item_of items))) (sym c.deref.ensures.value) all in
    λ k d lt. omega (arith, deref k d lt, long, c.requires.count)
