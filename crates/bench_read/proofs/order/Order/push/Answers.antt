use Rattle.std.proofs.Common.{◌≡◌, ◌<◌, ◌≤◌, ◌++◌, ◌∷◌, [], length, slice_set, ap, sym, ◌∙◌, subst, arith, false}
use Rattle.std.proofs.lemmas.List.{length-set}
use Rattle.bench_read.specs.Order.{is_placed}
use Rattle.bench_read.specs.Placing.{OrderView, AreLocated}
use Rattle.bench_read.proofs.Located.{located-more}
use Rattle.bench_read.proofs.order.Order.push.Goals as goal

pub invariant_of-self-2 : goal.invariant_of-self-2
invariant_of-self-2 c =
    let places = c.self.inside.places.items in
    let order = c.self.inside.placed.items in
    let lt : c.args.item < length places = subst (λ (v : OrderView). c.args.item < v.count) (sym c.self.view_is) c.requires.item in
    let new : is_placed order c.args.item ≡ false = subst (λ (v : OrderView). is_placed v.placed c.args.item ≡ false) (sym c.self.view_is) c.requires.unplaced in
    let room : length order < 131072 = subst (λ (v : OrderView). length v.placed < 131072) (sym c.self.view_is) c.requires.room in
    let place : c.len-place.result ≡ length order = c.len-place.ensures ∙ c.self.inside.placed.ok.0 in
    let items : c.push.new.self.items ≡ order ++ c.args.item ∷ [] = c.in_ok-push.ensures.items in
    let small : length (slice_set places c.args.item c.len-place.result) ≤ 65536 = omega (arith, length-set places c.args.item c.len-place.result, c.self.invariant.0) in
    (small, rw (items, place) (located-more order places c.args.item c.self.invariant.1 lt new room))
