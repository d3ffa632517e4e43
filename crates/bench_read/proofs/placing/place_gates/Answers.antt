use Rattle.std.proofs.Common.{◌≡◌, ℕ, ◌+◌, ◌-◌, ◌<◌, ◌≤◌, ◌++◌, ◌∷◌, [], suc, length, map, ap, sym, ◌∙◌, subst, arith}
use Rattle.std.specs.List.{All}
use Rattle.std.proofs.lemmas.List.{length-map, length-append}
use Rattle.bench_read.specs.Order.{inputs_of, next_of, placed_after, order_of}
use Rattle.bench_read.specs.Placing.{OrderView, Covers}
use Rattle.bench_read.specs.Readings.{item_of}
use Rattle.bench_read.proofs.Steps.{inputs-few, placed-done, placed-step, placed-none, same-order}
use Rattle.bench_read.proofs.placing.place_gates.Goals as goal

pub loop-init : goal.loop-init
loop-init c =
    let items = map item_of c.args.items.now in
    let long : length items ≡ length c.args.items.now = length-map c.args.items.now item_of in
    let placed : c.args.inputs.placed ≡ inputs_of items = ap (λ (v : OrderView). v.placed) c.requires.inputs in
    let count : length c.args.items.now - 0 ≡ length items = omega (arith, long) in
    record {
      count = ap (λ (v : OrderView). v.count) c.requires.inputs;
      few = omega (arith, ap length placed, inputs-few items (length items), long);
      rest = ap (λ k. placed_after k items c.args.inputs.placed) count ∙ ap (placed_after (length items) items) placed;
      covers = c.in_ok-ready.ensures.covers;
      bound = c.in_ok-ready.ensures.bound;
    }

pub returns-in_default : goal.returns-in_default
returns-in_default c =
    let items = map item_of c.args.items.now in
    let none : next_of items c.loop.order.placed ≡ length items = c.in_default.ensures.none ∙ sym (length-map c.args.items.now item_of) in
    same-order c.loop.order (length c.args.items.now) (order_of items) c.loop.invariant.count
    (sym (placed-done (length c.args.items.now - c.loop.counter) items c.loop.order.placed none) ∙ c.loop.invariant.rest)

pub loop-preserved : goal.loop-preserved
loop-preserved c =
    let items = map item_of c.args.items.now in
    let long : length items ≡ length c.args.items.now = length-map c.args.items.now item_of in
    let d = c.in-Some.number in
    let left = length c.args.items.now - (c.loop.counter + 1) in
    let placed : c.place.new.order.placed ≡ c.loop.order.placed ++ d ∷ [] = ap (λ (v : OrderView). v.placed) c.in_ok-place.ensures.placed in
    let step : length c.args.items.now - c.loop.counter ≡ suc left = omega arith in
    let lt : d < length items = omega (arith, c.in-Some.ensures.within, long) in
    record {
      count = ap (λ (v : OrderView). v.count) c.in_ok-place.ensures.placed ∙ c.loop.invariant.count;
      few = omega (arith, ap length placed, length-append c.loop.order.placed (d ∷ []), c.loop.invariant.few);
      rest = ap (placed_after left items) placed ∙ sym (placed-step left items c.loop.order.placed d c.in-Some.ensures.some lt)
          ∙ ap (λ k. placed_after k items c.loop.order.placed) (sym step) ∙ c.loop.invariant.rest;
      covers = subst (λ xs. Covers items xs c.place.new.ready) (sym placed) c.in_ok-place.ensures.covers;
      bound = c.in_ok-place.ensures.bound;
    }

pub returns : goal.returns
returns c =
    let items = map item_of c.args.items.now in
    let none : length c.args.items.now - c.loop.counter ≡ 0 = omega arith in
    same-order c.loop.order (length c.args.items.now) (order_of items) c.loop.invariant.count
    (sym (placed-none items c.loop.order.placed) ∙ ap (λ k. placed_after k items c.loop.order.placed) (sym none) ∙ c.loop.invariant.rest)
