use Rattle.std.proofs.Common.{◌≡◌, ◌<◌, ◌≤◌, ◌++◌, ◌∷◌, [], cond, length, map, sym, ap, ◌∙◌, arith, false}
use Rattle.bench_read.specs.Order.{is_placed, is_input, item_at}
use Rattle.bench_read.specs.Placing.{OrderView}
use Rattle.bench_read.specs.Readings.{item_of}
use Rattle.bench_read.proofs.Items.{item-here}
use Rattle.bench_read.proofs.Steps.{first_inputs, inputs-below, inputs-few, inputs-next}
use Rattle.bench_read.proofs.placing.place_inputs.Goals as goal

pub place_input-requires-clause-unplaced : goal.place_input-requires-clause-unplaced
place_input-requires-clause-unplaced c =
    ap (λ xs. is_placed xs c.loop-number.number) c.loop-number.invariant.placed ∙ inputs-below (map item_of c.args.items.now) c.loop-number.number c.loop-number.number (omega arith)

pub place_input-requires-clause-room : goal.place_input-requires-clause-room
place_input-requires-clause-room c =
    omega (arith, ap length c.loop-number.invariant.placed, inputs-few (map item_of c.args.items.now) c.loop-number.number, c.requires.few)

pub loop-number-preserved : goal.loop-number-preserved
loop-number-preserved c =
    let items = c.args.items.now in
    let n = c.loop-number.number in
    let lt : n < length items = omega arith in
    let here : item_at (map item_of items) n ≡ item_of c.index-items-number.result = item-here items n c.index-items-number.result lt c.index-items-number.is in
    record {
      count = ap (λ (v : OrderView). v.count) c.in_ok-place_input.ensures ∙ c.loop-number.invariant.count;
      placed = ap (λ (v : OrderView). v.placed) c.in_ok-place_input.ensures
          ∙ ap (λ xs. xs ++ cond (is_input (item_of c.index-items-number.result)) (n ∷ []) []) c.loop-number.invariant.placed
          ∙ sym (inputs-next (map item_of items) n (item_of c.index-items-number.result) here);
    }
