use Rattle.std.proofs.Common.{◌≡◌, ℕ, ◌+◌, ◌<◌, ◌++◌, ◌∷◌, [], length, map, take, get_or, ap, sym, ◌∙◌, subst, arith, append-nil}
use Rattle.std.specs.List.{All}
use Rattle.std.proofs.lemmas.List.{length-map, take_more}
use Rattle.std.proofs.lemmas.Grind.{flat_map-append}
use Rattle.bench_read.specs.Order.{item_at, operands_at}
use Rattle.bench_read.specs.Netlists.{gates_for, gates_among}
use Rattle.bench_read.specs.Readings.{item_of, gate_of}
use Rattle.bench_read.proofs.Items.{item-here}
use Rattle.bench_read.proofs.bench.gates_of.Goals as goal

pub push_gate-requires-clause-within : goal.push_gate-requires-clause-within
push_gate-requires-clause-within c =
    let items = c.args.items.now in
    let numbers = c.placed-number-items.result.now in
    let n = get_or numbers c.loop-number.number-index 0 in
    let long : length (map item_of items) ≡ length items = length-map items item_of in
    let below : c.loop-number.number-index < length numbers = omega arith in
    let bound : All (λ d. d < length items) numbers = subst (All (λ d. d < length items)) (sym c.placed-number-items.ensures) c.requires.bound in
    let lt : n < length items = bound c.loop-number.number-index 0 below in
    let here : item_at (map item_of items) n ≡ item_of c.index-items-number.result = item-here items n c.index-items-number.result lt c.index-items-number.is in
    let all : All (λ y. y < length (map item_of items)) (operands_at (item_of c.index-items-number.result))
    = subst (λ x. All (λ y. y < length (map item_of items)) (operands_at x)) here (c.requires.within n (omega (arith, long, lt))) in
    λ k d l. omega (arith, all k d l, long, c.requires.count)

pub loop-number-preserved : goal.loop-number-preserved
loop-number-preserved c =
    let items = c.args.items.now in
    let numbers = c.placed-number-items.result.now in
    let placed = c.args.order.now.placed in
    let i = c.loop-number.number-index in
    let n = get_or numbers i 0 in
    let below : i < length numbers = omega arith in
    let bound : All (λ d. d < length items) numbers = subst (All (λ d. d < length items)) (sym c.placed-number-items.ensures) c.requires.bound in
    let lt : n < length items = bound i 0 below in
    let here : item_at (map item_of items) n ≡ item_of c.index-items-number.result = item-here items n c.index-items-number.result lt c.index-items-number.is in
    let same : get_or placed i 0 ≡ n = ap (λ xs. get_or xs i 0) (sym c.placed-number-items.ensures) in
    let within : i < length placed = omega (arith, below, ap length c.placed-number-items.ensures) in
    let more : take (i + 1) placed ≡ take i placed ++ n ∷ [] = take_more placed i 0 within ∙ ap (λ m. take i placed ++ m ∷ []) same in
    c.in_ok-push_gate.ensures ∙ ap (λ gs. gs ++ gates_for placed (item_of c.index-items-number.result)) c.loop-number.invariant
    ∙ ap (λ x. gates_among (map item_of items) placed (take i placed) ++ gates_for placed x) (sym here)
    ∙ ap (λ gs. gates_among (map item_of items) placed (take i placed) ++ gs) (sym (append-nil (gates_for placed (item_at (map item_of items) n))))
    ∙ sym (flat_map-append (λ d. gates_for placed (item_at (map item_of items) d)) (take i placed) (n ∷ []))
    ∙ ap (gates_among (map item_of items) placed) (sym more)
