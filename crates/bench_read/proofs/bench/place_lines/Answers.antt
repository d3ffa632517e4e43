use Rattle.std.proofs.Common.{◌≡◌, ℕ, ◌<◌, ◌≤◌, List, length, map, get_or, Ok, Err, ap, sym, ◌∙◌, subst, arith}
use Rattle.std.specs.List.{All}
use Rattle.std.proofs.lemmas.List.{length-map, get_or_read}
use Rattle.bench_read.specs.declared.fault.BenchKind.TheVariants.{Cycle}
use Rattle.bench_read.specs.declared.fault.BenchFault.{BenchFault}
use Rattle.bench_read.specs.declared.second.Item.{Item as ItemValue}
use Rattle.bench_read.specs.Passes.{fault_at}
use Rattle.bench_read.specs.Order.{inputs_of, order_of, place_of, first_unplaced}
use Rattle.bench_read.specs.Placing.{OrderView}
use Rattle.bench_read.specs.Netlists.{Netlist, IsNetlist, gates_among, netlist_of}
use Rattle.bench_read.specs.Readings.{item_of}
use Rattle.bench_read.proofs.Steps.{inputs-few}
use Rattle.bench_read.proofs.Sound.{all-are-placed}
use Rattle.bench_read.proofs.Ends.{placed-fault, placed-ok, order-within}
use Rattle.bench_read.proofs.bench.place_lines.Goals as goal

pub returns-in-Some-clause-fault : goal.returns-in-Some-clause-fault
returns-in-Some-clause-fault c f e =
    let P : List ItemValue → Type 0 = λ xs. ◌≡◌ {A = OrderView} c.in-Ok.placement.order (record { count = length xs; placed = order_of (map item_of xs) }) in
    let order_is : P c.args.resolved.now.items.items = subst P c.deref.ensures.value c.in-Ok.ensures.order in
    let items = c.args.resolved.now.items.items in
    let lines = c.args.resolved.now.lines.items in
    let long : length (map item_of items) ≡ length items = length-map items item_of in
    let count : c.in-Ok.placement.order.count ≡ length items = ap (λ (v : OrderView). v.count) order_is in
    let first : first_unplaced (length (map item_of items)) (order_of (map item_of items)) ≡ c.in-Some.item
    = ap (λ n. first_unplaced n (order_of (map item_of items))) long ∙ sym (ap (λ (v : OrderView). first_unplaced v.count v.placed) order_is) ∙ sym c.in-Some.ensures.some in
    let at : c.index.result.now ≡ get_or lines c.in-Some.item 0 = get_or_read lines _ _ (omega (arith, c.in-Some.ensures.within, count, c.requires.lines)) c.index.ensures 0 in
    let same : fault_at c.index.result.now Cycle ≡ f = cc in
    placed-fault (map item_of items) lines c.args.resolved.now.outputs.items c.in-Some.item c.index.result.now first (omega (arith, c.in-Some.ensures.within, count, long)) at ∙ ap Err same

pub overflow_cast-placement : goal.overflow_cast-placement
overflow_cast-placement c =
    let Q : List ItemValue → Type 0 = λ xs. c.in-Ok.placement.inputs ≡ length (inputs_of (map item_of xs)) in
    let inputs_are : Q c.args.resolved.now.items.items = subst Q c.deref.ensures.value c.in-Ok.ensures.inputs in
    let items = map item_of c.args.resolved.now.items.items in
    omega (arith, inputs_are, inputs-few items (length items), length-map c.args.resolved.now.items.items item_of, c.requires.few)

pub netlist-requires-clause-whole : goal.netlist-requires-clause-whole
netlist-requires-clause-whole c = all-are-placed c.in-Ok.placement.order.count c.in-Ok.placement.order.placed c.in_default-first_unplaced.ensures.none

pub netlist-requires-clause-bound : goal.netlist-requires-clause-bound
netlist-requires-clause-bound c =
    let P : List ItemValue → Type 0 = λ xs. ◌≡◌ {A = OrderView} c.in-Ok.placement.order (record { count = length xs; placed = order_of (map item_of xs) }) in
    let order_is : P c.args.resolved.now.items.items = subst P c.deref.ensures.value c.in-Ok.ensures.order in
    let items = c.args.resolved.now.items.items in
    let placed : c.in-Ok.placement.order.placed ≡ order_of (map item_of items) = ap (λ (v : OrderView). v.placed) order_is in
    let all : All (λ d. d < length (map item_of items)) c.in-Ok.placement.order.placed = subst (All (λ d. d < length (map item_of items))) (sym placed) (order-within (map item_of items)) in
    λ k d lt. omega (arith, all k d lt, length-map items item_of)

pub netlist-requires-clause-sound : goal.netlist-requires-clause-sound
netlist-requires-clause-sound c =
    let P : List ItemValue → Type 0 = λ xs. ◌≡◌ {A = OrderView} c.in-Ok.placement.order (record { count = length xs; placed = order_of (map item_of xs) }) in
    let order_is : P c.args.resolved.now.items.items = subst P c.deref.ensures.value c.in-Ok.ensures.order in
    let Q : List ItemValue → Type 0 = λ xs. c.in-Ok.placement.inputs ≡ length (inputs_of (map item_of xs)) in
    let inputs_are : Q c.args.resolved.now.items.items = subst Q c.deref.ensures.value c.in-Ok.ensures.inputs in
    let items = map item_of c.args.resolved.now.items.items in
    let outputs = c.args.resolved.now.outputs.items in
    let order = c.in-Ok.placement.order in
    let long : length items ≡ length c.args.resolved.now.items.items = length-map c.args.resolved.now.items.items item_of in
    let placed : order.placed ≡ order_of items = ap (λ (v : OrderView). v.placed) order_is in
    let count : order.count ≡ length c.args.resolved.now.items.items = ap (λ (v : OrderView). v.count) order_is in
    let done : first_unplaced (length items) (order_of items) ≡ length items =
    ap (λ n. first_unplaced n (order_of items)) long ∙ sym (ap (λ (v : OrderView). first_unplaced v.count v.placed) order_is) ∙ c.in_default-first_unplaced.ensures.none ∙ count ∙ sym long in
    let made : Netlist = record { inputs = c.in-Ok.placement.inputs; gates = gates_among items order.placed order.placed; outputs = map (place_of order.placed) outputs } in
    let want : made ≡ netlist_of items (order_of items) outputs = λ i. record { inputs = inputs_are i; gates = gates_among items (placed i) (placed i); outputs = map (place_of (placed i)) outputs } in
    let done_here : first_unplaced (length c.args.resolved.now.items.items) (order_of items) ≡ length c.args.resolved.now.items.items = sym (ap (λ n. first_unplaced n (order_of items)) long) ∙ done ∙ long in
    subst IsNetlist (sym want) (c.requires.sound done_here)

pub returns-in-Ok-netlist-clause-ok : goal.returns-in-Ok-netlist-clause-ok
returns-in-Ok-netlist-clause-ok c =
    let P : List ItemValue → Type 0 = λ xs. ◌≡◌ {A = OrderView} c.in-Ok.placement.order (record { count = length xs; placed = order_of (map item_of xs) }) in
    let order_is : P c.args.resolved.now.items.items = subst P c.deref.ensures.value c.in-Ok.ensures.order in
    let Q : List ItemValue → Type 0 = λ xs. c.in-Ok.placement.inputs ≡ length (inputs_of (map item_of xs)) in
    let inputs_are : Q c.args.resolved.now.items.items = subst Q c.deref.ensures.value c.in-Ok.ensures.inputs in
    let items = map item_of c.args.resolved.now.items.items in
    let outputs = c.args.resolved.now.outputs.items in
    let order = c.in-Ok.placement.order in
    let long : length items ≡ length c.args.resolved.now.items.items = length-map c.args.resolved.now.items.items item_of in
    let placed : order.placed ≡ order_of items = ap (λ (v : OrderView). v.placed) order_is in
    let count : order.count ≡ length c.args.resolved.now.items.items = ap (λ (v : OrderView). v.count) order_is in
    let done : first_unplaced (length items) (order_of items) ≡ length items =
    ap (λ n. first_unplaced n (order_of items)) long ∙ sym (ap (λ (v : OrderView). first_unplaced v.count v.placed) order_is) ∙ c.in_default-first_unplaced.ensures.none ∙ count ∙ sym long in
    let made : Netlist = record { inputs = c.in-Ok.placement.inputs; gates = gates_among items order.placed order.placed; outputs = map (place_of order.placed) outputs } in
    let want : made ≡ netlist_of items (order_of items) outputs = λ i. record { inputs = inputs_are i; gates = gates_among items (placed i) (placed i); outputs = map (place_of (placed i)) outputs } in
    placed-ok items c.args.resolved.now.lines.items outputs done ∙ ap Ok (sym (c.in-Ok-netlist.ensures ∙ want))
