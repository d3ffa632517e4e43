use Rattle.std.proofs.Common.{◌≡◌, ℕ, ◌<◌, ◌≤◌, ◌==◌, List, [], length, map, None, Ok, Err, false, ap, sym, ◌∙◌, subst, arith}
use Rattle.std.specs.List.{All, AllByRecursion, flat_map, sum_by}
use Rattle.std.proofs.lemmas.Bool.{eqb-false}
use Rattle.std.proofs.lemmas.List.{length-map}
use Rattle.std.proofs.lemmas.List.Elements.{All-from_recursion}
use Rattle.surf_text.specs.Lines.{lines_of}
use Rattle.species.specs.Texts.{index_of}
use Rattle.bench_read.specs.Lines.{LineSort, sort_of}
use Rattle.bench_read.specs.Passes.{puts_out, third_pass}
use Rattle.bench_read.specs.Order.{Item, items_in, order_of, first_unplaced}
use Rattle.bench_read.specs.Placing.{AreWithin}
use Rattle.bench_read.specs.Readings.{item_of}
use Rattle.bench_read.proofs.Resolving.{items-count, lines-count, items-within, outputs-within, are-within, ItemArity, item_nets, items-arity, items-nets, lines-formed, nets-few}
use Rattle.bench_read.proofs.Sound.{items-sound}
use Rattle.bench_read.proofs.Ends.{whole, third-none, lines-few}
use Rattle.bench_read.proofs.bench.read_bench.Goals as goal

pub overflow_add-result : goal.overflow_add-result
overflow_add-result c = omega (arith, c.in-Ok-resolve.ensures.count, lines-few c.args.text.now, c.requires.size)

pub place_lines-requires-clause-few : goal.place_lines-requires-clause-few
place_lines-requires-clause-few c =
    let lines : List LineSort = map sort_of (lines_of c.args.text.now) in
    omega (arith, length-map c.in-Ok-resolve.resolved.items.items item_of, ap length c.in-Ok-resolve.ensures.items, items-count c.in-Ok.names lines, ap length c.in-Ok.ensures.names, c.in-Ok.ensures.few)

pub place_lines-requires-clause-lines : goal.place_lines-requires-clause-lines
place_lines-requires-clause-lines c =
    let lines : List LineSort = map sort_of (lines_of c.args.text.now) in
    omega (arith, length-map c.in-Ok-resolve.resolved.items.items item_of, ap length c.in-Ok-resolve.ensures.items, items-count c.in-Ok.names lines, ap length c.in-Ok-resolve.ensures.lines, lines-count 1 lines)

pub place_lines-requires-clause-within : goal.place_lines-requires-clause-within
place_lines-requires-clause-within c =
    let lines : List LineSort = map sort_of (lines_of c.args.text.now) in
    let names = c.in-Ok.names in
    let items : List Item = flat_map (items_in names) lines in
    let count : length items ≡ length names = items-count names lines ∙ sym (ap length c.in-Ok.ensures.names) in
    subst AreWithin (sym c.in-Ok-resolve.ensures.items) (are-within items (length names) count (items-within names 1 lines c.in-Ok-resolve.ensures.ok))

pub place_lines-requires-clause-outputs : goal.place_lines-requires-clause-outputs
place_lines-requires-clause-outputs c =
    let lines : List LineSort = map sort_of (lines_of c.args.text.now) in
    let names = c.in-Ok.names in
    let numbers = map (index_of names) (flat_map puts_out lines) in
    let all : All (λ y. y < length names) c.in-Ok-resolve.resolved.outputs.items
    = subst (All (λ y. y < length names)) (sym c.in-Ok-resolve.ensures.outputs) (All-from_recursion (λ y. y < length names) numbers (outputs-within names 1 lines c.in-Ok-resolve.ensures.ok)) in
    λ k d lt. omega (arith, all k d lt, length-map c.in-Ok-resolve.resolved.items.items item_of, ap length c.in-Ok-resolve.ensures.items, items-count names lines, ap length c.in-Ok.ensures.names)

pub returns-in-Ok-place_lines-clause-ok : goal.returns-in-Ok-place_lines-clause-ok
returns-in-Ok-place_lines-clause-ok c =
    let lines : List LineSort = map sort_of (lines_of c.args.text.now) in
    let r = c.in-Ok-resolve.resolved in
    let e = c.in-Ok-resolve.ensures in
    let some : (length r.outputs.items == 0) ≡ false = ap (λ xs. length xs == 0) (sym c.as_slice.ensures.value) ∙ sym c.if-is_empty.ensures in
    let third : third_pass lines ≡ None = third-none lines (length r.outputs.items) (sym (ap length e.outputs ∙ length-map (flat_map puts_out lines) (index_of c.in-Ok.names))) some in
    whole c.args.text.now c.in-Ok.names (map item_of r.items.items) r.lines.items r.outputs.items (Ok c.in-Ok-place_lines.bench) c.in-Ok.ensures.names c.in-Ok.ensures.ok e.ok third e.items e.lines e.outputs c.in-Ok-place_lines.ensures.ok

pub returns-clause-fault : goal.returns-clause-fault
returns-clause-fault c = λ f g.
    let lines : List LineSort = map sort_of (lines_of c.args.text.now) in
    let r = c.in-Ok-resolve.resolved in
    let e = c.in-Ok-resolve.ensures in
    let some : (length r.outputs.items == 0) ≡ false = ap (λ xs. length xs == 0) (sym c.as_slice.ensures.value) ∙ sym c.if-is_empty.ensures in
    let third : third_pass lines ≡ None = third-none lines (length r.outputs.items) (sym (ap length e.outputs ∙ length-map (flat_map puts_out lines) (index_of c.in-Ok.names))) some in
    whole c.args.text.now c.in-Ok.names (map item_of r.items.items) r.lines.items r.outputs.items (Err f) c.in-Ok.ensures.names c.in-Ok.ensures.ok e.ok third e.items e.lines e.outputs (c.in-Err-place_lines.ensures.fault f g)

pub place_lines-requires-clause-sound : goal.place_lines-requires-clause-sound
place_lines-requires-clause-sound c = λ done.
    let lines : List LineSort = map sort_of (lines_of c.args.text.now) in
    let names = c.in-Ok.names in
    let r = c.in-Ok-resolve.resolved in
    let e = c.in-Ok-resolve.ensures in
    let items = map item_of r.items.items in
    let long : length items ≡ length r.items.items = length-map r.items.items item_of in
    let filled : (length r.outputs.items == 0) ≡ false = ap (λ xs. length xs == 0) (sym c.as_slice.ensures.value) ∙ sym c.if-is_empty.ensures in
    let ne : length r.outputs.items ≡ 0 → ⊥ = eqb-false (length r.outputs.items) 0 filled in
    let count : length names ≡ length items = sym (ap length e.items ∙ items-count names lines ∙ sym (ap length c.in-Ok.ensures.names)) in
    items-sound items r.outputs.items
    (subst (AllByRecursion ItemArity) (sym e.items) (items-arity names lines (lines-formed (lines_of c.args.text.now))))
    (omega (arith, ap (sum_by item_nets) e.items, items-nets names lines, nets-few 1 0 [] lines (omega arith) c.in-Ok.ensures.ok))
    (subst (AllByRecursion (λ d. d < length items)) (sym e.outputs) (subst (λ n. AllByRecursion (λ d. d < n) (map (index_of names) (flat_map puts_out lines))) count (outputs-within names 1 lines e.ok)))
    (omega (arith, ne))
    (ap (λ n. first_unplaced n (order_of items)) long ∙ done ∙ sym long)
