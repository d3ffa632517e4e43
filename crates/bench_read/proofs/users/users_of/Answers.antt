use Rattle.std.proofs.Common.{◌≡◌, ◌<◌, ◌≤◌, ℕ, [], length, map, get_or, ap, sym, ◌∙◌, subst, arith}
use Rattle.std.specs.List.{All, Contains}
use Rattle.std.proofs.lemmas.List.{length-map}
use borrow.Author.Count.{below_more}
use Rattle.bench_read.specs.Order.{item_at, operands_at}
use Rattle.bench_read.specs.Readings.{item_of, lists_of}
use Rattle.bench_read.proofs.Items.{item-here}
use Rattle.bench_read.proofs.users.users_of.Goals as goal

pub add_item-requires : goal.add_item-requires
add_item-requires c =
    let items = c.args.items.now in
    let n = c.loop-number.number in
    let lt : n < length items = omega arith in
    let here : item_at (map item_of items) n ≡ item_of c.index-items-number.result = item-here items n c.index-items-number.result lt c.index-items-number.is in
    let long : length (map item_of items) ≡ length items = length-map items item_of in
    let all : All (λ y. y < length (map item_of items)) (operands_at (item_of c.index-items-number.result))
    = subst (λ x. All (λ y. y < length (map item_of items)) (operands_at x)) here (c.requires.within n (omega (arith, long, lt))) in
    record { operands = λ k d l. omega (arith, all k d l, long, c.loop-number.invariant.count) }

pub loop-number-preserved : goal.loop-number-preserved
loop-number-preserved c =
    let items = c.args.items.now in
    let n = c.loop-number.number in
    let lt : n < length items = omega arith in
    let here : item_at (map item_of items) n ≡ item_of c.index-items-number.result = item-here items n c.index-items-number.result lt c.index-items-number.is in
    let P : ℕ → Type 0 = λ d. (y : ℕ) → Contains (operands_at (item_at (map item_of items) d)) y → Contains (get_or (lists_of c.add_item.new.users.items) y []) d in
    let old : (d : ℕ) → d < n → P d = λ d below y m. c.in_ok-add_item.ensures.kept y d (c.loop-number.invariant.each d y below m) in
    let new : P n = λ y m. c.in_ok-add_item.ensures.added y (subst (λ x. Contains (operands_at x) y) here m) in
    record {
      count = c.in_ok-add_item.ensures.count ∙ c.loop-number.invariant.count;
      each = λ d y below. below_more P n old new d below y;
      within = c.in_ok-add_item.ensures.only (length items) lt c.loop-number.invariant.within;
    }

pub returns : goal.returns
returns c =
    let items = c.args.items.now in
    let long : length (map item_of items) ≡ length items = length-map items item_of in
    record {
      count = c.loop-number.invariant.count ∙ sym long;
      each = λ d y lt m. c.loop-number.invariant.each d y (omega (arith, lt, long)) m;
      within = λ y k d l. omega (arith, c.loop-number.invariant.within y k d l, long);
    }
