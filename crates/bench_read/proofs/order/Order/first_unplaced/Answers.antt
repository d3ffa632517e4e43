use Rattle.std.proofs.Common.{◌≡◌, ◌<◌, ◌≤◌, ℕ, length, get_or, ap, sym, ◌∙◌, subst, arith}
use Rattle.bench_read.specs.Order.{first_unplaced}
use Rattle.bench_read.specs.Placing.{OrderView}
use Rattle.bench_read.proofs.Located.{first-marked}
use Rattle.bench_read.proofs.order.Order.first_unplaced.Goals as goal

pub returns-then-place-clause-some : goal.returns-then-place-clause-some
returns-then-place-clause-some c =
    let places = c.self.inside.places.items in
    let same = c.deref-place-items.ensures.value in
    let before : (k : ℕ) → k < c.loop-item.item → get_or places k 0 ≡ 4294967295 → ⊥ = λ k lt e. c.loop-item.invariant k lt (ap (λ xs. get_or xs k 0) same ∙ e) in
    let here : get_or places c.loop-item.item 0 ≡ 4294967295 = ap (λ xs. get_or xs c.loop-item.item 0) (sym same) ∙ c.if-place.true in
    let most : c.loop-item.item ≤ length places = omega (arith, ap length same) in
    sym (first-marked c.self.inside.placed.items places c.loop-item.item c.self.invariant.1 most before (λ lt. here)) ∙ ap (λ (v : OrderView). first_unplaced v.count v.placed) c.self.view_is

pub returns-clause-none : goal.returns-clause-none
returns-clause-none c =
    let places = c.self.inside.places.items in
    let same = c.deref-place-items.ensures.value in
    let before : (k : ℕ) → k < length places → get_or places k 0 ≡ 4294967295 → ⊥ = λ k lt e. c.loop-item.invariant k (omega (arith, lt, ap length same)) (ap (λ xs. get_or xs k 0) same ∙ e) in
    subst (λ (v : OrderView). first_unplaced v.count v.placed ≡ v.count) c.self.view_is
    (first-marked c.self.inside.placed.items places (length places) c.self.invariant.1 (omega arith) before (λ lt. absurd (omega (arith, lt))))
