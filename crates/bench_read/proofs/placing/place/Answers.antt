use Rattle.std.proofs.Common.{◌≡◌, ◌<◌, [], true, length, map, get_or, ap, sym, ◌∙◌, subst, arith}
use Rattle.std.specs.List.{All, Contains}
use Rattle.std.proofs.lemmas.List.{length-map}
use Rattle.bench_read.specs.Order.{is_ready}
use Rattle.bench_read.specs.Placing.{OrderView}
use Rattle.bench_read.specs.Readings.{item_of, lists_of}
use Rattle.bench_read.proofs.Items.{list-here}
use Rattle.bench_read.proofs.Steps.{covers-more}
use Rattle.bench_read.proofs.placing.place.Goals as goal

pub offer_each-requires-clause-numbers : goal.offer_each-requires-clause-numbers
offer_each-requires-clause-numbers c =
    let users = c.args.users.now in
    let long : length (map item_of c.args.items.now) ≡ length c.args.items.now = length-map c.args.items.now item_of in
    let short : c.args.number < length users = omega (arith, c.requires.number, c.requires.users.count, length-map users (λ v. v.items), long) in
    let list : get_or (lists_of users) c.args.number [] ≡ c.deref.result.now = list-here users c.args.number c.index-users-number.result short c.index-users-number.is ∙ sym c.deref.ensures.value in
    let all : All (λ d. d < length (map item_of c.args.items.now)) c.deref.result.now = subst (All (λ d. d < length (map item_of c.args.items.now))) list (c.requires.users.within c.args.number) in
    λ k d lt. omega (arith, all k d lt, long)

pub returns-in-Ok-clause-covers : goal.returns-in-Ok-clause-covers
returns-in-Ok-clause-covers c =
    let items = map item_of c.args.items.now in
    let users = c.args.users.now in
    let long : length items ≡ length c.args.items.now = length-map c.args.items.now item_of in
    let short : c.args.number < length users = omega (arith, c.requires.number, c.requires.users.count, length-map users (λ v. v.items), long) in
    let list : get_or (lists_of users) c.args.number [] ≡ c.deref.result.now = list-here users c.args.number c.index-users-number.result short c.index-users-number.is ∙ sym c.deref.ensures.value in
    covers-more items (lists_of users) c.args.order.now.placed c.args.number c.args.ready.now c.offer_each.new.ready c.requires.users
    (λ e lt r. c.requires.left e (omega (arith, lt, long)) r)
    (λ d m r. c.in-Ok.ensures.offered d (subst (λ xs. Contains xs d) list m) (subst (λ (v : OrderView). is_ready items v.placed d ≡ true) (sym c.in_ok-push.ensures) r))
    c.in-Ok.ensures.kept
