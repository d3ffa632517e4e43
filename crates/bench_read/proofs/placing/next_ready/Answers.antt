use Rattle.std.proofs.Common.{◌≡◌, ◌<◌, ◌∙◌, length, map, refl, sym, subst, arith}
use Rattle.std.proofs.lemmas.List.{length-map}
use Rattle.bench_read.specs.Readings.{item_of}
use Rattle.bench_read.proofs.Steps.{none-ready, first-ready, covers-left}
use Rattle.bench_read.proofs.placing.next_ready.Goals as goal

pub returns-then-is_ready-clause-some : goal.returns-then-is_ready-clause-some
returns-then-is_ready-clause-some c =
    let items = map item_of c.args.items.now in
    let long : length items ≡ length c.args.items.now = length-map c.args.items.now item_of in
    let lt : c.in-Some.number < length c.args.items.now = (c.in-Some.ensures.only (length c.args.items.now) c.loop-number.invariant.bound).0 in
    first-ready items c.args.order.now.placed c.loop-number.ready c.in-Some.number c.loop-number.invariant.covers c.in-Some.ensures.least (omega (arith, long, lt)) (sym c.if-is_ready.ensures)

pub returns-then-is_ready-clause-left : goal.returns-then-is_ready-clause-left
returns-then-is_ready-clause-left c = λ e lt r.
    c.in-Some.ensures.left e (c.loop-number.invariant.covers e (omega (arith, length-map c.args.items.now item_of, lt)) r)

pub returns-then-is_ready-clause-bound : goal.returns-then-is_ready-clause-bound
returns-then-is_ready-clause-bound c = (c.in-Some.ensures.only (length c.args.items.now) c.loop-number.invariant.bound).1

pub loop-number-preserved : goal.loop-number-preserved
loop-number-preserved c = record {
  covers = covers-left (map item_of c.args.items.now) c.args.order.now.placed c.loop-number.ready c.pop.new.self c.in-Some.number c.loop-number.invariant.covers c.in-Some.ensures.left (sym c.if-is_ready.ensures);
  bound = (c.in-Some.ensures.only (length c.args.items.now) c.loop-number.invariant.bound).1;
}

pub returns-clause-none : goal.returns-clause-none
returns-clause-none c =
    none-ready (map item_of c.args.items.now) c.args.order.now.placed c.loop-number.ready c.loop-number.invariant.covers c.in_default.ensures.none ∙ length-map c.args.items.now item_of
