use Rattle.std.proofs.Common.{◌≡◌, ℕ, true, map, get_or, arith}
use Rattle.std.specs.List.{Contains}
use borrow.Author.Count.{below_more}
use Rattle.bench_read.specs.Order.{is_ready}
use Rattle.bench_read.specs.Readings.{item_of}
use Rattle.bench_read.proofs.Steps.{contains-at}
use Rattle.bench_read.proofs.placing.offer_each.Goals as goal

pub loop-number-preserved : goal.loop-number-preserved
loop-number-preserved c =
    let P : ℕ → Type 0 = λ k. is_ready (map item_of c.args.items.now) c.args.order.now.placed (get_or c.args.numbers.now k 0) ≡ true → Contains c.offer.new.ready (get_or c.args.numbers.now k 0) in
    record {
      offered = below_more P c.loop-number.number-index (λ k lt r. c.in_ok-offer.ensures.kept (get_or c.args.numbers.now k 0) (c.loop-number.invariant.offered k lt r)) c.in_ok-offer.ensures.offered;
      kept = λ d m. c.in_ok-offer.ensures.kept d (c.loop-number.invariant.kept d m);
      bound = c.in_ok-offer.ensures.bound;
    }

pub returns-clause-offered : goal.returns-clause-offered
returns-clause-offered c = λ d m.
    contains-at (λ d. is_ready (map item_of c.args.items.now) c.args.order.now.placed d ≡ true → Contains c.loop-number.ready d) c.args.numbers.now (λ k lt. c.loop-number.invariant.offered k (omega (arith, lt))) d m
