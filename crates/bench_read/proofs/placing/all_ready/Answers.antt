use Rattle.std.proofs.Common.{◌≡◌, ℕ, true, map}
use Rattle.std.specs.List.{Contains}
use borrow.Author.Count.{below_more}
use Rattle.bench_read.specs.Order.{is_ready}
use Rattle.bench_read.specs.Readings.{item_of}
use Rattle.bench_read.proofs.placing.all_ready.Goals as goal

pub loop-number-preserved : goal.loop-number-preserved
loop-number-preserved c =
    let P : ℕ → Type 0 = λ d. is_ready (map item_of c.args.items.now) c.args.order.now.placed d ≡ true → Contains c.offer.new.ready d in
    record {
      covers = below_more P c.loop-number.number (λ d lt r. c.in_ok-offer.ensures.kept d (c.loop-number.invariant.covers d lt r)) c.in_ok-offer.ensures.offered;
      bound = c.in_ok-offer.ensures.bound;
    }
