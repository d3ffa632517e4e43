use Rattle.std.proofs.Common.{◌≡◌, ◌+◌, ◌*◌, ◌≤◌, map, take}
use Rattle.std.specs.Prelude.{fold, min, max}
use Rattle.ensemble.specs.Texts.{count_in}
use Rattle.ensemble.proofs.spread.spread_from.Given as goal

abbrev pub invariant-loop-outcome : goal.invariant-loop-outcome
invariant-loop-outcome l =
    let counts = map (count_in l.species.0) (take l.outcome-index l.others) in
    record {
      least : l.spread.least ≡ fold min l.fn.first counts;
      greatest : l.spread.greatest ≡ fold max l.fn.first counts;
      sum : l.spread.sum ≡ fold (λ a n. a + n) l.fn.first counts;
      small : l.spread.sum ≤ (l.outcome-index + 1) * 1048576;
    }
