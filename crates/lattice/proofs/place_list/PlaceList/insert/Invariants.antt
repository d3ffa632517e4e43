use Rattle.std.proofs.Common.{◌≡◌}
use Rattle.lattice.specs.Rising.{number_at}
use Rattle.lattice.proofs.Insertion.{Shifted}
use Rattle.lattice.proofs.place_list.PlaceList.insert.Given as goal

abbrev pub invariant-loop-at : goal.invariant-loop-at
invariant-loop-at l = record {
  count : l.self.count ≡ l.fn.self.count;
  shifted : Shifted (number_at l.fn.self.list) (number_at l.self.list) l.fn.self.count l.at l.place.0;
}

abbrev pub decreases-loop-at : goal.decreases-loop-at
decreases-loop-at l = l.at
