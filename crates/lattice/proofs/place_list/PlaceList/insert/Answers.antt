use Rattle.std.proofs.Common.{rules}
use Rattle.lattice.specs.Rising.{number_at}
use Rattle.lattice.proofs.Insertion.{listed}
use Rattle.lattice.proofs.place_list.PlaceList.insert.Goals as goal

pub returns-clause-listed : goal.returns-clause-listed
returns-clause-listed c =
    λ q. rw c.loop-at.invariant.count (listed (number_at c.args.self.now.list) c.loop-at.self.list c.args.self.now.count c.loop-at.at c.args.place c.loop-at.invariant.shifted (search rules) q)
