use Rattle.std.proofs.Common.{◌<◌, ◌≤◌, ◌*◌, ◌^◌, length, subst, arith}
use Rattle.gate_layout.specs.Nets.{gate_count}
use Rattle.gate_layout.specs.Placed.{col_count}
use Rattle.track_layout.specs.Tracks.{site_count}
use Rattle.track_layout.proofs.Filled.{few_tracks}
use Rattle.track_layout.proofs.tracks.Tracks.has_room.Goals as goal

pub returns-clause-sites : goal.returns-clause-sites
returns-clause-sites c = subst (λ v. site_count v ≤ 2 ^ 20) c.self.view_is c.self.invariant.1

pub returns-clause-few : goal.returns-clause-few
returns-clause-few c = subst (λ v. 6 * gate_count v.list.nets < 2 ^ 20) c.self.view_is c.column_count-cols.ensures.few

pub returns-clause-small : goal.returns-clause-small
returns-clause-small c = subst (λ v. v.count < 2 ^ 19) c.self.view_is (few_tracks c.self.inside.count (col_count c.self.inside.circuit.now.nets) (omega arith) c.self.invariant.1)

pub returns-clause-some : goal.returns-clause-some
returns-clause-some c = subst (λ v. 0 < length v.list.nets → 0 < v.count) c.self.view_is (λ some. let b = c.self.invariant.0.2 0 some in omega (arith, b))
