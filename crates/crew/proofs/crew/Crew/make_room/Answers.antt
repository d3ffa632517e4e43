use Rattle.std.proofs.Common.{◌<◌, sym, subst, arith}
use Rattle.crew.specs.Crews.{CrewView}
use Rattle.crew.proofs.Ready.{room_core, room_ready, room_rest, room_ok}
use Rattle.crew.proofs.crew.Crew.make_room.Goals as goal

pub make_room_in-requires-clause-inside : goal.make_room_in-requires-clause-inside
make_room_in-requires-clause-inside c = omega (arith, (subst (λ (v : CrewView). c.args.region < v.bands.count) (sym c.self.view_is) c.requires.inside), c.self.invariant.crew.count)

pub invariant_of-self : goal.invariant_of-self
invariant_of-self c = room_ready _ c.self.invariant c.args.region 1 c.make_room_in.result c.make_room_in.new.regions.items c.make_room_in.ensures (subst (λ (v : CrewView). c.args.region < v.bands.count) (sym c.self.view_is) c.requires.inside)

pub returns-clause-same : goal.returns-clause-same
returns-clause-same c = rw (← c.self.view_is) (room_core _ c.self.invariant c.args.region 1 c.make_room_in.result c.make_room_in.new.regions.items c.make_room_in.ensures (subst (λ (v : CrewView). c.args.region < v.bands.count) (sym c.self.view_is) c.requires.inside))

pub returns-clause-rest : goal.returns-clause-rest
returns-clause-rest c = rw (← c.self.view_is) (room_rest _ c.self.invariant c.args.region 1 c.make_room_in.result c.make_room_in.new.regions.items c.make_room_in.ensures (subst (λ (v : CrewView). c.args.region < v.bands.count) (sym c.self.view_is) c.requires.inside))

pub returns-clause-ok : goal.returns-clause-ok
returns-clause-ok c = room_ok c.self.inside.regions.items c.args.region c.make_room_in.result c.make_room_in.new.regions.items c.make_room_in.ensures
