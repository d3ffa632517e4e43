use Rattle.warp_core.proofs.Machine.Plain.{within_room}
use Rattle.warp_core.proofs.tests.fire_within.Goals as goal

pub fire-requires-clause-room : goal.fire-requires-clause-room
fire-requires-clause-room c = within_room c.args.plan.now.lattice c.args.sites.now c.args.event.place.0 c.requires.within
