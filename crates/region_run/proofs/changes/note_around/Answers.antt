use Rattle.std.proofs.Common.{sym}
use Rattle.lattice.proofs.LawLemmas.{first_below, second_below}
use Rattle.region_run.proofs.Noted.{noted_two}
use Rattle.region_run.proofs.changes.note_around.Goals as goal

pub note_site-requires-clause-site : goal.note_site-requires-clause-site
note_site-requires-clause-site c = first_below c.args.lattice.now c.args.place.0 c.in-Some.sites (sym c.in-Some.ensures)

pub note_site-requires-in-Some-second-clause-site : goal.note_site-requires-in-Some-second-clause-site
note_site-requires-in-Some-second-clause-site c = second_below c.args.lattice.now c.args.place.0 c.in-Some.sites c.in-Some-second.second (sym c.in-Some.ensures) c.in-Some-second.is

pub returns-in-Some-second-clause-noted : goal.returns-in-Some-second-clause-noted
returns-in-Some-second-clause-noted c =
    noted_two c.args.at c.args.range c.args.queue.now c.args.lattice.now c.args.place.0 c.in-Some.sites c.in-Some-second.second c.args.changes.now.items c.note_site.new.changes.items c.note_site-in-Some-second.new.changes.items
    (sym c.in-Some.ensures) c.in-Some-second.is c.note_site.ensures.noted c.note_site-in-Some-second.ensures.noted
