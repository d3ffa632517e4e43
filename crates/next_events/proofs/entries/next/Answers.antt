use Rattle.std.proofs.Common.{◌*◌, ◌<◌, sym, subst}
use Rattle.lattice.specs.Shape.{Shape}
use Rattle.lattice.proofs.LawLemmas.{first_below, second_below}
use Rattle.plan.specs.Bounds.{IsWithinBounds}
use Rattle.next_events.proofs.Refreshing.{at_site}
use Rattle.next_events.proofs.entries.next.Goals as goal

pub state-first-requires : goal.state-first-requires
state-first-requires c =
    subst (λ (s : Shape). c.args.sites.first.0 < s.rows * s.cols) (sym c.requires.lattice) (first_below c.args.plan.now.lattice c.args.place.0 c.args.sites c.requires.sites)

pub next_of-requires-clause-first : goal.next_of-requires-clause-first
next_of-requires-clause-first c = at_site IsWithinBounds c.args.surface.now.sites c.args.sites.first.0 c.state-first.result c.requires.bounds c.state-first.ensures.state

pub state-requires : goal.state-requires
state-requires c =
    subst (λ (s : Shape). c.in-Some.second.0 < s.rows * s.cols) (sym c.requires.lattice) (second_below c.args.plan.now.lattice c.args.place.0 c.args.sites c.in-Some.second c.requires.sites c.in-Some.is)

pub next_of-requires-in-Some-clause-first : goal.next_of-requires-in-Some-clause-first
next_of-requires-in-Some-clause-first c = at_site IsWithinBounds c.args.surface.now.sites c.args.sites.first.0 c.state-first.result c.requires.bounds c.state-first.ensures.state

pub next_of-requires-in-Some-clause-second : goal.next_of-requires-in-Some-clause-second
next_of-requires-in-Some-clause-second c = at_site IsWithinBounds c.args.surface.now.sites c.in-Some.second.0 c.state.result c.requires.bounds c.state.ensures.state
