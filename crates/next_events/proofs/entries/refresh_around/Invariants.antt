use Rattle.lattice.specs.Places.{ArePlacesOf}
use Rattle.lattice.specs.Rising.{IsListed}
use Rattle.next_events.specs.Entries.{IsRefreshed}
use Rattle.next_events.proofs.entries.refresh_around.Given as goal

abbrev pub invariant-loop-place : goal.invariant-loop-place
invariant-loop-place g l = record {
  places : ArePlacesOf l.plan.lattice l.fn.site.0 l.listed;
  refreshed : IsRefreshed l.plan l.surface.sites (g.P.Places.has l.places) (IsListed l.listed l.place-index) l.fn.queue l.queue;
}
