use Rattle.std.proofs.Common.{◌≡◌, ℕ, ◌++◌, List, take}
use Rattle.surf_kinds.specs.declared.event.Event.{Event}
use Rattle.surf_kinds.specs.declared.site.SiteState.{SiteState}
use Rattle.plan.specs.History.{AreNext}
use Rattle.watching.specs.Published.{HasAdded}
use Rattle.watching.proofs.publisher.Publisher.add_all.Given as goal

abbrev pub invariant-loop-event : goal.invariant-loop-event
invariant-loop-event l = record {
  name : l.self.writer.name ≡ l.fn.self.writer.name;
  added : (until : ℕ) (first : List SiteState) (es : List Event) → HasAdded l.plan first es l.fn.self → AreNext l.plan until first (es ++ l.events) → HasAdded l.plan first (es ++ take l.event-index l.events) l.self;
}
