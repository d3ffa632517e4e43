-- The entry that was taken out was the last step to the surface, so it may be undone.
use Rattle.std.proofs.Common.{ap, ◌∙◌}
use Rattle.surface_state.specs.SurfaceView.{SurfaceView}
use Rattle.timeline.proofs.Undoing.{undoing_more, undoing_done, last_may}
use Rattle.timeline.proofs.cuts.undo_from.Goals as goal

pub undo-requires-clause-place : goal.undo-requires-clause-place
undo-requires-clause-place c =
    (last_may _ _ _ _ _ _ _ _ c.in-Some.entry c.loop-entry.invariant.undoing c.requires.led.1 c.in-Some.ensures.last).place

pub undo-requires-clause-pair : goal.undo-requires-clause-pair
undo-requires-clause-pair c =
    (last_may _ _ _ _ _ _ _ _ c.in-Some.entry c.loop-entry.invariant.undoing c.requires.led.1 c.in-Some.ensures.last).pair

pub undo-requires-clause-species : goal.undo-requires-clause-species
undo-requires-clause-species c =
    (last_may _ _ _ _ _ _ _ _ c.in-Some.entry c.loop-entry.invariant.undoing c.requires.led.1 c.in-Some.ensures.last).known

pub undo-requires-clause-left : goal.undo-requires-clause-left
undo-requires-clause-left c =
    (last_may _ _ _ _ _ _ _ _ c.in-Some.entry c.loop-entry.invariant.undoing c.requires.led.1 c.in-Some.ensures.last).left

pub loop-entry-preserved : goal.loop-entry-preserved
loop-entry-preserved c = record {
  undoing = undoing_more _ _ _ _ _ _ _ _ c.in-Some.entry c.loop-entry.invariant.undoing c.in-Some.ensures.last c.in-Some.ensures.from c.undo.ensures;
  lattice = ap (λ (v : SurfaceView). v.lattice) c.undo.ensures ∙ c.loop-entry.invariant.lattice;
  species_count = ap (λ (v : SurfaceView). v.species_count) c.undo.ensures ∙ c.loop-entry.invariant.species_count;
  capacity = c.in-Some.ensures.capacity ∙ c.loop-entry.invariant.capacity;
}

pub returns-clause-entries : goal.returns-clause-entries
returns-clause-entries c =
    c.in_default.ensures.same ∙ (undoing_done _ _ _ _ _ _ c.loop-entry.invariant.undoing c.in_default.ensures.below).0

pub returns-clause-answer : goal.returns-clause-answer
returns-clause-answer c = (undoing_done _ _ _ _ _ _ c.loop-entry.invariant.undoing c.in_default.ensures.below).1

pub returns-clause-surface : goal.returns-clause-surface
returns-clause-surface c = (undoing_done _ _ _ _ _ _ c.loop-entry.invariant.undoing c.in_default.ensures.below).2
