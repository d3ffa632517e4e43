use Rattle.std.proofs.Common.{◌≡◌, length, vec_capacity}
use Rattle.timeline.proofs.Undoing.{Undoing}
use Rattle.timeline.proofs.cuts.undo_from.Given as goal

abbrev pub invariant-loop-entry : goal.invariant-loop-entry
invariant-loop-entry l = record {
  undoing : Undoing l.key l.fn.entries.items l.fn.surface l.entries.items l.surface l.undone;
  lattice : l.surface.lattice ≡ l.fn.surface.lattice;
  species_count : l.surface.species_count ≡ l.fn.surface.species_count;
  capacity : vec_capacity l.entries ≡ vec_capacity l.fn.entries;
}

abbrev pub decreases-loop-entry : goal.decreases-loop-entry
decreases-loop-entry l = length l.entries.items
