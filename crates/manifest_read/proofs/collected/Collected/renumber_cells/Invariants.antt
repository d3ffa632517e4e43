use Rattle.std.proofs.Common.{map, take}
use Rattle.std.specs.List.{flat_map}
use Rattle.manifest_read.specs.Rules.{names_of_rule}
use Rattle.manifest_read.specs.CollectedView.{name_at}
use Rattle.manifest_read.proofs.Renumbered.{CellsOf, Placed}
use Rattle.manifest_read.proofs.collected.Collected.renumber_cells.Given as goal

abbrev pub invariant-loop-old : goal.invariant-loop-old
invariant-loop-old l = record {
  items : CellsOf l.self l.old-items;
  placed : Placed (flat_map names_of_rule l.self.rules) (map (name_at l.self.names) (take l.old-index l.old-items)) l.names l.cells;
}
