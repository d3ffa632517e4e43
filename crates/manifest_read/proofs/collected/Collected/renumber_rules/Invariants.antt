use Rattle.std.proofs.Common.{map, take}
use Rattle.manifest_read.specs.CollectedView.{rule_with_names}
use Rattle.manifest_read.proofs.Renumbered.{RulesOf, Ruled}
use Rattle.manifest_read.proofs.collected.Collected.renumber_rules.Given as goal

abbrev pub invariant-loop-old : goal.invariant-loop-old
invariant-loop-old l = record {
  items : RulesOf l.self l.old-items;
  ruled : Ruled (map (rule_with_names l.self.names) (take l.old-index l.old-items)) l.names l.rules;
}
