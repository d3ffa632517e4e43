use Rattle.std.proofs.Common.{map, sym, ap, ◌∙◌}
use Rattle.std.specs.List.{flat_map}
use Rattle.manifest_read.specs.Manifest.{numbered}
use Rattle.manifest_read.specs.Rules.{names_of_rule}
use Rattle.manifest_read.specs.Names.{AreListed}
use Rattle.manifest_read.proofs.Numbers.{listed-seen, rules-fold}
use Rattle.manifest_read.proofs.collected.Collected.numbered.Goals as goal

pub returns-clause-rules : goal.returns-clause-rules
returns-clause-rules c =
    let names = c.renumber_rules.new.names in
    let rules = c.args.self.now.rules in
    let all : AreListed names (flat_map names_of_rule rules) = rw c.in_ok-rules.ensures.names (listed-seen (flat_map names_of_rule rules)) in
    c.in_ok-rules.ensures.rules ∙ sym (rules-fold c.args.self.now.cells names rules all) ∙ ap (λ n. map (numbered n) rules) (sym c.in_ok-cells.ensures.names)
