use Rattle.std.proofs.Common.{◌∙◌, fold, ap}
use Rattle.species.specs.Names.{with_name}
use Rattle.crn_compile.specs.Names.{rule_names}
use Rattle.crn_compile.proofs.NameTests.{rule_names_once}
use Rattle.crn_compile.proofs.name_list.rule_names.Goals as goal

pub returns-in-Ok : goal.returns-in-Ok
returns-in-Ok c = c.in-Ok.ensures ∙ ap (λ names. fold with_name names rule_names) c.new-names.ensures ∙ rule_names_once
