-- What a plan keeps beside its rules.
use Rattle.std.specs.Prelude.{◌≡◌, ◌≤◌, List, length}
use Rattle.surf_kinds.specs.declared.rule.Rule.{Rule}
use Rattle.plan.specs.declared.index.Reactants.{Reactants}
use Rattle.plan.specs.declared.index.Index.{Index}
use Rattle.plan.specs.Channels.{channels_of}
use Rattle.plan.specs.Index.{found_in, AreRows}

-- the index has the channels of these rules
pub record IsIndexed (rules : List Rule) (i : Index) : Type 0 where
  pub few : length rules ≤ 4096
  pub rows : AreRows i
  pub found : (r : Reactants) → found_in i r ≡ channels_of rules r
