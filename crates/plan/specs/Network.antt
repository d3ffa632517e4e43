-- What a plan is made of.
use Rattle.std.specs.Prelude.{ℕ, List}
use Rattle.surf_kinds.specs.declared.rule.Rule.{Rule}
use Rattle.lattice.specs.Shape.{Shape}

-- the rules on a lattice, and the seed of the draws
pub record Network : Type 0 where
  pub lattice : Shape
  pub rules : List Rule
  pub seed : ℕ
