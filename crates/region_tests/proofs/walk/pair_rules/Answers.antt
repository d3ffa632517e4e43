use Rattle.std.proofs.Common.{ℕ, zero, suc, ◌<◌, [], ◌∷◌, get_or, arith}
use Rattle.surf_kinds.specs.declared.rule.Rule.{Rule}
use Rattle.plan.specs.Products.{LeavesWithin}
use Rattle.region_tests.proofs.walk.pair_rules.Goals as goal

each_within : (one two : Rule) → LeavesWithin 5 one → LeavesWithin 5 two → (k : ℕ) (d : Rule) → k < 2 → LeavesWithin 5 (get_or (one ∷ two ∷ []) k d)
each_within one two first second zero d h = first
each_within one two first second (suc zero) d h = second
each_within one two first second (suc (suc k)) d h = absurd (omega (arith, h))

pub returns : goal.returns
returns c = each_within _ _ (omega arith, omega arith) (omega arith)
