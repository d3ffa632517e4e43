use Rattle.std.proofs.Common.{◌≡◌, ℕ, ◌<◌, ◌≤◌, List, slice_index_or, Vec}
use Rattle.std.specs.Global.{Global}
use Rattle.surf_kinds.specs.declared.event.Event.{Event}
use Rattle.surf_kinds.specs.declared.event.Key.{Key}
use Rattle.border.specs.Stacked.{IsRest}
use Rattle.border.proofs.stacks.forget_each.Given as goal

-- the first n stacks have forgotten, and the others are as they were
pub record ForgottenUpto (key : Key) (n : ℕ) (vs ws : List (Vec Event Global)) : Type 0 where
  pub upto : (i : ℕ) (d : Vec Event Global) → i < n → IsRest key (slice_index_or vs i d) (slice_index_or ws i d)
  pub from : (i : ℕ) (d : Vec Event Global) → n ≤ i → slice_index_or ws i d ≡ slice_index_or vs i d

abbrev pub invariant-loop-i : goal.invariant-loop-i
invariant-loop-i l = ForgottenUpto l.key l.i l.initial.stacks l.stacks
