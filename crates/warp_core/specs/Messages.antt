-- Messages between the regions of a world.
use Rattle.std.specs.Prelude.{ℕ, List, [], ◌∷◌}
use Rattle.std.specs.List.{filter_map}
use Rattle.surf_kinds.specs.declared.event.Key.{Key}
use Rattle.surf_kinds.specs.declared.event.Event.{Event}
use Rattle.border.specs.declared.op.Op.{Op}
use Rattle.border.specs.Messages.{Partition, IsPutOf, IsSent, accepted_op}
use Rattle.warp_core.specs.World.{World}

-- what messages depend on in a world
abbrev pub partition_of : World → Partition
partition_of w = record { owner = w.owner; told = w.told; fits = w.fits }

-- region j may put each of these events for region i, wherever i's floor is
abbrev pub ArePutsOf : World → ℕ → ℕ → List Event → Type 0
ArePutsOf w j i [] = Unit {0}
ArePutsOf w j i (e ∷ es) = IsPutOf (partition_of w) j i e × ArePutsOf w j i es

-- region j may send each of these messages to region i, whose floor this is
abbrev pub AreSent : World → ℕ → ℕ → Key → List Op → Type 0
AreSent w j i floor [] = Unit {0}
AreSent w j i floor (op ∷ ops) = IsSent (partition_of w) j i floor w.until op × AreSent w j i floor ops

-- what region i, with this floor, takes messages from region j for
abbrev pub accepted_ops : World → ℕ → ℕ → Key → List Op → List Op
accepted_ops w j i floor ops = filter_map (accepted_op (partition_of w) j i floor) ops
