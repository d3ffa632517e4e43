-- Settling, seen from within its loops: over the channels, and over the regions.
use Rattle.std.specs.Prelude.{ℕ, ◌<◌, Bool, ◌≡◌, true, false, []}
use Rattle.surf_kinds.specs.declared.event.Key.{Key}
use Rattle.surf_kinds.specs.Keys.{◌is_below◌}
use Rattle.warp_core.specs.World.{World, end_key}
use Rattle.warp_core.specs.Parts.{HasNoEntry}
use Rattle.warp_core.specs.Cores.{Core, base_of, IsConsistent}
use Rattle.warp_core.specs.Settling.{load, AllOps, AreEmpty, TakesTo, IsCatching, is_past, ArePast}

-- every message has a later key than m
abbrev pub AreAbove : World → Core → Key → Type 0
AreAbove w c m = (j i : ℕ) → j < w.regions → i < w.regions → AllOps (λ k. m is_below k) (c.channel j i)

-- In a pass, after the turns of the regions below n; ready is whether the key's owner was past the key when the pass began.
pub record InPass (w : World) (c : Core) (m : Key) (ready : Bool) (n : ℕ) : Type 0 where
  pub catching : IsCatching w c m
  pub past : ArePast c m n
  pub above : ready ≡ true → (m is_below (c.part (w.owner m.place.0)).clock) × AreAbove w c m

-- In the delivery after it.
pub record InDelivery (w : World) (c : Core) (m : Key) (ready : Bool) : Type 0 where
  pub catching : IsCatching w c m
  pub owner_past : m is_below (c.part (w.owner m.place.0)).clock
  pub above : ready ≡ true → ArePast c m w.regions × AreAbove w c m

-- In a pass of the core that settles.
pub record IsPassing (w : World) (start c : Core) (m : Key) (n : ℕ) : Type 0 where
  pub consistent : IsConsistent w c
  pub horizon : c.horizon ≡ start.horizon
  pub pass : InPass w c m (is_past start m (w.owner m.place.0)) n

-- In the last pass: nothing is left, and the clocks of the regions below n are at the end.
pub record IsFinishing (w : World) (start c : Core) (n : ℕ) : Type 0 where
  pub consistent : IsConsistent w c
  pub horizon : c.horizon ≡ start.horizon
  pub none : (i : ℕ) → i < w.regions → HasNoEntry w (base_of w c) i (c.part i)
  pub empty : AreEmpty w c
  pub ends : (i : ℕ) → i < n → (c.part i).clock ≡ end_key w

-- Takes led from old to new: a message moved, and the load fell, or nothing changed and these channels are empty.
pub record Swept (w : World) (old new : Core) (moved : Bool) (P : Core → Type 0) : Type 0 where
  pub takes : TakesTo w old new
  pub falls : moved ≡ true → load w new < load w old
  pub still : moved ≡ false → (new ≡ old) × P new

-- the channel from j to i, those from j to the regions below n, and those from the regions below n
abbrev pub OneEmpty : ℕ → ℕ → Core → Type 0
OneEmpty j i c = c.channel j i ≡ []

abbrev pub RowEmpty : ℕ → ℕ → Core → Type 0
RowEmpty j n c = (i : ℕ) → i < n → c.channel j i ≡ []

abbrev pub RowsEmpty : World → ℕ → Core → Type 0
RowsEmpty w n c = (j i : ℕ) → j < n → i < w.regions → c.channel j i ≡ []
