-- Configurations of the core, and when one is consistent.
use Rattle.std.specs.Prelude.{ℕ, ◌<◌, ◌≡◌, List, []}
use Rattle.surf_kinds.specs.declared.event.Key.{Key}
use Rattle.surf_kinds.specs.declared.event.Event.{Event}
use Rattle.surf_kinds.specs.declared.site.SiteState.{SiteState}
use Rattle.surf_kinds.specs.Keys.{origin, keep, below, from, IsRising}
use Rattle.border.specs.declared.op.Op.{Op}
use Rattle.border.specs.Messages.{replay}
use Rattle.warp_core.specs.Messages.{ArePutsOf, AreSent}
use Rattle.warp_core.specs.World.{World, after_all, is_told_by}
use Rattle.warp_core.specs.Parts.{Part, IsSound}

-- The horizon, the committed events, a part for each region, and the messages that wait from region j to region i: `channel j i`.
pub record Core : Type 0 where
  pub horizon : Key
  pub committed : List Event
  pub part : ℕ → Part
  pub channel : ℕ → ℕ → List Op

-- the surface after the committed events
abbrev pub base_of : World → Core → List SiteState
base_of w c = after_all w w.start c.committed

pub record IsConsistent (w : World) (c : Core) : Type 0 where
  -- what is committed is the history below the horizon
  pub committed : c.committed ≡ below c.horizon w.history
  -- each clock is from the horizon on and at most the end key, and each timeline is local: over the surface after the committed events, from the horizon on, with its stacks, up to its clock
  pub sound : (i : ℕ) → i < w.regions → IsSound w (base_of w c) c.horizon i (c.part i)
  -- the keys of each stack rise strictly
  pub rising : (j i : ℕ) → j < w.regions → i < w.regions → IsRising ((c.part i).stack j)
  -- each stack holds events whose Puts from its sender are lawful but for the floor
  pub stacked : (j i : ℕ) → j < w.regions → i < w.regions → ArePutsOf w j i ((c.part i).stack j)
  -- each Put in a channel is lawful and within the duration, and all keys in channels are from the horizon on
  pub sent : (j i : ℕ) → j < w.regions → i < w.regions → AreSent w j i c.horizon (c.channel j i)
  -- once all messages from j to i are replayed, i's stack of j has from the horizon on exactly the own events of j's timeline that i is told of
  pub pairs : (j i : ℕ) → j < w.regions → i < w.regions → from c.horizon (replay ((c.part i).stack j) (c.channel j i)) ≡ keep (is_told_by w j i) (c.part j).timeline

-- no entries, no messages, and all clocks and the horizon at the first key
abbrev pub first_core : Core
first_core = record { horizon = origin; committed = []; part = λ _. record { timeline = []; clock = origin; stack = λ _. [] }; channel = λ _ _. [] }
