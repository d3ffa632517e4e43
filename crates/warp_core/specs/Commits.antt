-- How the code finds whether a commit may be made, and what it commits.
use Rattle.std.specs.Prelude.{ℕ, ◌≡◌, ◌<◌, ◌&&◌, Bool, not, List, length, slice_index_or, Vec}
use Rattle.std.specs.List.{list_all}
use Rattle.std.specs.Global.{Global}
use Rattle.surf_kinds.specs.declared.event.Event.{Event}
use Rattle.surf_kinds.specs.declared.event.Key.{Key}
use Rattle.surf_kinds.specs.Keys.{is_before}
use Rattle.border.specs.declared.op.Op.{Op}
use Rattle.border.specs.Messages.{op_key}
use Rattle.regions.specs.Bands.{Bands}
use Rattle.timeline.specs.TimelineView.{events_of, from}
use Rattle.warp_core.specs.declared.region.Region.{Region}
use Rattle.warp_core.specs.Regions.{items_at, own_below}

-- the keys of all messages are from this key on
abbrev pub are_from : Key → List Op → Bool
are_from k ops = list_all (λ op. not (is_before (op_key op) k)) ops

abbrev pub all_are_from : Key → List (Vec Op Global) → Bool
all_are_from k vs = list_all (λ v. are_from k v.items) vs

-- the region's clock and all its messages are from this key on
abbrev pub is_past : Key → Region → Bool
is_past k r = not (is_before r.clock k) && all_are_from k r.outboxes.items

abbrev pub may_commit : Key → List Region → Key → Bool
may_commit horizon rs k = not (is_before k horizon) && list_all (is_past k) rs

-- a list for each region: its own events below the key
pub record AreOwnLists (b : Bands) (k : Key) (rs : List Region) (count : ℕ) (lists : List (Vec Event Global)) : Type 0 where
  pub long : length lists ≡ count
  pub each : (i : ℕ) (d : Region) → i < count → items_at lists i ≡ own_below b i k (events_of (slice_index_or rs i d).timeline.entries)

-- the region without its entries below the key
pub record IsForgotten (k : Key) (old new : Region) : Type 0 where
  pub same : new ≡ record old { timeline = new.timeline }
  pub entries : new.timeline.entries ≡ from k old.timeline.entries

pub record AreForgotten (k : Key) (old new : List Region) : Type 0 where
  pub long : length new ≡ length old
  pub each : (i : ℕ) (d : Region) → i < length old → IsForgotten k (slice_index_or old i d) (slice_index_or new i d)
