-- A region that has more room alone.
use Rattle.std.proofs.Common.{◌++◌, List, sym, subst}
use Rattle.surf_kinds.specs.declared.event.Event.{Event}
use Rattle.surf_kinds.specs.declared.site.SpeciesId.{SpeciesId}
use Rattle.surf_kinds.specs.Keys.{key_of, AllKeys, ◌is_below◌}
use Rattle.plan.specs.Network.{Network}
use Rattle.surface_state.specs.SurfaceView.{SurfaceView}
use Rattle.timeline.specs.declared.entry.Entry.{Entry}
use Rattle.timeline.specs.TimelineView.{events_of}
use Rattle.warp_core.specs.declared.region.Region.{Region}
use Rattle.warp_core.specs.Grounds.{IsGround}
use Rattle.warp_core.specs.Regions.{IsAlike, HasGround}

pub ground_alike : (n : Network) (cells : List SpeciesId) (past : List Event) (base : SurfaceView) (old new : Region) → IsAlike old new → IsGround n cells past base old.timeline.entries old.surface → IsGround n cells past base new.timeline.entries new.surface
ground_alike n cells past base old new a g = subst (λ es. IsGround n cells past base es new.surface) (sym a.entries) (subst (IsGround n cells past base old.timeline.entries) (sym a.surface) g)

pub below_alike : (past : List Event) (e : Event) (old new : Region) → IsAlike old new → AllKeys (λ k. k is_below key_of e) (past ++ events_of old.timeline.entries) → AllKeys (λ k. k is_below key_of e) (past ++ events_of new.timeline.entries)
below_alike past e old new a all = subst (λ (es : List Entry). AllKeys (λ k. k is_below key_of e) (past ++ events_of es)) (sym a.entries) all

pub has_alike : (n : Network) (old new : Region) → IsAlike old new → HasGround n old → HasGround n new
has_alike n old new a h = (h.0, h.1, h.2, ground_alike n h.0 h.1 h.2 old new a h.3)
