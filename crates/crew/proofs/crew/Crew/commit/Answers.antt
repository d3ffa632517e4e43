use Rattle.std.proofs.Common.{◌≡◌, ◌∙◌, ◌+◌, ℕ, ◌<◌, List, [], length, sym, ap, subst, arith, slice_index_or}
use Rattle.std.specs.Prelude.{min}
use Rattle.surf_kinds.specs.declared.event.Event.{Event}
use Rattle.surf_kinds.specs.Keys.{from, below, ◌is_below◌}
use Rattle.ordered_commit.specs.Merge.{AreMergeable}
use Rattle.warp_core.specs.World.{end_key}
use Rattle.warp_core.specs.Cores.{Core}
use Rattle.warp_core.specs.Settling.{IsSettled, AreEmpty}
use Rattle.region_run.specs.declared.region.Region.{Region}
use Rattle.region_run.specs.Sides.{raised}
use Rattle.crew.specs.Calls.{MayForget, AreOwnBelow, IsGathered, IsUptoClock, IsClockOf}
use Rattle.crew.specs.Crews.{CrewView, world_in, core_in, rest_of}
use Rattle.crew.proofs.Committed.{may_forget, can_merge, handed_then, some_then, later_then, commit_ready, commit_empty, commit_rest, any_regions}
use Rattle.crew.proofs.crew.Crew.commit.Goals as goal

pub least_clock-key-requires : goal.least_clock-key-requires
least_clock-key-requires c = subst (λ (l : List Region). 0 < length l) (sym c.deref.ensures.value) (any_regions _ c.self.invariant)

pub gather-requires-clause-may : goal.gather-requires-clause-may
gather-requires-clause-may c =
    subst (λ (l : List Region). (i : ℕ) (d : Region) → i < length l → MayForget c.least_clock-key.result (slice_index_or l i d)) (sym c.deref-2.ensures.value) (may_forget _ c.self.invariant c.least_clock-key.result (subst (λ (l : List Region). (i : ℕ) (d : Region) → i < length l → IsUptoClock c.least_clock-key.result (slice_index_or l i d)) c.deref.ensures.value c.least_clock-key.ensures.least) (subst (λ (l : List Region). (d : Region) → (i : ℕ) × (i < length l) × IsClockOf c.least_clock-key.result (slice_index_or l i d)) c.deref.ensures.value c.least_clock-key.ensures.some) (subst (λ (v : CrewView). (x : Core) × IsSettled (world_in v) x (core_in v)) (sym c.self.view_is) c.requires.settled))

pub gather-requires-clause-mergeable : goal.gather-requires-clause-mergeable
gather-requires-clause-mergeable c =
    subst (λ (l : List Region). (lists : List (List Event)) → AreOwnBelow c.least_clock-key.result l (length l) lists → AreMergeable lists) (sym c.deref-2.ensures.value) (can_merge _ c.self.invariant c.least_clock-key.result (subst (λ (l : List Region). (i : ℕ) (d : Region) → i < length l → IsUptoClock c.least_clock-key.result (slice_index_or l i d)) c.deref.ensures.value c.least_clock-key.ensures.least) (subst (λ (l : List Region). (d : Region) → (i : ℕ) × (i < length l) × IsClockOf c.least_clock-key.result (slice_index_or l i d)) c.deref.ensures.value c.least_clock-key.ensures.some) (subst (λ (v : CrewView). (x : Core) × IsSettled (world_in v) x (core_in v)) (sym c.self.view_is) c.requires.settled))

pub forget_all-requires : goal.forget_all-requires
forget_all-requires c = may_forget _ c.self.invariant c.least_clock-key.result (subst (λ (l : List Region). (i : ℕ) (d : Region) → i < length l → IsUptoClock c.least_clock-key.result (slice_index_or l i d)) c.deref.ensures.value c.least_clock-key.ensures.least) (subst (λ (l : List Region). (d : Region) → (i : ℕ) × (i < length l) × IsClockOf c.least_clock-key.result (slice_index_or l i d)) c.deref.ensures.value c.least_clock-key.ensures.some) (subst (λ (v : CrewView). (x : Core) × IsSettled (world_in v) x (core_in v)) (sym c.self.view_is) c.requires.settled)

pub invariant_of-self : goal.invariant_of-self
invariant_of-self c = commit_ready _ c.self.invariant c.least_clock-key.result (subst (λ (l : List Region). (i : ℕ) (d : Region) → i < length l → IsUptoClock c.least_clock-key.result (slice_index_or l i d)) c.deref.ensures.value c.least_clock-key.ensures.least) (subst (λ (l : List Region). (d : Region) → (i : ℕ) × (i < length l) × IsClockOf c.least_clock-key.result (slice_index_or l i d)) c.deref.ensures.value c.least_clock-key.ensures.some) (subst (λ (v : CrewView). (x : Core) × IsSettled (world_in v) x (core_in v)) (sym c.self.view_is) c.requires.settled) c.forget_all.new.regions.items c.forget_all.ensures _ _
    c.in_ok-events.events.items (subst (λ (l : List Region). IsGathered c.least_clock-key.result l c.in_ok-events.events.items) c.deref-2.ensures.value c.in_ok-events.ensures) c.saturating_add-self-inside.ensures
    (c.saturating_add-self-inside-2.ensures ∙ ap (λ n. min (c.self.inside.committed + n) 18446744073709551615) (c.len.ensures ∙ c.in_ok-events.events.ok.0))
    (subst (λ (v : CrewView). v.horizon ≡ end_key (world_in v) → ⊥) (sym c.self.view_is) c.requires.unfinished)

pub returns-clause-handed : goal.returns-clause-handed
returns-clause-handed c = subst (λ (v : CrewView). c.in_ok-events.events.items ≡ from v.horizon (below c.least_clock-key.result (world_in v).history)) c.self.view_is (handed_then _ c.self.invariant c.least_clock-key.result (subst (λ (l : List Region). (i : ℕ) (d : Region) → i < length l → IsUptoClock c.least_clock-key.result (slice_index_or l i d)) c.deref.ensures.value c.least_clock-key.ensures.least) (subst (λ (l : List Region). (d : Region) → (i : ℕ) × (i < length l) × IsClockOf c.least_clock-key.result (slice_index_or l i d)) c.deref.ensures.value c.least_clock-key.ensures.some) (subst (λ (v : CrewView). (x : Core) × IsSettled (world_in v) x (core_in v)) (sym c.self.view_is) c.requires.settled) c.in_ok-events.events.items (subst (λ (l : List Region). IsGathered c.least_clock-key.result l c.in_ok-events.events.items) c.deref-2.ensures.value c.in_ok-events.ensures))

pub returns-clause-some : goal.returns-clause-some
returns-clause-some c = subst (λ (v : CrewView). c.in_ok-events.events.items ≡ [] → c.least_clock-key.result ≡ end_key (world_in v)) c.self.view_is (some_then _ c.self.invariant c.least_clock-key.result (subst (λ (l : List Region). (i : ℕ) (d : Region) → i < length l → IsUptoClock c.least_clock-key.result (slice_index_or l i d)) c.deref.ensures.value c.least_clock-key.ensures.least) (subst (λ (l : List Region). (d : Region) → (i : ℕ) × (i < length l) × IsClockOf c.least_clock-key.result (slice_index_or l i d)) c.deref.ensures.value c.least_clock-key.ensures.some) (subst (λ (v : CrewView). (x : Core) × IsSettled (world_in v) x (core_in v)) (sym c.self.view_is) c.requires.settled) c.in_ok-events.events.items (subst (λ (l : List Region). IsGathered c.least_clock-key.result l c.in_ok-events.events.items) c.deref-2.ensures.value c.in_ok-events.ensures))

pub returns-clause-later : goal.returns-clause-later
returns-clause-later c = subst (λ (v : CrewView). v.horizon is_below end_key (world_in v) → v.horizon is_below c.least_clock-key.result) c.self.view_is (later_then _ c.self.invariant c.least_clock-key.result (subst (λ (l : List Region). (i : ℕ) (d : Region) → i < length l → IsUptoClock c.least_clock-key.result (slice_index_or l i d)) c.deref.ensures.value c.least_clock-key.ensures.least) (subst (λ (l : List Region). (d : Region) → (i : ℕ) × (i < length l) × IsClockOf c.least_clock-key.result (slice_index_or l i d)) c.deref.ensures.value c.least_clock-key.ensures.some) (subst (λ (v : CrewView). (x : Core) × IsSettled (world_in v) x (core_in v)) (sym c.self.view_is) c.requires.settled))

pub returns-clause-empty : goal.returns-clause-empty
returns-clause-empty c = commit_empty _ c.self.invariant c.least_clock-key.result (subst (λ (l : List Region). (i : ℕ) (d : Region) → i < length l → IsUptoClock c.least_clock-key.result (slice_index_or l i d)) c.deref.ensures.value c.least_clock-key.ensures.least) (subst (λ (l : List Region). (d : Region) → (i : ℕ) × (i < length l) × IsClockOf c.least_clock-key.result (slice_index_or l i d)) c.deref.ensures.value c.least_clock-key.ensures.some) (subst (λ (v : CrewView). (x : Core) × IsSettled (world_in v) x (core_in v)) (sym c.self.view_is) c.requires.settled) c.forget_all.new.regions.items c.forget_all.ensures

pub returns-clause-counted : goal.returns-clause-counted
returns-clause-counted c = rw (← c.self.view_is) (commit_rest _ c.self.invariant c.least_clock-key.result (subst (λ (l : List Region). (i : ℕ) (d : Region) → i < length l → IsUptoClock c.least_clock-key.result (slice_index_or l i d)) c.deref.ensures.value c.least_clock-key.ensures.least) (subst (λ (l : List Region). (d : Region) → (i : ℕ) × (i < length l) × IsClockOf c.least_clock-key.result (slice_index_or l i d)) c.deref.ensures.value c.least_clock-key.ensures.some) (subst (λ (v : CrewView). (x : Core) × IsSettled (world_in v) x (core_in v)) (sym c.self.view_is) c.requires.settled) c.forget_all.new.regions.items c.forget_all.ensures _ _ _ _ c.saturating_add-self-inside.ensures
    (c.saturating_add-self-inside-2.ensures ∙ ap (λ n. min (c.self.inside.committed + n) 18446744073709551615) (c.len.ensures ∙ c.in_ok-events.events.ok.0)))
