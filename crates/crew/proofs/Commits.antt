-- The commit of a crew at the least clock.
use Rattle.std.proofs.Common.{◌≡◌, ◌≢◌, ℕ, ◌==◌, ◌<◌, ◌≤◌, inl, inr, ◌⊎◌, List, [], ◌++◌, length, drop, refl, sym, ap, ◌∙◌, subst, arith, Option, Some, None, cond, slice_index_or}
use Rattle.std.specs.Prelude.{slice_get, IsPermutation, nat_lt}
use Rattle.std.proofs.lemmas.Bool.{cases_Bool, ltb-true, ltb-false}
use Rattle.std.proofs.lemmas.Option.{slice_get_past, slice_get_within}
use Rattle.surf_kinds.specs.declared.event.Event.{Event}
use Rattle.surf_kinds.specs.declared.event.Key.{Key}
use Rattle.surf_kinds.specs.Keys.{keep, below, from, RiseStrictly, ◌is_upto◌, ◌is_below◌}
use Rattle.surface_state.specs.SurfaceView.{SurfaceView}
use Rattle.ordered_commit.specs.Merge.{AreMergeable, all_events}
use Rattle.border.specs.declared.op.Op.{Op}
use Rattle.warp_core.specs.World.{IsWorld, Agree, is_own, after_all, end_key}
use Rattle.warp_core.specs.Parts.{Part}
use Rattle.warp_core.specs.Cores.{Core, IsConsistent, base_of}
use Rattle.warp_core.specs.Steps.{MayCommit, own_events_below, after_commit}
use Rattle.warp_core.specs.Settling.{IsSettled, IsLeastClock}
use Rattle.warp_core.proofs.LawLemmas.{may_commit, round_gives, round_moves, handed_out, mergeable, merged_is, commit_keeps, forgetful_keeps, own_base_kept}
use Rattle.region_run.specs.declared.region.Region.{Region}
use Rattle.region_run.specs.Channels.{AreTied}
use Rattle.region_run.specs.Sides.{received_by}
use Rattle.region_run.specs.Regions.{Base, part_of, line_to, ends_with, IsRegion}
use Rattle.crew.specs.Crews.{CrewView, IsCrew, world_in, core_in, core_from, parts_of, lines_of, ends_of, got_of, part_if, line_if, ends_if, base_at, species_of}
use Rattle.crew.specs.Rounds.{AllCommitted, AreOwnLists, IsLeastOf}
use Rattle.crew.proofs.Present.{member, there, laws}
use Rattle.crew.proofs.Joins.{choose}

-- the part without what it has below a key
abbrev forgotten : Key → Part → Part
forgotten k p = record { timeline = from k p.timeline; clock = p.clock; stack = λ l. from k (p.stack l) }

-- what each region stands on then
record IsAfter (v : CrewView) (base : ℕ → SurfaceView) (k : Key) (rs' : List Region) (i : ℕ) (x : Base) : Type 0 where
  cells : x.cells ≡ species_of v.start
  floor : x.floor ≡ k
  surface : x.surface.sites ≡ after_all (world_in v) (base i).sites (below k (parts_of v.regions i).timeline)
  region : (t : Region) → slice_get rs' i ≡ Some t → IsRegion v.network v.bands v.until x t × (t.id ≡ i)

module _ (v : CrewView) (past : ℕ → List Event) (base : ℕ → SurfaceView) (crew : IsCrew v past base) where
  -- the least clock, of the core
  pub least_clock : (k : Key) → IsLeastOf v.regions k → IsLeastClock (world_in v) (core_in v) k
  least_clock k l =
      record {
        least = λ i h. let m = member v.regions i (omega (arith, h, crew.count)) in subst (λ o. k is_upto (part_if o).clock) (sym m.1) (l.least i m.0 m.1);
        some = let s = l.some in (s.0, omega (arith, slice_get_within v.regions s.0 s.1 s.2, crew.count), s.3 ∙ sym (ap (λ o. (part_if o).clock) s.2));
      }

  module _ (good : IsConsistent (world_in v) (core_in v)) (k : Key) (may : MayCommit (world_in v) (core_in v) k) where
    -- what is handed out
    module _ (lists : List (List Event)) (own : AreOwnLists v k lists) where
      list_is : (i : ℕ) → i < v.bands.count → slice_index_or lists i [] ≡ keep (is_own (world_in v) i) (below k (parts_of v.regions i).timeline)
      list_is i h =
          let m = member v.regions i (omega (arith, h, crew.count)) in
          own.each i m.0 m.1
          ∙ (ap (λ n. keep (is_own (world_in v) n) (below k (part_of m.0).timeline)) (crew.region i m.0 m.1).1
          ∙ ap (λ o. keep (is_own (world_in v) i) (below k (part_if o).timeline)) (sym m.1))

      pub can_merge : AreMergeable lists
      can_merge = mergeable (world_in v) (laws v past base crew) (core_in v) good k may lists own.len list_is

      pub merged : (events : List Event) → IsPermutation (all_events lists) events → RiseStrictly events → events ≡ own_events_below (world_in v) (core_in v) k v.bands.count
      merged = merged_is (world_in v) (laws v past base crew) (core_in v) good k may lists own.len list_is

      pub handed : (events : List Event) → IsPermutation (all_events lists) events → RiseStrictly events → events ≡ from v.horizon (below k (world_in v).history)
      handed events all order = merged events all order ∙ handed_out (world_in v) (laws v past base crew) (core_in v) k good may

    -- what is left
    module _ (rs' : List Region) (gone : AllCommitted v past base k rs') where
      at_it : (i : ℕ) → i < v.bands.count → (r : Region) × (t : Region) × (slice_get v.regions i ≡ Some r) × (slice_get rs' i ≡ Some t)
      at_it i h =
          let r = member v.regions i (omega (arith, h, crew.count)) in
          let t = member rs' i (omega (arith, h, crew.count, gone.len)) in
          (r.0, t.0, r.1, t.1)

      no_region : (i : ℕ) → v.bands.count ≤ i → (slice_get v.regions i ≡ None) × (slice_get rs' i ≡ None)
      no_region i h = (slice_get_past v.regions i (omega (arith, h, crew.count)), slice_get_past rs' i (omega (arith, h, crew.count, gone.len)))

      part_is : (i : ℕ) → parts_of rs' i ≡ record { timeline = from k (parts_of v.regions i).timeline; clock = (parts_of v.regions i).clock; stack = λ l. from k ((parts_of v.regions i).stack l) }
      part_is i =
          elim (cases_Bool (nat_lt i v.bands.count)) [
            | inl p ↦
                let m = at_it i (ltb-true i v.bands.count p) in
                let c = gone.each i m.0 m.1 m.2 m.3 in
                ap part_if m.3
                ∙ ((λ e. record { timeline = c.timeline e; clock = c.clock e; stack = λ l. c.stacks l e })
                ∙ ap (λ o. forgotten k (part_if o)) (sym m.2))
            | inr p ↦ let n = no_region i (ltb-false i v.bands.count p) in ap part_if n.1 ∙ ap (λ o. forgotten k (part_if o)) (sym n.0)
          ]

      line_is : (i l : ℕ) → lines_of rs' i l ≡ lines_of v.regions i l
      line_is i l =
          elim (cases_Bool (nat_lt i v.bands.count)) [
            | inl p ↦ let m = at_it i (ltb-true i v.bands.count p) in ap (λ o. line_if o l) m.3 ∙ (gone.line i m.0 m.1 m.2 m.3 l ∙ sym (ap (λ o. line_if o l) m.2))
            | inr p ↦ let n = no_region i (ltb-false i v.bands.count p) in ap (λ o. line_if o l) n.1 ∙ sym (ap (λ o. line_if o l) n.0)
          ]

      ends_is : (i l : ℕ) → ends_of rs' i l ≡ ends_of v.regions i l
      ends_is i l =
          elim (cases_Bool (nat_lt i v.bands.count)) [
            | inl p ↦ let m = at_it i (ltb-true i v.bands.count p) in ap (λ o. ends_if o l) m.3 ∙ (gone.ends i m.0 m.1 m.2 m.3 l ∙ sym (ap (λ o. ends_if o l) m.2))
            | inr p ↦ let n = no_region i (ltb-false i v.bands.count p) in ap (λ o. ends_if o l) n.1 ∙ sym (ap (λ o. ends_if o l) n.0)
          ]

      -- the core commits, and the stacks forget
      after_is : (after_commit (world_in v) (core_in v) k).committed ≡ below k (world_in v).history
      after_is = (commit_keeps (world_in v) (laws v past base crew) (core_in v) k good may).committed

      core_is : core_in (record v { horizon = k; regions = rs' }) ≡ record (after_commit (world_in v) (core_in v) k) { part = λ i. record { timeline = ((after_commit (world_in v) (core_in v) k).part i).timeline; clock = ((after_commit (world_in v) (core_in v) k).part i).clock; stack = λ l. from k (((after_commit (world_in v) (core_in v) k).part i).stack l) } }
      core_is =
          λ e. record {
            horizon = k;
            committed = sym after_is e;
            part = λ i. part_is i e;
            channel = λ j i. cond (j == i) [] (drop (length (received_by (ends_is i j e))) (line_is j i e));
          }

      -- no message comes or goes
      pub same_channel : (j i : ℕ) → (core_in (record v { horizon = k; regions = rs' })).channel j i ≡ (core_in v).channel j i
      same_channel j i = λ e. (core_is e).channel j i

      pub consistent_then : IsConsistent (world_in v) (core_in (record v { horizon = k; regions = rs' }))
      consistent_then =
          subst (λ (c : Core). IsConsistent (world_in v) c) (sym core_is)
          (forgetful_keeps (world_in v) (after_commit (world_in v) (core_in v) k) (commit_keeps (world_in v) (laws v past base crew) (core_in v) k good may))

      after_one : (i : ℕ) → i < v.bands.count → (x : Base) × IsAfter v base k rs' i x
      after_one i h =
          let m = at_it i h in
          let c = gone.each i m.0 m.1 m.2 m.3 in (
            c.base_after,
            record {
              cells = c.cells;
              floor = c.floor;
              surface = c.surface ∙ ap (λ o. after_all (world_in v) (base i).sites (below k (part_if o).timeline)) (sym m.2);
              region = λ t at.
                  let is : m.1 ≡ t = Rattle.std.proofs.lemmas.Option.same_Some m.1 t (sym m.3 ∙ at) in
                  subst (λ y. IsRegion v.network v.bands v.until c.base_after y × (y.id ≡ i)) is (c.region, gone.id i m.0 m.1 m.2 m.3 ∙ (crew.region i m.0 m.2).1);
            },
          )

      chosen : (x : ℕ → Base) × ((i : ℕ) → i < v.bands.count → IsAfter v base k rs' i (x i))
      chosen = choose (IsAfter v base k rs') v.bands.count (base_at v past base 0) after_one

      pub past_then : ℕ → List Event
      past_then i = (chosen.0 i).past

      pub base_then : ℕ → SurfaceView
      base_then i = (chosen.0 i).surface

      base_is : (i : ℕ) → i < v.bands.count → chosen.0 i ≡ record { cells = species_of v.start; past = (chosen.0 i).past; surface = (chosen.0 i).surface; floor = k }
      base_is i h = let a = chosen.1 i h in λ e. record { cells = a.cells e; past = (chosen.0 i).past; surface = (chosen.0 i).surface; floor = a.floor e }

      pub crew_then : IsCrew (record v { horizon = k; regions = rs' }) past_then base_then
      unfolding past_then base_then
      crew_then =
          record {
            count = gone.len ∙ crew.count;
            cut = crew.cut;
            lattice = crew.lattice;
            short = crew.short;
            region = λ i t at.
                let h : i < v.bands.count = omega (arith, slice_get_within rs' i t at, gone.len, crew.count) in
                let r = (chosen.1 i h).region t at in
                (subst (λ x. IsRegion v.network v.bands v.until x t) (base_is i h) r.0, r.1);
            agree = λ i h.
                subst (λ l. Agree (world_in v) i (chosen.0 i).surface.sites (after_all (world_in v) (world_in v).start l)) after_is
                (subst (λ s. Agree (world_in v) i s (base_of (world_in v) (after_commit (world_in v) (core_in v) k))) (sym (chosen.1 i h).surface)
                (own_base_kept (world_in v) (laws v past base crew) (core_in v) k good may i h (base i).sites (crew.agree i h)));
            ties = λ i j n. subst (λ x. AreTied x (ends_of rs' j i)) (sym (ends_is i j)) (subst (λ x. AreTied (ends_of v.regions i j) x) (sym (ends_is j i)) (crew.ties i j n));
          }
