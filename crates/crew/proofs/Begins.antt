-- A crew at its start.
use Rattle.std.proofs.Common.{◌≡◌, ◌≢◌, ℕ, ◌==◌, inl, inr, Bool, true, false, List, [], length, drop, refl, sym, ap, ◌∙◌, subst, cond, Option, Some, None}
use Rattle.std.specs.Prelude.{slice_get, All, ◌^◌}
use Rattle.std.proofs.Common.{◌≤◌, arith}
use Rattle.std.proofs.Math.Seq.{drop-nil}
use Rattle.lattice.specs.Surface.{first_surface}
use Rattle.surface_state.specs.SurfaceView.{SurfaceView}
use Rattle.surf_kinds.specs.declared.event.Event.{Event}
use Rattle.surf_kinds.specs.Keys.{is_before, origin, below}
use Rattle.surf_kinds.proofs.Order.{is_upto_origin}
use Rattle.surf_kinds.proofs.Tables.{keep_none, all_keys}
use Rattle.border.specs.declared.op.Op.{Op}
use Rattle.warp_core.specs.World.{after_all, Agree}
use Rattle.warp_core.specs.Cores.{Core, IsConsistent, first_core}
use Rattle.regions.specs.Bands.{IsCut}
use Rattle.warp_core.specs.Configs.{IsFresh}
use Rattle.warp_core.proofs.LawLemmas.{first_consistent, fresh_sites}
use Rattle.region_run.specs.Regions.{Base, IsRegion}
use Rattle.region_run.specs.Sides.{raised}
use Rattle.crew.specs.Balances.{AreBalanced}
use Rattle.crew.proofs.Balances.{first_balanced}
use Rattle.crew.specs.Crews.{CrewView, IsCrew, IsReady, world_in, core_in, species_of, parts_of, lines_of, got_of, part_if, line_if, base_at}
use Rattle.crew.specs.Rounds.{AreFirst, AreFirstRegions}
use Rattle.crew.proofs.Present.{there}
use Rattle.crew.proofs.Fronts.{IsFront}

module _ (v : CrewView) (a : AreFirst v) where
  none_yet : below v.horizon (world_in v).history ≡ []
  none_yet = ap (λ k. below k (world_in v).history) a.horizon ∙ keep_none (λ j. is_before j origin) (world_in v).history (all_keys (λ j. is_before j origin ≡ false) is_upto_origin (world_in v).history)

  whole : after_all (world_in v) (world_in v).start (below v.horizon (world_in v).history) ≡ v.start.sites
  whole = ap (after_all (world_in v) (world_in v).start) none_yet ∙ sym a.fresh

  pub crew_first : IsCrew v (λ _. []) (λ _. v.start)
  crew_first =
      record {
        count = a.regions.count;
        cut = a.cut;
        lattice = a.lattice;
        short = a.short;
        region = λ i r at.
            let f = a.regions.each i r at in
            (subst (λ k. IsRegion v.network v.bands v.until (record (base_at v (λ _. []) (λ _. v.start) i) { floor = k }) r) (sym a.horizon) (f.region v.until a.short), f.id);
        agree = λ i h. subst (λ s. Agree (world_in v) i v.start.sites s) (sym whole) (λ s _. refl);
        ties = a.regions.ties;
      }

  part_is : (i : ℕ) → parts_of v.regions i ≡ record { timeline = []; clock = origin; stack = λ _. [] }
  part_is i =
      elim (there v.regions i) [
        | inl m ↦
            let f = a.regions.each i m.0 m.1 in
            ap part_if m.1 ∙ (λ e. record { timeline = f.timeline e; clock = f.clock e; stack = λ l. f.stack l e })
        | inr m ↦ ap part_if m.0
      ]

  line_is : (j i : ℕ) → lines_of v.regions j i ≡ []
  line_is j i =
      elim (there v.regions j) [
        | inl m ↦ ap (λ o. line_if o i) m.1 ∙ (a.regions.each j m.0 m.1).line i
        | inr m ↦ ap (λ o. line_if o i) m.0
      ]

  chan : (j i : ℕ) → (core_in v).channel j i ≡ []
  chan j i = ap (λ l. cond (j == i) [] (drop (length (got_of v.regions i j)) l)) (line_is j i) ∙ both (j == i) (length (got_of v.regions i j))
    where
      nothing : (n : ℕ) → drop {A = Op} n [] ≡ []
      nothing n = drop-nil n

      both : (t : Bool) (n : ℕ) → cond {A = List Op} t [] (drop n []) ≡ []
      both true n = refl
      both false n = nothing n

  pub consistent_first : IsConsistent (world_in v) (core_in v)
  consistent_first =
      subst (λ (c : Core). IsConsistent (world_in v) c) (sym (λ e. record { horizon = a.horizon e; committed = none_yet e; part = λ i. part_is i e; channel = λ j i. chan j i e })) (first_consistent (world_in v))

-- a crew at its start, with a quota that a turn may have
pub ready_first : (v : CrewView) → AreFirst v → 1 ≤ v.quota → v.quota ≤ 65536 → v.rounds ≡ 0 → v.committed ≡ 0 → IsReady v
ready_first v a low high none no_events = record { few = omega (arith, none); fewer = λ _. omega (arith, none); handed_out = no_events ∙ sym (ap (λ (l : List Event). raised 0 (length l)) (none_yet v a)); balanced = balance; past = λ _. []; base = λ _. v.start; crew = crew_first v a; consistent = consistent_first v a; untold = λ j i _ _ _. chan v a j i; at_least = low; at_most = high }
  where
    balance : AreBalanced v.regions (length (below v.horizon (world_in v).history))
    balance =
        subst (AreBalanced v.regions) (sym (ap (λ (l : List Event). length l) (none_yet v a))) (first_balanced v.regions (λ i r at. let f = a.regions.each i r at in (f.totals, f.timeline)))

-- what a crew is made of is at its start
pub are_first : (v : CrewView) (s : SurfaceView) → v.start ≡ s → v.horizon ≡ origin → All IsFresh s.sites → IsCut v.bands → v.bands.lattice ≡ v.network.lattice → v.until ≤ 10 ^ 15 → AreFirstRegions v.network v.bands s v.regions → AreFirst v
are_first v s same horizon fresh cut lattice short regions =
    record {
      horizon = horizon;
      fresh = subst (λ (x : SurfaceView). x.sites ≡ first_surface (species_of x)) (sym same) (fresh_sites s.sites fresh);
      cut = cut;
      lattice = lattice;
      short = short;
      regions = subst (λ x. AreFirstRegions v.network v.bands x v.regions) (sym same) regions;
    }
