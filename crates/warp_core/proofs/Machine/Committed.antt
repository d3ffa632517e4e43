-- What a commit leaves.
use Rattle.std.proofs.Common.{◌≡◌, ℕ, ◌<◌, ◌≤◌, inl, inr, List, [], ◌++◌, length, refl, sym, ap, ◌∙◌, subst, arith, slice_index_or, None}
use Rattle.std.specs.Prelude.{slice_get}
use Rattle.std.specs.Option.{option_map_or}
use Rattle.std.proofs.lemmas.Bool.{cases_lt}
use Rattle.std.proofs.lemmas.Option.{slice_get_past}
use Rattle.std.proofs.lemmas.List.{get_or_default}
use Rattle.surf_kinds.specs.declared.event.Event.{Event}
use Rattle.surf_kinds.specs.declared.event.Key.{Key}
use Rattle.surf_kinds.specs.Keys.{origin, below as below_key, from as from_key, ◌is_below◌}
use Rattle.surf_kinds.proofs.Order.{lt_le}
use Rattle.surf_kinds.proofs.Tables.{AllKeys_weaker, AllKeys_append}
use Rattle.lattice.specs.Surface.{first_surface}
use Rattle.plan.specs.Network.{Network}
use Rattle.border.specs.Stacked.{stack_of}
use Rattle.timeline.specs.TimelineView.{events_of}
use Rattle.regions.specs.Bands.{Bands}
use Rattle.warp_core.specs.World.{Agree, after_all}
use Rattle.warp_core.specs.Simulation.{Setting, world_in}
use Rattle.warp_core.specs.Parts.{Part}
use Rattle.warp_core.specs.Steps.{MayCommit, own_events_below, after_commit, StepOf}
use Rattle.warp_core.specs.Grounds.{IsGround, ArePlaces}
use Rattle.warp_core.specs.Regions.{part_of, outbox_of}
use Rattle.warp_core.specs.Commits.{IsForgotten, AreForgotten}
use Rattle.warp_core.specs.Configs.{core_of, core_with, IsHome, AreHomes, IsConfigOf}
use Rattle.warp_core.specs.declared.config.Config.{Config}
use Rattle.warp_core.specs.declared.region.Region.{Region}
use Rattle.warp_core.specs.declared.step.Step.TheVariants.{Commit}
use Rattle.warp_core.proofs.Theory.Cuts.{AllKeys_below}
use Rattle.warp_core.proofs.Theory.Commits.{own_base_kept}
use Rattle.warp_core.proofs.Simulation.Instance.{same_after_all}
use Rattle.warp_core.proofs.Machine.Runs.{events-from}
use Rattle.warp_core.proofs.Machine.Ground.{drop_ground, run_places}
use Rattle.warp_core.proofs.Machine.Cores.{same_core, part_is, outbox_is}
use Rattle.warp_core.proofs.Machine.Stepping.{some_region, setting_here, home_of}

-- the entries of each region are at places
pub places_of : (n : Network) (s : Setting) (c : Config) → IsConfigOf n s c → (i : ℕ) (d : Region) → i < length c.regions.items → ArePlaces c.cut.lattice (slice_index_or c.regions.items i d).timeline.entries
places_of n s c g i d q =
    let r = slice_index_or c.regions.items i d in
    let h = home_of n s c i r g q (get_or_default c.regions.items i d r q) in
    subst (λ l. ArePlaces l r.timeline.entries) (sym (ap (λ (b : Bands). b.lattice) g.bands ∙ g.setting.lattice)) (run_places n h.base r.surface r.timeline.entries h.ground.lattice h.ground.run)

module _ (n : Network) (s : Setting) (c : Config) (g : IsConfigOf n s c) (k : Key) (may : MayCommit (world_in n s) (core_of c) k) (new : List Region) (gone : AreForgotten k c.regions.items new) (merged : List Event) (is : merged ≡ own_events_below (world_in n s) (core_of c) k s.bands.count) where
  -- a region and what is left of it
  at_it : (i : ℕ) (r : Region) → i < length c.regions.items → r ≡ slice_index_or c.regions.items i r → (t : Region) × (t ≡ slice_index_or new i t) × IsForgotten k r t
  at_it i r q here =
      let t = slice_index_or new i r in
      (t, get_or_default new i r t (omega (arith, q, gone.long)), subst (λ x. IsForgotten k x t) (sym here) (gone.each i r q))

  left_part : (r t : Region) → IsForgotten k r t → ◌≡◌ {A = Part} (part_of t) (record { timeline = from_key k (events_of r.timeline.entries); clock = r.clock; stack = stack_of r.stacks })
  left_part r t f =
      let timeline : events_of t.timeline.entries ≡ from_key k (events_of r.timeline.entries) = ap events_of f.entries ∙ events-from k r.timeline.entries in
      λ i. record { timeline = timeline i; clock = ap (λ (x : Region). x.clock) f.same i; stack = ap (λ (x : Region). stack_of x.stacks) f.same i }

  no_region : (i : ℕ) → length c.regions.items ≤ i → (slice_get c.regions.items i ≡ None) × (slice_get new i ≡ None)
  no_region i h = (slice_get_past c.regions.items i h, slice_get_past new i (omega (arith, h, gone.long)))

  pub committed_core : core_with k (c.committed.items ++ merged) new ≡ after_commit (world_in n s) (core_of c) k
  committed_core =
      same_core _ _ refl (ap (λ l. c.committed.items ++ l) is)
      (λ i. elim (cases_lt i (length c.regions.items)) [
        | inl q ↦
            let r = some_region c.regions.items i q in
            let t = at_it i r.0 q r.1 in
            part_is new i t.0 (omega (arith, q, gone.long)) t.1
            ∙ (left_part r.0 t.0 t.2
            ∙ ap {B = Part} (λ (p : Part). record { timeline = from_key k p.timeline; clock = p.clock; stack = p.stack }) (sym (part_is c.regions.items i r.0 q r.1)))
        | inr q ↦
            let none = no_region i q in
            ap (λ o. option_map_or part_of o (record { timeline = []; clock = origin; stack = λ _. [] })) none.1
            ∙ sym (ap {B = Part} (λ o. let p : Part = option_map_or part_of o (record { timeline = []; clock = origin; stack = λ _. [] }) in record { timeline = from_key k p.timeline; clock = p.clock; stack = p.stack }) none.0)
      ])
      (λ j l. elim (cases_lt j (length c.regions.items)) [
        | inl q ↦
            let r = some_region c.regions.items j q in
            let t = at_it j r.0 q r.1 in
            outbox_is new j t.0 l (omega (arith, q, gone.long)) t.1
            ∙ (ap (λ (x : Region). outbox_of x l) t.2.same ∙ sym (outbox_is c.regions.items j r.0 l q r.1))
        | inr q ↦
            let none = no_region j q in
            ap (λ o. option_map_or (λ (x : Region). outbox_of x l) o []) none.1 ∙ sym (ap (λ o. option_map_or (λ (x : Region). outbox_of x l) o []) none.0)
      ])

  pub commit_made : StepOf (world_in n s) (core_of c) (Commit k) (core_with k (c.committed.items ++ merged) new)
  commit_made = (may, committed_core)

  pub committed_homes : AreHomes n s k (c.committed.items ++ merged) new
  committed_homes i d b =
      let q : i < length c.regions.items = omega (arith, b, g.count) in
      let r = some_region c.regions.items i q in
      let t = at_it i r.0 q r.1 in
      let h = home_of n s c i r.0 g q r.1 in
      let w = world_in n s in
      let moved = drop_ground n s.cells h.past h.base r.0.timeline.entries r.0.surface h.ground k in
      let events = events_of r.0.timeline.entries in
      let base_is : moved.0.sites ≡ after_all w h.base.sites (below_key k ((core_of c).part i).timeline) =
      moved.2 ∙ (same_after_all n s.bands s.until (first_surface s.cells) (below_key k events) h.base.sites ∙ ap (λ (p : Part). after_all w h.base.sites (below_key k p.timeline)) (sym (part_is c.regions.items i r.0 q r.1))) in
      let kept = own_base_kept w (setting_here n s c g) (core_of c) k g.consistent may i b h.base.sites h.agree in
      let home : IsHome n s k (c.committed.items ++ merged) i t.0 =
      record {
        past = h.past ++ below_key k events;
        base = moved.0;
        ground = subst (λ es. IsGround n s.cells (h.past ++ below_key k events) moved.0 es t.0.surface) (sym t.2.entries)
            (subst (IsGround n s.cells (h.past ++ below_key k events) moved.0 (Rattle.timeline.specs.TimelineView.from k r.0.timeline.entries)) (sym (ap (λ (x : Region). x.surface) t.2.same)) moved.1);
        early = AllKeys_append (λ j. j is_below k) h.past (below_key k events) (AllKeys_weaker (λ j. j is_below c.horizon) (λ j. j is_below k) (λ j u. lt_le j c.horizon k u may.from_horizon) h.past h.early) (AllKeys_below k events);
        agree = subst (λ sites. Agree w i sites (after_all w w.start (c.committed.items ++ merged))) (sym base_is)
            (subst (λ l. Agree w i (after_all w h.base.sites (below_key k ((core_of c).part i).timeline)) (after_all w w.start (c.committed.items ++ l))) (sym is) kept);
        sized = record {
          stacks = ap (λ (x : Region). length x.stacks.stacks) t.2.same ∙ h.sized.stacks;
          outboxes = ap (λ (x : Region). length x.outboxes.items) t.2.same ∙ h.sized.outboxes;
        };
      } in
      subst (IsHome n s k (c.committed.items ++ merged) i) (t.1 ∙ sym (get_or_default new i d t.0 (omega (arith, q, gone.long)))) home
