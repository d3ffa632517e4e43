-- A crew after all regions worked side by side.
use Rattle.std.proofs.Common.{◌≡◌, ◌≢◌, ℕ, zero, suc, ◌==◌, ◌<◌, ◌≤◌, inl, inr, Bool, true, false, List, [], ◌∷◌, ◌++◌, length, drop, refl, sym, ap, ◌∙◌, subst, arith, Option, Some, None, cond, append-nil, if◌then◌else◌}
use Rattle.std.specs.Prelude.{slice_get, nat_lt}
use Rattle.std.proofs.lemmas.Bool.{cases_Bool, ltb-true, ltb-false, lt-ltb}
use Rattle.std.proofs.lemmas.Bool.Decides.{eqb_tells}
use Rattle.std.proofs.lemmas.Option.{slice_get_past, slice_get_within}
use Rattle.surf_kinds.specs.declared.event.Event.{Event}
use Rattle.surf_kinds.specs.declared.event.Key.{Key}
use Rattle.surf_kinds.specs.declared.site.SiteState.{SiteState}
use Rattle.surface_state.specs.SurfaceView.{SurfaceView}
use Rattle.border.specs.declared.op.Op.{Op}
use Rattle.warp_core.specs.World.{World, IsWorld, Agree}
use Rattle.warp_core.specs.Parts.{Part, PartStep, part_run, run_puts, run_takes, MayRun}
use Rattle.warp_core.specs.Cores.{IsConsistent, base_of}
use Rattle.warp_core.proofs.LawLemmas.{run_rebased, round_keeps}
use Rattle.region_run.specs.declared.region.Region.{Region}
use Rattle.region_run.specs.Sides.{SideView, is_other, line_of, ends_of, received_by}
use Rattle.plan.specs.Network.{Network}
use Rattle.regions.specs.Bands.{Bands}
use Rattle.region_run.specs.Regions.{Base, part_of, line_to, ends_with, IsRegion}
use Rattle.crew.specs.Crews.{CrewView, IsCrew, AreUntoldEmpty, world_in, core_in, parts_of, lines_of, got_of, part_if, line_if, ends_if, base_at}
use Rattle.crew.specs.Rounds.{Worked, AllWorked}
use Rattle.crew.proofs.Fronts.{flows, IsFront}
use Rattle.crew.proofs.Untold.{run_none}
use Rattle.crew.proofs.Present.{member, there, laws, fronts}

-- a choice for each number below a bound
pub choose : {A : Type 0} (P : ℕ → A → Type 0) (n : ℕ) (d : A) → ((i : ℕ) → i < n → (a : A) × P i a) → (g : ℕ → A) × ((i : ℕ) → i < n → P i (g i))
choose P zero d f = (λ _. d, λ i h. absurd (omega (arith, h)))
choose P (suc n) d f =
    let r = choose P n d (λ i h. f i (omega (arith, h))) in
    let a = f n (omega (arith)) in (
      λ i. if i == n then a.0 else r.0 i,
      λ i h. elim (eqb_tells i n) [
        | inl q ↦ subst (λ t. P i (cond t a.0 (r.0 i))) (sym q.0) (subst (λ m. P m a.0) (sym q.1) a.1)
        | inr q ↦ subst (λ t. P i (cond t a.0 (r.0 i))) (sym q.0) (r.1 i (omega (arith, h, q.1)))
      ],
    )

-- nothing is put for the region itself
pub no_line : (n : Network) (b : Bands) (until : ℕ) (x : Base) (r : Region) → IsRegion n b until x r → line_to r r.id ≡ []
no_line n b until x r g = ap (λ s. cond s (line_of r.first) (cond (is_other r.second r.id) (line_of r.second) [])) g.sited.not_first ∙ ap (λ s. cond s (line_of r.second) []) g.sited.not_second

pub no_puts : (xs puts : List Op) → xs ≡ [] → xs ++ puts ≡ [] → puts ≡ []
no_puts xs puts h k = sym (ap (λ l. l ++ puts) h) ∙ k

no_ends : (n : Network) (b : Bands) (until : ℕ) (x : Base) (r : Region) → IsRegion n b until x r → received_by (ends_with r r.id) ≡ []
no_ends n b until x r g = ap (λ s. received_by (cond s (ends_of r.first) (cond (is_other r.second r.id) (ends_of r.second) None))) g.sited.not_first ∙ ap (λ s. received_by (cond s (ends_of r.second) None)) g.sited.not_second

-- what is known of a region
record Did (v : CrewView) (base : ℕ → SurfaceView) (rs' : List Region) (i : ℕ) (steps : List PartStep) : Type 0 where
  may : MayRun (world_in v) (base i).sites v.horizon i (parts_of v.regions i) steps
  part : parts_of rs' i ≡ part_run (world_in v) v.horizon i (parts_of v.regions i) steps
  line : (l : ℕ) → lines_of rs' i l ≡ lines_of v.regions i l ++ run_puts (world_in v) v.horizon i (parts_of v.regions i) steps l
  got : (l : ℕ) → got_of rs' i l ≡ got_of v.regions i l ++ run_takes steps l
  itself : run_puts (world_in v) v.horizon i (parts_of v.regions i) steps i ≡ []
  not_taken : run_takes steps i ≡ []

module _ (v : CrewView) (past : ℕ → List Event) (base : ℕ → SurfaceView) (rs' : List Region) (crew : IsCrew v past base) (round : AllWorked v past base rs') where
  did : (i : ℕ) → i < v.bands.count → (steps : List PartStep) × Did v base rs' i steps
  did i h =
      let mr = member v.regions i (omega (arith, h, crew.count)) in
      let mt = member rs' i (omega (arith, h, crew.count, round.len)) in
      let r = mr.0 in
      let t = mt.0 in
      let work = round.each i r t mr.1 mt.1 in
      let g = (crew.region i r mr.1).0 in
      let id : r.id ≡ i = (crew.region i r mr.1).1 in
      let w = world_in v in
      let part : part_of r ≡ parts_of v.regions i = sym (ap part_if mr.1) in
      let none : run_puts w v.horizon r.id (part_of r) work.steps r.id ≡ [] =
      no_puts (line_to r r.id) (run_puts w v.horizon r.id (part_of r) work.steps r.id) (no_line v.network v.bands v.until (base_at v past base i) r g)
      (sym (work.run.puts r.id) ∙ subst (λ m. line_to t m ≡ []) work.run.id (no_line v.network v.bands v.until (base_at v past base i) t work.run.region)) in
      let untaken : run_takes work.steps r.id ≡ [] =
      no_puts (received_by (ends_with r r.id)) (run_takes work.steps r.id) (no_ends v.network v.bands v.until (base_at v past base i) r g)
      (sym (work.received r.id) ∙ subst (λ m. received_by (ends_with t m) ≡ []) work.run.id (no_ends v.network v.bands v.until (base_at v past base i) t work.run.region)) in (
        work.steps,
        record {
          may = subst (λ m. MayRun w (base i).sites v.horizon m (parts_of v.regions i) work.steps) id (subst (λ p. MayRun w (base i).sites v.horizon r.id p work.steps) part work.run.may);
          part = ap part_if mt.1 ∙ (work.run.part ∙ (ap (λ p. part_run w v.horizon r.id p work.steps) part ∙ ap (λ m. part_run w v.horizon m (parts_of v.regions i) work.steps) id));
          line = λ l.
              ap (λ o. line_if o l) mt.1
              ∙ (work.run.puts l
              ∙ (ap (λ x. x ++ run_puts w v.horizon r.id (part_of r) work.steps l) (sym (ap (λ o. line_if o l) mr.1))
              ∙ (ap (λ p. lines_of v.regions i l ++ run_puts w v.horizon r.id p work.steps l) part
              ∙ ap (λ m. lines_of v.regions i l ++ run_puts w v.horizon m (parts_of v.regions i) work.steps l) id)));
          got = λ l. ap (λ o. received_by (ends_if o l)) mt.1 ∙ (work.received l ∙ ap (λ x. x ++ run_takes work.steps l) (sym (ap (λ o. received_by (ends_if o l)) mr.1)));
          itself = subst (λ m. run_puts w v.horizon m (parts_of v.regions i) work.steps m ≡ []) id (subst (λ p. run_puts w v.horizon r.id p work.steps r.id ≡ []) part none);
          not_taken = subst (λ m. run_takes work.steps m ≡ []) id untaken;
        },
      )

  chosen : (d : ℕ → List PartStep) × ((i : ℕ) → i < v.bands.count → Did v base rs' i (d i))
  chosen = choose (Did v base rs') v.bands.count [] did

  pub crew_joined : IsCrew (record v { regions = rs' }) past base
  crew_joined =
      record {
        count = round.len ∙ crew.count;
        cut = crew.cut;
        lattice = crew.lattice;
        short = crew.short;
        region = λ i t at.
            let h : i < length v.regions = omega (arith, slice_get_within rs' i t at, round.len) in
            let mr = member v.regions i h in
            let work = round.each i mr.0 t mr.1 at in
            (work.run.region, work.run.id ∙ (crew.region i mr.0 mr.1).1);
        agree = crew.agree;
        ties = round.ties;
      }

  steps : ℕ → List PartStep
  steps i = cond (nat_lt i v.bands.count) (chosen.0 i) []

  steps_is : (i : ℕ) → i < v.bands.count → steps i ≡ chosen.0 i
  unfolding steps
  steps_is i h = ap (λ t. cond t (chosen.0 i) []) (lt-ltb i v.bands.count h)

  part_is : (i : ℕ) → part_run (world_in v) v.horizon i (parts_of v.regions i) (steps i) ≡ parts_of rs' i
  unfolding steps
  part_is i =
      elim (cases_Bool (nat_lt i v.bands.count)) [
        | inl p ↦ ap (λ t. part_run (world_in v) v.horizon i (parts_of v.regions i) (cond t (chosen.0 i) [])) p ∙ sym (chosen.1 i (ltb-true i v.bands.count p)).part
        | inr p ↦
            let out = ltb-false i v.bands.count p in
            ap (λ t. part_run (world_in v) v.horizon i (parts_of v.regions i) (cond t (chosen.0 i) [])) p
            ∙ (ap part_if (slice_get_past v.regions i (omega (arith, out, crew.count))) ∙ sym (ap part_if (slice_get_past rs' i (omega (arith, out, crew.count, round.len)))))
      ]

  flow_between : (j i : ℕ) → j < v.bands.count → i < v.bands.count
      → (core_in v).channel j i ++ run_puts (world_in v) v.horizon j (parts_of v.regions j) (chosen.0 j) i ≡ run_takes (chosen.0 i) j ++ (core_in (record v { regions = rs' })).channel j i
  flow_between j i a b =
      let dj = chosen.1 j a in
      let di = chosen.1 i b in
      elim (eqb_tells j i) [
        | inl q ↦
            ap (λ t. cond t [] (drop (length (got_of v.regions i j)) (lines_of v.regions j i)) ++ run_puts (world_in v) v.horizon j (parts_of v.regions j) (chosen.0 j) i) q.0
            ∙ (subst (λ m. run_puts (world_in v) v.horizon j (parts_of v.regions j) (chosen.0 j) m ≡ []) q.1 dj.itself
            ∙ sym (ap (λ t. run_takes (chosen.0 i) j ++ cond t [] (drop (length (got_of rs' i j)) (lines_of rs' j i))) q.0 ∙ (append-nil (run_takes (chosen.0 i) j) ∙ subst (λ m. run_takes (chosen.0 i) m ≡ []) (sym q.1) di.not_taken)))
        | inr q ↦
            let puts = run_puts (world_in v) v.horizon j (parts_of v.regions j) (chosen.0 j) i in
            let handed = run_takes (chosen.0 i) j in
            let after : IsFront (got_of v.regions i j ++ handed) (lines_of v.regions j i ++ puts) =
            subst (λ g. IsFront g (lines_of v.regions j i ++ puts)) (di.got j) (subst (IsFront (got_of rs' i j)) (dj.line i) (fronts rs' round.ties j i q.1)) in
            ap (λ t. cond t [] (drop (length (got_of v.regions i j)) (lines_of v.regions j i)) ++ puts) q.0
            ∙ (flows (got_of v.regions i j) (lines_of v.regions j i) puts handed (fronts v.regions crew.ties j i q.1) after
            ∙ (ap (λ g. handed ++ drop (length g) (lines_of v.regions j i ++ puts)) (sym (di.got j))
            ∙ (ap (λ l. handed ++ drop (length (got_of rs' i j)) l) (sym (dj.line i))
            ∙ sym (ap (λ t. handed ++ cond t [] (drop (length (got_of rs' i j)) (lines_of rs' j i))) q.0))))
      ]

  pub untold_joined : AreUntoldEmpty (world_in v) (core_in v) → AreUntoldEmpty (world_in v) (core_in (record v { regions = rs' }))
  untold_joined empty j i a b untold =
      let puts : run_puts (world_in v) v.horizon j (parts_of v.regions j) (chosen.0 j) i ≡ [] = run_none (world_in v) j i untold (base j).sites v.horizon (parts_of v.regions j) (chosen.0 j) (chosen.1 j a).may in
      no_end (run_takes (chosen.0 i) j) ((core_in (record v { regions = rs' })).channel j i)
      (sym (flow_between j i a b) ∙ (ap (λ xs. (core_in v).channel j i ++ xs) puts ∙ (append-nil ((core_in v).channel j i) ∙ empty j i a b untold)))
    where
      no_end : (xs ys : List Op) → xs ++ ys ≡ [] → ys ≡ []
      no_end [] ys h = h
      no_end (x ∷ xs) ys h = absurd (omega (arith, ap (λ (l : List Op). length l) h))

  pub consistent_joined : IsConsistent (world_in v) (core_in v) → IsConsistent (world_in v) (core_in (record v { regions = rs' }))
  consistent_joined good =
      subst (λ (p : ℕ → Part). IsConsistent (world_in v) (record (core_in v) { part = p; channel = (core_in (record v { regions = rs' })).channel })) (λ e i. part_is i e)
      (round_keeps (world_in v) (laws v past base crew) (core_in v) steps (core_in (record v { regions = rs' })).channel good
      (λ i h. subst (λ s. MayRun (world_in v) (base_of (world_in v) (core_in v)) v.horizon i (parts_of v.regions i) s) (sym (steps_is i h))
      (run_rebased (world_in v) (laws v past base crew) (base i).sites (base_of (world_in v) (core_in v)) v.horizon i (parts_of v.regions i) (chosen.0 i) (crew.agree i h) (chosen.1 i h).may))
      (λ j i a b. subst (λ s. (core_in v).channel j i ++ run_puts (world_in v) v.horizon j (parts_of v.regions j) s i ≡ run_takes (steps i) j ++ (core_in (record v { regions = rs' })).channel j i) (sym (steps_is j a))
      (subst (λ s. (core_in v).channel j i ++ run_puts (world_in v) v.horizon j (parts_of v.regions j) (chosen.0 j) i ≡ run_takes s j ++ (core_in (record v { regions = rs' })).channel j i) (sym (steps_is i b)) (flow_between j i a b))))
