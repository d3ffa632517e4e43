-- A crew after a step of one region.
use Rattle.std.proofs.Common.{◌≡◌, ◌≢◌, ℕ, ◌==◌, ◌<◌, inl, inr, List, [], ◌∷◌, ◌++◌, length, refl, sym, ap, ◌∙◌, subst, arith, Option, Some, None, cond}
use Rattle.std.specs.Prelude.{slice_get}
use Rattle.std.proofs.lemmas.Bool.{eq-eqb}
use Rattle.std.proofs.lemmas.Bool.Decides.{eqb_tells}
use Rattle.std.proofs.lemmas.Option.{same_Some}
use Rattle.surf_kinds.specs.declared.event.Event.{Event}
use Rattle.surf_kinds.specs.declared.event.Key.{Key}
use Rattle.surface_state.specs.SurfaceView.{SurfaceView}
use Rattle.border.specs.declared.op.Op.{Op}
use Rattle.warp_core.specs.World.{World}
use Rattle.warp_core.specs.Parts.{Part, PartStep, part_after, step_puts, step_takes, MayStep}
use Rattle.warp_core.specs.Cores.{IsConsistent, base_of}
use Rattle.warp_core.specs.Steps.{with_part}
use Rattle.warp_core.specs.Settling.{StepsOne, IsNextKey}
use Rattle.warp_core.proofs.LawLemmas.{next_rebased, none_rebased}
use Rattle.region_run.specs.declared.region.Region.{Region}
use Rattle.region_run.specs.declared.side.Ends.{Ends}
use Rattle.region_run.specs.Sides.{received_by}
use Rattle.region_run.specs.Channels.{AreTied}
use Rattle.region_run.specs.Starts.{IsNextKeyOf}
use Rattle.region_run.specs.Regions.{Base, part_of, line_to, ends_with, IsRegion}
use Rattle.crew.specs.Crews.{CrewView, IsCrew, world_in, core_in, core_from, parts_of, lines_of, ends_of, got_of, part_if, line_if, ends_if, base_at}
use Rattle.region_run.specs.Deliveries.{IsSame}
use Rattle.crew.specs.Rounds.{Stepped, IsOne}
use Rattle.crew.proofs.Fronts.{tied_back}
use Rattle.crew.proofs.Cores.{OnlyMoved, moved_is}
use Rattle.crew.proofs.Present.{laws, fronts}
use Rattle.crew.proofs.Joins.{no_line, no_puts}

module _ (v : CrewView) (past : ℕ → List Event) (base : ℕ → SurfaceView) (crew : IsCrew v past base) (rs' : List Region) (i : ℕ) (r t : Region) (one : IsOne v.regions rs' i r t) where
  -- another region with the same ends
  same_ends : ((l : ℕ) → ends_with t l ≡ ends_with r l) → (k l : ℕ) → ends_of rs' k l ≡ ends_of v.regions k l
  same_ends h k l =
      elim (eqb_tells k i) [
        | inl p ↦ subst (λ x. ends_of rs' x l ≡ ends_of v.regions x l) (sym p.1) (ap (λ o. ends_if o l) one.new_at ∙ (h l ∙ sym (ap (λ o. ends_if o l) one.old_at)))
        | inr p ↦ ap (λ o. ends_if o l) (one.others k p.1)
      ]

  crew_of : IsRegion v.network v.bands v.until (base_at v past base i) t → t.id ≡ i → ((l : ℕ) → ends_with t l ≡ ends_with r l) → IsCrew (record v { regions = rs' }) past base
  crew_of g id ends =
      record {
        count = one.len ∙ crew.count;
        cut = crew.cut;
        lattice = crew.lattice;
        short = crew.short;
        region = λ k y at.
            elim (eqb_tells k i) [
              | inl p ↦
                  let is : t ≡ y = same_Some t y (sym one.new_at ∙ (ap (slice_get rs') (sym p.1) ∙ at)) in
                  subst (λ x. IsRegion v.network v.bands v.until (base_at v past base k) x × (x.id ≡ k)) is (subst (λ m. IsRegion v.network v.bands v.until (base_at v past base m) t × (t.id ≡ m)) (sym p.1) (g, id))
              | inr p ↦ crew.region k y (sym (one.others k p.1) ∙ at)
            ];
        agree = crew.agree;
        ties = λ a b n. subst (λ x. AreTied x (ends_of rs' b a)) (sym (same_ends ends a b)) (subst (λ x. AreTied (ends_of v.regions a b) x) (sym (same_ends ends b a)) (crew.ties a b n));
      }

  -- with another room
  module _ (same : IsSame r t) where
    same_part : (k : ℕ) → parts_of rs' k ≡ parts_of v.regions k
    same_part k =
        elim (eqb_tells k i) [
          | inl p ↦ subst (λ x. parts_of rs' x ≡ parts_of v.regions x) (sym p.1) (ap part_if one.new_at ∙ (same.part ∙ sym (ap part_if one.old_at)))
          | inr p ↦ ap part_if (one.others k p.1)
        ]

    same_line : (k l : ℕ) → lines_of rs' k l ≡ lines_of v.regions k l
    same_line k l =
        elim (eqb_tells k i) [
          | inl p ↦ subst (λ x. lines_of rs' x l ≡ lines_of v.regions x l) (sym p.1) (ap (λ o. line_if o l) one.new_at ∙ (same.line l ∙ sym (ap (λ o. line_if o l) one.old_at)))
          | inr p ↦ ap (λ o. line_if o l) (one.others k p.1)
        ]

    pub same_crew : IsCrew (record v { regions = rs' }) past base
    same_crew =
        let g = crew.region i r one.old_at in
        crew_of (same.region v.network v.bands v.until (base_at v past base i) g.0) (same.id ∙ g.1) same.ends

    pub same_core : core_in (record v { regions = rs' }) ≡ core_in v
    same_core = λ e. core_from (world_in v) v.horizon (λ k. same_part k e) (λ k l. same_line k l e) (λ k l. received_by (same_ends same.ends k l e))

  -- after a step
  module _ (step : PartStep) (s : Stepped v.network v.bands v.until (base_at v past base i) r step t) where
    id : r.id ≡ i
    id = (crew.region i r one.old_at).1

    part : part_of r ≡ parts_of v.regions i
    part = sym (ap part_if one.old_at)

    none : step_puts (world_in v) v.horizon r.id (part_of r) step r.id ≡ []
    none =
        no_puts (line_to r r.id) (step_puts (world_in v) v.horizon r.id (part_of r) step r.id) (no_line v.network v.bands v.until (base_at v past base i) r (crew.region i r one.old_at).0)
        (sym (s.made.puts r.id) ∙ subst (λ m. line_to t m ≡ []) s.made.id (no_line v.network v.bands v.until (base_at v past base i) t s.made.region))

    pub step_moved : OnlyMoved i (part_after (world_in v) v.horizon i (parts_of v.regions i) step) (step_puts (world_in v) v.horizon i (parts_of v.regions i) step) (parts_of v.regions) (parts_of rs') (lines_of v.regions) (lines_of rs') (got_of v.regions) (got_of rs')
    step_moved =
        record {
          part = ap part_if one.new_at ∙ (s.made.part ∙ (ap (λ p. part_after (world_in v) v.horizon r.id p step) part ∙ ap (λ m. part_after (world_in v) v.horizon m (parts_of v.regions i) step) id));
          other_parts = λ k n. ap part_if (one.others k n);
          grew = λ l.
              ap (λ o. line_if o l) one.new_at
              ∙ (s.made.puts l
              ∙ (ap (λ x. x ++ step_puts (world_in v) v.horizon r.id (part_of r) step l) (sym (ap (λ o. line_if o l) one.old_at))
              ∙ (ap (λ p. lines_of v.regions i l ++ step_puts (world_in v) v.horizon r.id p step l) part
              ∙ ap (λ m. lines_of v.regions i l ++ step_puts (world_in v) v.horizon m (parts_of v.regions i) step l) id)));
          other_lines = λ k l n. ap (λ o. line_if o l) (one.others k n);
          same_got = λ k l. ap received_by (same_ends s.ends k l);
          itself = subst (λ m. step_puts (world_in v) v.horizon m (parts_of v.regions i) step m ≡ []) id (subst (λ p. step_puts (world_in v) v.horizon r.id p step r.id ≡ []) part none);
        }

    pub step_core : core_in (record v { regions = rs' }) ≡ with_part (core_in v) i (part_after (world_in v) v.horizon i (parts_of v.regions i) step) (step_puts (world_in v) v.horizon i (parts_of v.regions i) step)
    step_core =
        moved_is (world_in v) v.horizon i (part_after (world_in v) v.horizon i (parts_of v.regions i) step) (step_puts (world_in v) v.horizon i (parts_of v.regions i) step)
        (parts_of v.regions) (parts_of rs') (lines_of v.regions) (lines_of rs') (got_of v.regions) (got_of rs') step_moved (fronts v.regions crew.ties)

    may_here : MayStep (world_in v) (base i).sites i (parts_of v.regions i) step
    may_here = subst (λ m. MayStep (world_in v) (base i).sites m (parts_of v.regions i) step) id (subst (λ p. MayStep (world_in v) (base i).sites r.id p step) part s.made.may)

    pub step_crew : IsCrew (record v { regions = rs' }) past base
    step_crew = crew_of s.made.region (s.made.id ∙ id) s.ends

  pub one_step : i < v.bands.count → (step : PartStep) → Stepped v.network v.bands v.until (base_at v past base i) r step t → ((l : ℕ) → step_takes step l ≡ []) → StepsOne (world_in v) (core_in v) i (core_in (record v { regions = rs' }))
  one_step inside (PartStep.Fires e) s none =
      let m = may_here (PartStep.Fires e) s in
      inl (inside, e, next_rebased (world_in v) (laws v past base crew) i (base i).sites (base_of (world_in v) (core_in v)) (parts_of v.regions i) e (crew.agree i inside) m.0, m.1, step_core (PartStep.Fires e) s)
  one_step inside (PartStep.Passes e) s none =
      let m = may_here (PartStep.Passes e) s in
      inr (inside, inl (e, next_rebased (world_in v) (laws v past base crew) i (base i).sites (base_of (world_in v) (core_in v)) (parts_of v.regions i) e (crew.agree i inside) m.0, m.1, step_core (PartStep.Passes e) s))
  one_step inside PartStep.Ends s none =
      inr (inside, inr (none_rebased (world_in v) (laws v past base crew) i (base i).sites (base_of (world_in v) (core_in v)) (parts_of v.regions i) (crew.agree i inside) (may_here PartStep.Ends s), step_core PartStep.Ends s))
  one_step inside (PartStep.Takes j op) s none = absurd (omega (arith, ap (λ (l : List Op). length l) (sym (ap (λ t. cond t (op ∷ []) []) (eq-eqb j j refl)) ∙ none j)))

-- the key of the next entry
pub next_key_is : (v : CrewView) (past : ℕ → List Event) (base : ℕ → SurfaceView) → IsCrew v past base → (i : ℕ) (r : Region) (k : Key) → i < v.bands.count → slice_get v.regions i ≡ Some r
    → IsNextKeyOf (world_in v) (base i).sites r.id (part_of r) k → IsNextKey (world_in v) (core_in v) i k
next_key_is v past base crew i r k inside at h =
    let here : IsNextKeyOf (world_in v) (base i).sites i (parts_of v.regions i) k =
    subst (λ m. IsNextKeyOf (world_in v) (base i).sites m (parts_of v.regions i) k) (crew.region i r at).1 (subst (λ p. IsNextKeyOf (world_in v) (base i).sites r.id p k) (sym (ap part_if at)) h) in
    elim here [
      | inl a ↦ inl (a.0, next_rebased (world_in v) (laws v past base crew) i (base i).sites (base_of (world_in v) (core_in v)) (parts_of v.regions i) a.0 (crew.agree i inside) a.1, a.2)
      | inr a ↦ inr (none_rebased (world_in v) (laws v past base crew) i (base i).sites (base_of (world_in v) (core_in v)) (parts_of v.regions i) (crew.agree i inside) a.0, a.1)
    ]
