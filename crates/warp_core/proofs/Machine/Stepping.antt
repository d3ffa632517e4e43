-- The steps of a configuration: each is a step of the core, and leaves a configuration of the same setting.
use Rattle.std.proofs.Common.{◌≡◌, ◌≢◌, ℕ, zero, suc, ◌<◌, true, false, ◌==◌, ◌&&◌, if◌then◌else◌, List, [], ◌∷◌, ◌++◌, length, drop, Some, refl, sym, ap, ◌∙◌, subst, arith, slice_set, slice_index_or, inl, inr, append-nil}
use Rattle.std.specs.Option.{option_map_or}
use Rattle.std.proofs.lemmas.Bool.{eq-eqb, both_ways}
use Rattle.std.proofs.lemmas.Bool.Decides.{eqb_tells}
use Rattle.std.proofs.lemmas.List.{length-set}
use Rattle.surf_kinds.specs.declared.event.Event.{Event}
use Rattle.surf_kinds.specs.declared.site.SpeciesId.{SpeciesId}
use Rattle.surf_kinds.specs.Keys.{is_before, key_of, keep, from, AllKeys, ◌is_below◌}
use Rattle.lattice.specs.Places.{IsPlace}
use Rattle.border.specs.declared.op.Op.{Op}
use Rattle.border.specs.Messages.{op_key, accepted_op}
use Rattle.plan.specs.Network.{Network}
use Rattle.surface_state.specs.SurfaceView.{SurfaceView}
use Rattle.timeline.specs.TimelineView.{events_of}
use Rattle.regions.specs.Bands.{Bands, owner_of}
use Rattle.regions.specs.Seen.{is_told}
use Rattle.warp_core.specs.declared.region.Region.{Region}
use Rattle.warp_core.specs.declared.config.Config.{Config}
use Rattle.warp_core.specs.declared.step.Step.{Step}
use Rattle.warp_core.specs.declared.step.Step.TheVariants.{Fire, Pass, Take}
use Rattle.warp_core.specs.World.{IsWorld, is_own, is_told_by}
use Rattle.warp_core.specs.Messages.{AreSent, partition_of}
use Rattle.warp_core.specs.Parts.{Part, IsNextEntry, HasNoEntry, with_entry, at_end, after_op, after_take, fire_puts, op_puts, take_puts, is_told_to_some}
use Rattle.warp_core.specs.Cores.{Core, IsConsistent, base_of}
use Rattle.warp_core.specs.Steps.{StepOf}
use Rattle.warp_core.specs.Simulation.{Setting, world_in}
use Rattle.warp_core.specs.Backs.{cut_puts}
use Rattle.warp_core.specs.Grounds.{IsGround}
use Rattle.warp_core.specs.Regions.{part_of, outbox_of, IsSized, IsAlike, KeepsGround}
use Rattle.warp_core.specs.Configs.{core_with, core_of, IsHome, AreHomes, IsConfigOf}
use Rattle.warp_core.proofs.Theory.Runs.{step_keeps}
use Rattle.warp_core.proofs.Theory.Accepted.{sent_accepted}
use Rattle.warp_core.proofs.Machine.Cores.{core_moved, core_same, core_taken, part_is, outbox_is, homes_set, home_alike}
use Rattle.warp_core.proofs.Machine.Homes.{Known, known, home, setting_world, one_next, none_next}
use Rattle.warp_core.proofs.Machine.Scans.{back_is}

-- a configuration of which the regions changed, and what was committed and the horizon didn't
pub kept_config : (n : Network) (s : Setting) (old new : Config) → IsConfigOf n s old → new.cut ≡ old.cut → new.until ≡ old.until → length new.regions.items ≡ length old.regions.items
    → IsConsistent (world_in n s) (core_of new) → AreHomes n s new.horizon new.committed.items new.regions.items → IsConfigOf n s new
kept_config n s old new g cut until count good homes =
    record { setting = g.setting; bands = cut ∙ g.bands; until = until ∙ g.until; count = count ∙ g.count; consistent = good; homes = homes }

module _ (n : Network) (s : Setting) (c : Config) (i : ℕ) (r : Region) (g : IsConfigOf n s c) (inside : i < length c.regions.items) (is : r ≡ slice_index_or c.regions.items i r) where
  abbrev pub home_of : IsHome n s c.horizon c.committed.items i r
  home_of = home n s c.horizon c.committed.items c.regions.items g.setting g.count g.consistent g.homes i r inside is

  within : i < s.bands.count
  within = subst (λ m. i < m) g.count inside

  part_here : (core_of c).part i ≡ part_of r
  part_here = part_is c.regions.items i r inside is

  pub sized_here : IsSized c.cut.count r
  sized_here = subst (λ (b : Bands). IsSized b.count r) (sym g.bands) home_of.sized

  -- the outbox to another region
  pub box_within : (l : ℕ) → l < length c.regions.items → l < length r.outboxes.items
  box_within l h = omega (arith, h, g.count, home_of.sized.outboxes)

  pub laws_here : IsWorld (world_in n s)
  laws_here = setting_world n s g.setting

  -- more room alone
  pub alike_core : (new : Region) → IsAlike r new → core_with c.horizon c.committed.items (slice_set c.regions.items i new) ≡ core_of c
  alike_core new a = core_same c.horizon c.committed.items c.regions.items i r new inside is a

  pub alike_homes : (new : Region) → IsAlike r new → AreHomes n s c.horizon c.committed.items (slice_set c.regions.items i new)
  alike_homes new a = homes_set n s c.horizon c.committed.items c.regions.items i new g.count g.homes (home_alike n s c.horizon c.committed.items i r new a home_of) inside

  pub alike_consistent : (new : Region) → IsAlike r new → IsConsistent (world_in n s) (core_with c.horizon c.committed.items (slice_set c.regions.items i new))
  alike_consistent new a = subst (IsConsistent (world_in n s)) (sym (alike_core new a)) g.consistent

  pub keeps_homes : (new : Region) → KeepsGround n r new → IsSized c.cut.count new → AreHomes n s c.horizon c.committed.items (slice_set c.regions.items i new)
  keeps_homes new keeps sized =
      homes_set n s c.horizon c.committed.items c.regions.items i new g.count g.homes
      (record { past = home_of.past; base = home_of.base; ground = keeps s.cells home_of.past home_of.base home_of.ground; early = home_of.early; agree = home_of.agree; sized = subst (λ (b : Bands). IsSized b.count new) g.bands sized })
      inside

  -- no entry is left: the clock goes to the end
  module _ (none : HasNoEntry (world_in n s) (base_of (world_in n s) (core_of c)) i ((core_of c).part i)) (new : Region) (part : part_of new ≡ at_end (world_in n s) (part_of r)) (outs : (l : ℕ) → outbox_of new l ≡ outbox_of r l) where
    pub end_made : StepOf (world_in n s) (core_of c) (Pass i) (core_with c.horizon c.committed.items (slice_set c.regions.items i new))
    end_made = (
      within,
      inr (
        none,
        core_moved c.horizon c.committed.items c.regions.items i r new (at_end (world_in n s) ((core_of c).part i)) (λ _. []) inside is
            (part ∙ ap (at_end (world_in n s)) (sym part_here)) (λ l. outs l ∙ sym (append-nil (outbox_of r l))),
      ),
    )

  -- the next entry
  module _ (e : Event) (next : IsNextEntry (world_in n s) (base_of (world_in n s) (core_of c)) i ((core_of c).part i) e) where
    pub known_here : Known n s home_of.past (events_of r.timeline.entries) e
    known_here = known n s c.horizon c.committed.items c.regions.items g.setting g.count g.consistent g.homes i r inside is e next

    pub place_here : IsPlace c.cut.lattice e.place.0
    place_here = subst (λ (b : Bands). IsPlace b.lattice e.place.0) (sym g.bands) known_here.place

    pub entered_homes : (new : Region)
        → ((cells : List SpeciesId) (past : List Event) (base : SurfaceView) → IsGround n cells past base r.timeline.entries r.surface → AllKeys (λ k. k is_below key_of e) (past ++ events_of r.timeline.entries) → IsGround n cells past base new.timeline.entries new.surface)
        → IsSized c.cut.count new → AreHomes n s c.horizon c.committed.items (slice_set c.regions.items i new)
    entered_homes new ground sized =
        homes_set n s c.horizon c.committed.items c.regions.items i new g.count g.homes
        (record { past = home_of.past; base = home_of.base; ground = ground s.cells home_of.past home_of.base home_of.ground known_here.below; early = home_of.early; agree = home_of.agree; sized = subst (λ (b : Bands). IsSized b.count new) g.bands sized })
        inside

    -- the owner is the region, or another
    pub owned : owner_of c.cut e.place.0 ≡ i → is_own (world_in n s) i (key_of e) ≡ true
    owned h = eq-eqb _ _ (ap (λ (b : Bands). owner_of b e.place.0) (sym g.bands) ∙ h)

    pub not_owned : owner_of c.cut e.place.0 ≢ i → is_own (world_in n s) i (key_of e) ≡ false
    not_owned h = elim (eqb_tells (owner_of s.bands e.place.0) i) [ inl q ↦ absurd (h (ap (λ (b : Bands). owner_of b e.place.0) g.bands ∙ q.1)) | inr q ↦ q.0 ]

    pub fire_made : (new : Region) → part_of new ≡ with_entry (part_of r) e → ((l : ℕ) → outbox_of new l ≡ outbox_of r l ++ fire_puts (is_told c.cut) e l) → owner_of c.cut e.place.0 ≡ i
        → StepOf (world_in n s) (core_of c) (Fire i) (core_with c.horizon c.committed.items (slice_set c.regions.items i new))
    fire_made new part outs own = (
      within,
      e,
      next,
      owned own,
      core_moved c.horizon c.committed.items c.regions.items i r new (with_entry ((core_of c).part i) e) (fire_puts (is_told s.bands) e) inside is
          (part ∙ ap (λ p. with_entry p e) (sym part_here)) (λ l. outs l ∙ ap (λ (b : Bands). outbox_of r l ++ fire_puts (is_told b) e l) g.bands),
    )

    pub pass_made : (new : Region) → part_of new ≡ with_entry (part_of r) e → ((l : ℕ) → outbox_of new l ≡ outbox_of r l ++ []) → owner_of c.cut e.place.0 ≢ i
        → StepOf (world_in n s) (core_of c) (Pass i) (core_with c.horizon c.committed.items (slice_set c.regions.items i new))
    pass_made new part outs other = (
      within,
      inl (
        e,
        next,
        not_owned other,
        core_moved c.horizon c.committed.items c.regions.items i r new (with_entry ((core_of c).part i) e) (λ _. []) inside is
            (part ∙ ap (λ p. with_entry p e) (sym part_here)) outs,
      ),
    )

    pub no_fire : owner_of c.cut e.place.0 ≢ i → (any : Core) → StepOf (world_in n s) (core_of c) (Fire i) any → ⊥
    no_fire other any step =
        let same : step.1 ≡ e = one_next (world_in n s) _ _ _ _ step.1 e step.2 next in
        both_ways (is_own (world_in n s) i (key_of e)) (not_owned other) (ap (λ (x : Event). is_own (world_in n s) i (key_of x)) (sym same) ∙ step.3)

    pub no_pass : owner_of c.cut e.place.0 ≡ i → (any : Core) → StepOf (world_in n s) (core_of c) (Pass i) any → ⊥
    no_pass own any step =
        elim step.1 [
          | inl p ↦
              let same : p.0 ≡ e = one_next (world_in n s) _ _ _ _ p.0 e p.1 next in
              both_ways (is_own (world_in n s) i (key_of e)) (ap (λ (x : Event). is_own (world_in n s) i (key_of x)) (sym same) ∙ p.2) (owned own)
          | inr p ↦ none_next (world_in n s) _ _ _ _ e p.0 next
        ]

pub none_fires : (n : Network) (s : Setting) (c : Core) (i : ℕ) → HasNoEntry (world_in n s) (base_of (world_in n s) c) i (c.part i) → (any : Core) → StepOf (world_in n s) c (Fire i) any → ⊥
none_fires n s c i none any step = none_next (world_in n s) _ _ _ _ step.1 none step.2

pub some_region : (rs : List Region) (i : ℕ) → i < length rs → (r : Region) × (r ≡ slice_index_or rs i r)
some_region [] i h = absurd (omega (arith, h))
some_region (r ∷ rs) zero h = (r, refl)
some_region (r ∷ rs) (suc i) h = some_region rs i (omega (arith, h))

pub setting_here : (n : Network) (s : Setting) (c : Config) → IsConfigOf n s c → IsWorld (world_in n s)
setting_here n s c g = setting_world n s g.setting

pub sized_at : (n : Network) (s : Setting) (c : Config) (i : ℕ) (r : Region) → IsConfigOf n s c → i < length c.regions.items → r ≡ slice_index_or c.regions.items i r → IsSized s.bands.count r
sized_at n s c i r g inside is = (home_of n s c i r g inside is).sized

-- each step leaves a consistent configuration
pub made_consistent : (n : Network) (s : Setting) (c : Config) (step : Step) (new : Core) → IsConfigOf n s c → StepOf (world_in n s) (core_of c) step new → IsConsistent (world_in n s) new
made_consistent n s c step new g st = step_keeps (world_in n s) (setting_world n s g.setting) (core_of c) new step g.consistent st

-- what a cut puts, as the core says it
cut_puts_are : (n : Network) (s : Setting) (i : ℕ) (p : Part) (op : Op) (l : ℕ) → cut_puts s.bands i p (op_key op) l ≡ op_puts (world_in n s) i p op l
cut_puts_are n s i p op l =
    ap (λ x. if is_before (op_key op) p.clock then x else [])
    (sym (back_is (keep (is_told_by (world_in n s) i l) (from (op_key op) p.timeline)) (keep (λ k. is_own (world_in n s) i k && is_told_to_some (is_told s.bands) s.bands.count k.place.0) (from (op_key op) p.timeline))))

-- a message is taken
module _ (n : Network) (s : Setting) (c : Config) (j i : ℕ) (rj ri taken less : Region) (op : Op) (g : IsConfigOf n s c) (in_j : j < length c.regions.items) (in_i : i < length c.regions.items) (apart : j ≢ i)
    (is_j : rj ≡ slice_index_or c.regions.items j rj) (is_i : ri ≡ slice_index_or c.regions.items i ri) (first : outbox_of rj i ≡ op ∷ drop 1 (outbox_of rj i)) where
  channel_here : (core_of c).channel j i ≡ op ∷ drop 1 (outbox_of rj i)
  channel_here = outbox_is c.regions.items j rj i in_j is_j ∙ first

  accepted : accepted_op (partition_of (world_in n s)) j i c.horizon op ≡ Some op
  accepted = sent_accepted (world_in n s) j i c.horizon op ((subst (AreSent (world_in n s) j i c.horizon) channel_here (g.consistent.sent j i (subst (λ m. j < m) g.count in_j) (subst (λ m. i < m) g.count in_i))).0)

  part_i : (core_of c).part i ≡ part_of ri
  part_i = part_is c.regions.items i ri in_i is_i

  pub take_made : part_of taken ≡ after_op (part_of ri) j op → ((l : ℕ) → outbox_of taken l ≡ outbox_of ri l ++ cut_puts c.cut i (part_of ri) (op_key op) l)
      → part_of less ≡ part_of rj → ((l : ℕ) → outbox_of less l ≡ (if l == i then drop 1 (outbox_of rj i) else outbox_of rj l))
      → StepOf (world_in n s) (core_of c) (Take j i) (core_with c.horizon c.committed.items (slice_set (slice_set c.regions.items i taken) j less))
  take_made part outs same outs_j = (
    subst (λ m. j < m) g.count in_j,
    subst (λ m. i < m) g.count in_i,
    op,
    drop 1 (outbox_of rj i),
    channel_here,
    core_taken c.horizon c.committed.items c.regions.items j i rj ri taken less
        (after_take (world_in n s) c.horizon i ((core_of c).part i) j op) (take_puts (world_in n s) c.horizon i ((core_of c).part i) j op) (drop 1 (outbox_of rj i)) apart in_j in_i is_j is_i
        (part ∙ (ap (λ p. after_op p j op) (sym part_i) ∙ sym (ap (λ o. option_map_or (after_op ((core_of c).part i) j) o ((core_of c).part i)) accepted)))
        (λ l. outs l
        ∙ (ap (λ (b : Bands). outbox_of ri l ++ cut_puts b i (part_of ri) (op_key op) l) g.bands
        ∙ ap (λ x. outbox_of ri l ++ x)
        (cut_puts_are n s i (part_of ri) op l
        ∙ (ap (λ p. op_puts (world_in n s) i p op l) (sym part_i)
        ∙ sym (ap (λ o. option_map_or (λ a. op_puts (world_in n s) i ((core_of c).part i) a l) o []) accepted)))))
        same outs_j,
  )

  -- both regions stand on their grounds
  pub take_homes : KeepsGround n ri taken → IsSized c.cut.count taken → less ≡ record rj { outboxes = less.outboxes } → length less.outboxes.items ≡ length rj.outboxes.items
      → AreHomes n s c.horizon c.committed.items (slice_set (slice_set c.regions.items i taken) j less)
  take_homes keeps sized same long =
      let first_homes = keeps_homes n s c i ri g in_i is_i taken keeps sized in
      let hj = home_of n s c j rj g in_j is_j in
      homes_set n s c.horizon c.committed.items (slice_set c.regions.items i taken) j less (length-set c.regions.items i taken ∙ g.count) first_homes
      (record {
        past = hj.past;
        base = hj.base;
        ground = subst (λ (r : Region). IsGround n s.cells hj.past hj.base r.timeline.entries r.surface) (sym same) hj.ground;
        early = hj.early;
        agree = hj.agree;
        sized = record { stacks = ap (λ (r : Region). length r.stacks.stacks) same ∙ hj.sized.stacks; outboxes = long ∙ hj.sized.outboxes };
      })
      (subst (λ m. j < m) (sym (length-set c.regions.items i taken)) in_j)

-- nothing waits
pub no_take : (n : Network) (s : Setting) (c : Config) (j i : ℕ) (r : Region) → j < length c.regions.items → r ≡ slice_index_or c.regions.items j r → outbox_of r i ≡ [] → (any : Core) → StepOf (world_in n s) (core_of c) (Take j i) any → ⊥
no_take n s c j i r inside is none any step = empty step.2 step.3 (sym none ∙ (sym (outbox_is c.regions.items j r i inside is) ∙ step.4))
  where
    empty : (op : Op) (rest : List Op) → [] ≡ op ∷ rest → ⊥
    empty op rest h = cc
