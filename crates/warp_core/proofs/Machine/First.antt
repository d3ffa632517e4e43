-- The first configuration.
use Rattle.std.proofs.Common.{◌≡◌, ℕ, zero, suc, ◌<◌, ◌≤◌, ◌^◌, inl, inr, List, [], ◌∷◌, length, map, replicate, refl, sym, ap, ◌∙◌, subst, arith, slice_index_or}
use Rattle.std.specs.Prelude.{All, slice_get}
use Rattle.std.specs.Option.{option_map_or}
use Rattle.std.proofs.lemmas.Bool.{cases_lt}
use Rattle.std.proofs.lemmas.Option.{slice_get_past}
use Rattle.std.proofs.lemmas.List.{length-replicate}
use Rattle.std.proofs.lemmas.List.Elements.{All-tail}
use Rattle.surf_kinds.specs.declared.event.Event.{Event}
use Rattle.surf_kinds.specs.declared.site.SiteState.{SiteState}
use Rattle.surf_kinds.specs.Keys.{origin}
use Rattle.lattice.specs.Surface.{first_surface}
use Rattle.plan.specs.Network.{Network}
use Rattle.surface_state.specs.SurfaceView.{SurfaceView}
use Rattle.timeline.specs.TimelineView.{events_of}
use Rattle.regions.specs.Bands.{Bands, IsCut}
use Rattle.warp_core.specs.Simulation.{world_in}
use Rattle.warp_core.specs.Parts.{Part}
use Rattle.warp_core.specs.Cores.{first_core, IsConsistent}
use Rattle.warp_core.specs.Grounds.{IsGround}
use Rattle.plan.specs.Products.{LeavesWithin}
use Rattle.warp_core.specs.Regions.{part_of, outbox_of, IsFirstRegion}
use Rattle.warp_core.specs.FirstRegions.{AreFirst}
use Rattle.warp_core.specs.Configs.{core_of, setting_of, IsFresh, IsHome, IsConfigOf}
use Rattle.warp_core.specs.declared.config.Config.{Config}
use Rattle.warp_core.specs.declared.region.Region.{Region}
use Rattle.warp_core.proofs.Theory.Moves.{first_consistent}
use Rattle.warp_core.proofs.Machine.Cores.{same_core, part_is, outbox_is}
use Rattle.warp_core.proofs.Machine.Stepping.{some_region}

fresh_state : (x : SiteState) → IsFresh x → x ≡ record { species = x.species; version = 0; last = 0 }
fresh_state x h = λ i. record { species = x.species; version = h.0 i; last = h.1 i }

pub fresh_sites : (xs : List SiteState) → All IsFresh xs → xs ≡ first_surface (map (λ x. x.species) xs)
fresh_sites [] h = refl
fresh_sites (x ∷ xs) h = ap (λ y. y ∷ xs) (fresh_state x (h 0 x (omega arith))) ∙ ap (λ ys. record { species = x.species; version = 0; last = 0 } ∷ ys) (fresh_sites xs (All-tail IsFresh x xs h))

empty_at : (n i : ℕ) → ◌≡◌ {A = List Event} (slice_index_or (replicate n []) i []) []
empty_at zero i = refl
empty_at (suc n) zero = refl
empty_at (suc n) (suc i) = empty_at n i

first_part : (start : SurfaceView) (count : ℕ) (r : Region) → IsFirstRegion start count r → ◌≡◌ {A = Part} (part_of r) (record { timeline = []; clock = origin; stack = λ _. [] })
first_part start count r f = λ i. record { timeline = ap events_of f.entries i; clock = f.clock i; stack = λ s. (ap (λ l. slice_index_or l s []) f.stacks ∙ empty_at count s) i }

module _ (n : Network) (start : SurfaceView) (b : Bands) (until : ℕ) (c : Config) (same : start.lattice ≡ n.lattice) (cut_same : b.lattice ≡ n.lattice) (cut : IsCut b) (species : All (LeavesWithin start.species_count) n.rules) (fresh : All IsFresh start.sites) (short : until ≤ 10 ^ 15)
    (bands : c.cut ≡ b) (until_is : c.until ≡ until) (horizon : c.horizon ≡ origin) (committed : c.committed.items ≡ []) (first : AreFirst start b.count b.count c.regions.items) where
  region_at : (i : ℕ) → i < length c.regions.items → (r : Region) × (r ≡ slice_index_or c.regions.items i r) × IsFirstRegion start b.count r
  region_at i q =
      let r = some_region c.regions.items i q in
      (r.0, r.1, subst (IsFirstRegion start b.count) (sym r.1) (first.each i r.0 (omega (arith, q, first.long))))

  pub first_core_is : core_of c ≡ first_core
  first_core_is =
      same_core _ _ horizon committed
      (λ i. elim (cases_lt i (length c.regions.items)) [
        | inl q ↦ let r = region_at i q in part_is c.regions.items i r.0 q r.1 ∙ first_part start b.count r.0 r.2
        | inr q ↦ ap (λ o. option_map_or part_of o (record { timeline = []; clock = origin; stack = λ _. [] })) (slice_get_past c.regions.items i q)
      ])
      (λ j l. elim (cases_lt j (length c.regions.items)) [
        | inl q ↦ let r = region_at j q in outbox_is c.regions.items j r.0 l q r.1 ∙ r.2.outboxes l
        | inr q ↦ ap (λ o. option_map_or (λ (x : Region). outbox_of x l) o []) (slice_get_past c.regions.items j q)
      ])

  first_home : (i : ℕ) (r : Region) → IsFirstRegion start b.count r → IsHome n (setting_of b until start) c.horizon c.committed.items i r
  first_home i r f =
      let s = setting_of b until start in
      let sites : start.sites ≡ first_surface s.cells = fresh_sites start.sites fresh in
      let ground : IsGround n s.cells [] start [] start = record { lattice = same; species = species; start = sites; rising = tt; timely = tt; run = refl } in
      subst (λ es. IsHome n s c.horizon es i r) (sym committed)
      (record {
        past = [];
        base = start;
        ground = subst (λ es. IsGround n s.cells [] start es r.surface) (sym f.entries) (subst (IsGround n s.cells [] start []) (sym f.surface) ground);
        early = tt;
        agree = λ k h. ap (λ xs. slice_get xs k) sites;
        sized = record { stacks = ap length f.stacks ∙ length-replicate {A = List Event} b.count []; outboxes = f.long };
      })

  pub first_config : IsConfigOf n (setting_of b until start) c
  first_config =
      record {
        setting = record { cut = cut; lattice = cut_same; short = short };
        bands = bands;
        until = until_is;
        count = first.long;
        consistent = subst (IsConsistent (world_in n (setting_of b until start))) (sym first_core_is) (first_consistent (world_in n (setting_of b until start)));
        homes = λ i d h. first_home i (slice_index_or c.regions.items i d) (first.each i d h);
      }
