-- A region at its start.
use Rattle.std.proofs.Common.{◌≡◌, ℕ, ◌^◌, ◌<◌, ◌≤◌, ◌⊎◌, inl, inr, Bool, true, false, List, [], ◌∷◌, length, map, refl, sym, ap, ◌∙◌, subst, arith, Option, Some, None, cond}
use Rattle.std.specs.Prelude.{All, Vec, nat_lt}
use Rattle.std.specs.Global.{Global}
use Rattle.std.proofs.lemmas.Bool.{both_ways, eq-eqb, eqb-true}
use Rattle.std.proofs.lemmas.Bool.Decides.{nat_tests}
use Rattle.std.proofs.lemmas.Option.{none-some, same_Some}
use Rattle.surf_kinds.specs.declared.site.SiteState.{SiteState}
use Rattle.surf_kinds.specs.declared.site.SpeciesId.{SpeciesId}
use Rattle.surf_kinds.specs.Keys.{origin, key_of, AllKeys}
use Rattle.surf_kinds.proofs.Order.{le_refl, is_upto_origin}
use Rattle.lattice.specs.Ranges.{is_in_range}
use Rattle.lattice.specs.declared.place_range.PlaceRange.{PlaceRange}
use Rattle.plan.specs.Network.{Network}
use Rattle.plan.specs.Next.{next}
use Rattle.plan.specs.Bounds.{IsWithinBounds}
use Rattle.regions.specs.Bands.{Bands, IsCut, owner_of}
use Rattle.regions.specs.Neighbours.{AreNeighbours, IsNeighbour}
use Rattle.regions.specs.Ranges.{IsRangeOf}
use Rattle.regions.specs.Seen.{is_told}
use Rattle.surface_state.specs.SurfaceView.{SurfaceView}
use Rattle.event_queue.specs.QueueView.{QueueView}
use Rattle.next_events.specs.Entries.{CoversRange, IsUpToDate}
use Rattle.timeline.specs.TimelineView.{TimelineView}
use Rattle.border.specs.Stacked.{StacksView, stack_of}
use Rattle.warp_core.specs.World.{end_key}
use Rattle.warp_core.specs.Messages.{ArePutsOf}
use Rattle.warp_core.specs.Configs.{IsFresh}
use Rattle.plan.specs.Products.{LeavesWithin}
use Rattle.warp_core.specs.Grounds.{IsGround}
use Rattle.warp_core.proofs.LawLemmas.{ground_bounds, fresh_sites}
use Rattle.region_run.specs.declared.changes.Change.{Change}
use Rattle.region_run.specs.declared.region.Region.{Region}
use Rattle.region_run.specs.declared.side.Ends.{Ends}
use Rattle.region_run.specs.declared.totals.Totals.{Totals}
use Rattle.region_run.specs.Sides.{SideView, is_other, number_of, line_of, ends_of}
use Rattle.region_run.specs.Boards.{IsBoard, GoesBack}
use Rattle.region_run.specs.Regions.{world_at, stack_in, IsSited, IsRegion}
use Rattle.region_run.specs.Starts.{IsFirst, IsNewSide, first_base, no_totals}
use Rattle.region_run.proofs.Nexts.{range_parts}

abbrev cells_of : SurfaceView → List SpeciesId
cells_of start = map (λ (s : SiteState). s.species) start.sites

first_ground : (n : Network) (start : SurfaceView) → start.lattice ≡ n.lattice → All (LeavesWithin start.species_count) n.rules → All IsFresh start.sites → IsGround n (cells_of start) [] start [] start
first_ground n start lattice species fresh = record { lattice = lattice; species = species; start = fresh_sites start.sites fresh; rising = tt; timely = tt; run = refl }

pub first_bounds : (n : Network) (start now : SurfaceView) → start.lattice ≡ n.lattice → All (LeavesWithin start.species_count) n.rules → All IsFresh start.sites → now ≡ start → All IsWithinBounds now.sites
first_bounds n start now lattice species fresh same =
    subst (λ (s : SurfaceView). All IsWithinBounds s.sites) (sym same) (ground_bounds n (cells_of start) [] start [] start (first_ground n start lattice species fresh))

-- the sides have the numbers of the neighbours

side_number : (o : Option ℕ) (s : Option SideView) → IsNewSide o s → number_of s ≡ o
side_number None None h = refl
side_number (Some k) None h = absurd h
side_number None (Some s) h = absurd h
side_number (Some k) (Some s) h = ap Some h.0

other_number : (s : Option SideView) (l : ℕ) → number_of s ≡ Some l → is_other s l ≡ true
other_number None l h = absurd (none-some l h)
other_number (Some s) l h = eq-eqb s.other l (same_Some s.other l h)

number_other : (s : Option SideView) (l : ℕ) → is_other s l ≡ true → number_of s ≡ Some l
number_other None l h = absurd (both_ways false refl h)
number_other (Some s) l h = ap Some (eqb-true s.other l h)

no_line : (o : Option ℕ) (s : Option SideView) → IsNewSide o s → line_of s ≡ []
no_line None None h = refl
no_line (Some k) None h = absurd h
no_line None (Some s) h = absurd h
no_line (Some k) (Some s) h = ap (λ (e : Option Ends). line_of (Some (record s { ends = e }))) h.1 ∙ h.2

no_ends : (o : Option ℕ) (s : Option SideView) → IsNewSide o s → ends_of s ≡ None
no_ends None None h = refl
no_ends (Some k) None h = absurd h
no_ends None (Some s) h = absurd h
no_ends (Some k) (Some s) h = h.1

pick : {X : Type 0} → (p q : Bool) (a b d : X) → a ≡ d → b ≡ d → cond p a (cond q b d) ≡ d
pick true q a b d x y = x
pick false true a b d x y = y
pick false false a b d x y = refl

pub not_more : (k : ℕ) → nat_lt 1 k ≡ false → k ≤ 1
not_more k h = grind (arith, nat_tests)

not_true : (t : Bool) → (t ≡ true → ⊥) → t ≡ false
not_true true h = absurd (h refl)
not_true false h = refl

module _ (n : Network) (b : Bands) (id : ℕ) (start now : SurfaceView) (timeline : TimelineView) (queue : QueueView) (range : PlaceRange) (undoable : Bool) (changes : Vec Change Global) (stacks : StacksView) (first second : Option SideView) (totals : Totals) (gap : List ℕ) (o1 o2 : Option ℕ)
    (cut : IsCut b) (inside : id < b.count) (same : b.lattice ≡ n.lattice) (lattice : start.lattice ≡ n.lattice) (species : All (LeavesWithin start.species_count) n.rules) (fresh : All IsFresh start.sites) (copied : now ≡ start)
    (covers : CoversRange range queue) (up : (k : ℕ) → range.first ≤ k → k < range.end → IsUpToDate n now.sites queue k) (own : IsRangeOf b id range) (alone : undoable ≡ false → b.count ≤ 1) (neighbours : AreNeighbours b id o1 o2)
    (near : (region place : ℕ) → is_told b region place ≡ true → IsNeighbour b (owner_of b place) region) (both : (region other : ℕ) → region < b.count → IsNeighbour b region other → IsNeighbour b other region)
    (less : (region other : ℕ) → region < b.count → IsNeighbour b region other → other < b.count)
    (none : timeline ≡ record { entries = []; spare = 0 }) (no_changes : changes.items ≡ []) (empty : stacks ≡ record { stacks = [] ∷ [] ∷ []; spare = 0 }) (side1 : IsNewSide o1 first) (side2 : IsNewSide o2 second) (zero : totals ≡ no_totals) (owned : (p : ℕ) → owner_of b p < b.count) where
  known : (l : ℕ) → IsNeighbour b id l → (is_other first l ≡ true) ⊎ (is_other second l ≡ true)
  known l h =
      elim ((neighbours.exactly l).1 h) [
        | inl q ↦ inl (other_number first l (side_number o1 first side1 ∙ q))
        | inr q ↦ inr (other_number second l (side_number o2 second side2 ∙ q))
      ]

  apart : (l : ℕ) → is_other first l ≡ true → is_other second l ≡ false
  apart l h = not_true (is_other second l) (λ q. neighbours.apart l (sym (side_number o1 first side1) ∙ number_other first l h) (sym (side_number o2 second side2) ∙ number_other second l q))

  not_self : (s : Option SideView) → ((l : ℕ) → is_other s l ≡ true → IsNeighbour b id l) → is_other s id ≡ false
  not_self s f = not_true (is_other s id) (λ q. (f id q).0 refl)

  sited : IsSited b id range first second
  sited =
      record {
        own = own;
        near = λ l p mine told. known l (subst (λ i. IsNeighbour b i l) mine (near l p told));
        from = λ p told. known (owner_of b p) (both (owner_of b p) id (owned p) (near id p told));
        below = λ l h. less id l inside (elim h [
          | inl q ↦ (neighbours.exactly l).0 (inl (sym (side_number o1 first side1) ∙ number_other first l q))
          | inr q ↦ (neighbours.exactly l).0 (inr (sym (side_number o2 second side2) ∙ number_other second l q))
        ]);
        apart = apart;
        not_first = not_self first (λ l q. (neighbours.exactly l).0 (inl (sym (side_number o1 first side1) ∙ number_other first l q)));
        not_second = not_self second (λ l q. (neighbours.exactly l).0 (inr (sym (side_number o2 second side2) ∙ number_other second l q)));
      }

  abbrev made : Region
  made = record { id = id; board = record { surface = now; timeline = timeline; queue = queue; range = range; undoable = undoable; changes = changes }; clock = origin; floor = origin; stacks = stacks; first = first; second = second; totals = totals; gap = gap }

  no_stack : (l : ℕ) → stack_in first second stacks l ≡ []
  no_stack l = ap (λ s. stack_in first second s l) empty ∙ pick (is_other first l) (is_other second l) [] [] [] refl refl

  entries : (p : ℕ) → is_in_range range p ≡ true → IsUpToDate n now.sites queue p
  entries p h = let parts = range_parts range p h in up p parts.0 parts.1

  bare : IsBoard n (cells_of start) [] start origin (record { surface = now; timeline = record { entries = []; spare = 0 }; queue = queue; range = range; undoable = undoable; changes = changes })
  bare =
      record {
        ground = subst (λ s. IsGround n (cells_of start) [] start [] s) (sym copied) (first_ground n start lattice species fresh);
        covers = covers;
        up_to_date = λ p h has. entries p h;
        back = λ u. subst (λ cs. GoesBack n start.sites origin [] range cs queue) (sym no_changes) (record {
          order = tt;
          each = tt;
          before = λ k low p h. entries p h ∙ ap (λ (s : SurfaceView). next n s.sites p) copied;
        });
      }

  region : (until : ℕ) → until ≤ 10 ^ 15 → IsRegion n b until (first_base start) (record { id = id; board = record { surface = now; timeline = record { entries = []; spare = 0 }; queue = queue; range = range; undoable = undoable; changes = changes }; clock = origin; floor = origin; stacks = stacks; first = first; second = second; totals = totals; gap = gap })
  region until short =
      record {
        floor = refl;
        cut = cut;
        lattice = same;
        short = short;
        inside = inside;
        sited = sited;
        alone = alone;
        two = ap (λ (s : StacksView). length s.stacks) empty;
        board = bare;
        marked = tt;
        past = tt;
        fresh = λ p e h mine. is_upto_origin (key_of e);
        sound = record {
          low = le_refl origin;
          high = is_upto_origin (end_key (world_at n b until (first_base start)));
          local = record { rising = tt; span = tt; each = λ k o u. absurd (both_ways _ (is_upto_origin k) u) };
        };
        puts = λ l. subst (ArePutsOf (world_at n b until (first_base start)) l id) (sym (no_stack l)) tt;
        from_first = subst (λ (s : StacksView). AllKeys (λ k. is_other first (owner_of b k.place.0) ≡ true) (stack_of s 0)) (sym empty) tt;
        from_second = subst (λ (s : StacksView). AllKeys (λ k. is_other second (owner_of b k.place.0) ≡ true) (stack_of s 1)) (sym empty) tt;
      }

  pub is_first : IsFirst n b id start (record { id = id; board = record { surface = now; timeline = timeline; queue = queue; range = range; undoable = undoable; changes = changes }; clock = origin; floor = origin; stacks = stacks; first = first; second = second; totals = totals; gap = gap })
  is_first =
      subst (λ (t : TimelineView). IsFirst n b id start (record { id = id; board = record { surface = now; timeline = t; queue = queue; range = range; undoable = undoable; changes = changes }; clock = origin; floor = origin; stacks = stacks; first = first; second = second; totals = totals; gap = gap })) (sym none)
      (record {
        id_is = refl;
        floor = refl;
        clock = refl;
        timeline = refl;
        stack = no_stack;
        line = λ l. pick (is_other first l) (is_other second l) (line_of first) (line_of second) [] (no_line o1 first side1) (no_line o2 second side2);
        ends = λ l. pick (is_other first l) (is_other second l) (ends_of first) (ends_of second) None (no_ends o1 first side1) (no_ends o2 second side2);
        totals = zero;
        neighbours = subst (λ k. AreNeighbours b id k (number_of second)) (sym (side_number o1 first side1)) (subst (AreNeighbours b id o1) (sym (side_number o2 second side2)) neighbours);
        region = region;
      })
