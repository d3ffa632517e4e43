-- A region that forgets the entries below a key.
use Rattle.std.proofs.Common.{◌≡◌, ℕ, zero, suc, Bool, true, false, inl, inr, List, [], ◌∷◌, ◌++◌, length, map, refl, sym, ap, ◌∙◌, subst, Option, Some, cond, slice_index_or}
use Rattle.std.specs.Prelude.{not}
use Rattle.std.proofs.lemmas.Bool.{eq-eqb}
use Rattle.std.proofs.lemmas.List.{length-map}
use Rattle.surf_kinds.specs.declared.event.Event.{Event}
use Rattle.surf_kinds.specs.declared.event.Key.{Key}
use Rattle.surf_kinds.specs.declared.site.SiteState.{SiteState}
use Rattle.surf_kinds.specs.Keys.{is_before, key_of, at, below, from, AllKeys, ◌is_upto◌, ◌is_below◌}
use Rattle.surf_kinds.proofs.Order.{key_cases, lt_le, le_le, lt_to_le}
use Rattle.surf_kinds.proofs.Tables.{AllKeys_weaker, AllKeys_append, AllKeys_keep, AllKeys_kept}
use Rattle.lattice.specs.Surface.{first_surface}
use Rattle.plan.specs.Network.{Network}
use Rattle.plan.specs.Next.{next}
use Rattle.plan.specs.History.{if_at}
use Rattle.plan.proofs.LawLemmas.{offer_place}
use Rattle.regions.specs.Bands.{Bands, owner_of}
use Rattle.timeline.specs.declared.entry.Entry.{Entry}
use Rattle.timeline.specs.TimelineView.{events_of, entry_key, from as entries_from}
use Rattle.border.specs.Stacked.{StacksView, stack_of}
use Rattle.warp_core.specs.World.{World, is_own, after_all}
use Rattle.warp_core.specs.Messages.{ArePutsOf}
use Rattle.warp_core.specs.Timelines.{IsLocal}
use Rattle.warp_core.specs.Parts.{received_at, IsSound}
use Rattle.warp_core.proofs.LawLemmas.{at_from, cut, unwound, not_before_clock, is_world, is_monotone, same_after_all, sound_raised, events-from}
use Rattle.region_run.specs.declared.board.Board.{Board}
use Rattle.region_run.specs.declared.region.Region.{Region}
use Rattle.region_run.specs.declared.totals.Totals.{Totals}
use Rattle.region_run.specs.Sides.{SideView, is_other}
use Rattle.region_run.specs.Regions.{Base, world_at, stack_in, part_of, AreMarked, IsSited, IsRegion}
use Rattle.region_run.specs.Runs.{IsCommitted}
use Rattle.region_run.proofs.Absorbs.{puts_keep}
use Rattle.region_run.proofs.Boarding.{Forgot}

map_at : (k : Key) (xs : List (List Event)) (m : ℕ) → slice_index_or (map (from k) xs) m [] ≡ from k (slice_index_or xs m [])
map_at k [] zero = refl
map_at k [] (suc m) = refl
map_at k (x ∷ xs) zero = refl
map_at k (x ∷ xs) (suc m) = map_at k xs m

pub stack_from : (k : Key) (s t : StacksView) → t ≡ record { stacks = map (from k) s.stacks; spare = s.spare } → (m : ℕ) → stack_of t m ≡ from k (stack_of s m)
stack_from k s t is m = ap (λ (v : StacksView). stack_of v m) is ∙ map_at k s.stacks m

pub stacks_from : (k : Key) (first second : Option SideView) (s t : StacksView) → t ≡ record { stacks = map (from k) s.stacks; spare = s.spare } → (l : ℕ) → stack_in first second t l ≡ from k (stack_in first second s l)
stacks_from k first second s t is l = pick (is_other first l) (is_other second l)
  where
    pick : (p q : Bool) → cond p (stack_of t 0) (cond q (stack_of t 1) []) ≡ from k (cond p (stack_of s 0) (cond q (stack_of s 1) []))
    pick true q = stack_from k s t is 0
    pick false true = stack_from k s t is 1
    pick false false = refl

marked_from : (b : Bands) (id : ℕ) (k : Key) (es : List Entry) → AreMarked b id es → AreMarked b id (entries_from k es)
marked_from b id k [] m = tt
marked_from b id k (e ∷ es) m =
    elim (not (is_before (entry_key e) k)) as (λ t. AreMarked b id (cond t (e ∷ entries_from k es) (entries_from k es))) [ true ↦ (m.0, marked_from b id k es m.1) | false ↦ marked_from b id k es m.1 ]

-- a timeline is local also with other incoming events below the floor
local_from : (w : World) (mine : Key → Bool) (base : List SiteState) (floor : Key) (ins other : Key → Option Event) (clock : Key) (es : List Event) → ((k : Key) → floor is_upto k → ins k ≡ other k) → IsLocal w mine base floor ins clock es → IsLocal w mine base floor other clock es
local_from w mine base floor ins other clock es same l =
    record {
      rising = l.rising;
      span = l.span;
      each = λ k low high. l.each k low high ∙ ap (λ o. cond (mine k) (if_at k (w.next k.place.0 (after_all w base (below k es)))) o) (same k low);
    }

module _ (n : Network) (b : Bands) (until : ℕ) (x : Base) (key : Key) (r : Region) (board : Board) (stacks : StacksView) (totals : Totals) (g : IsRegion n b until x r) (low : x.floor is_upto key) (high : key is_upto r.clock)
    (f : Forgot n x.cells x.past x.surface key r.board board) (entries : board.timeline.entries ≡ entries_from key r.board.timeline.entries) (range : board.range ≡ r.board.range) (undoable : board.undoable ≡ r.board.undoable)
    (forgot : stacks ≡ record { stacks = map (from key) r.stacks.stacks; spare = r.stacks.spare }) where
  base_is : f.mid.sites ≡ after_all (world_at n b until x) x.surface.sites (below key (events_of r.board.timeline.entries))
  base_is = f.sites ∙ same_after_all n b until (first_surface x.cells) (below key (events_of r.board.timeline.entries)) x.surface.sites

  events_are : events_of board.timeline.entries ≡ from key (events_of r.board.timeline.entries)
  events_are = ap events_of entries ∙ events-from key r.board.timeline.entries

  -- no own place offers anything below the new floor
  fresh : (p : ℕ) (e : Event) → next n f.mid.sites p ≡ Some e → owner_of b p ≡ r.id → key is_upto key_of e
  fresh p e h mine =
      let w = world_at n b until x in
      let laws = is_world n b until (first_surface x.cells) g.cut g.lattice g.short in
      let mono = is_monotone n b until (first_surface x.cells) in
      let old = below key (events_of r.board.timeline.entries) in
      let place : e.place.0 ≡ p = offer_place n f.mid.sites p e h in
      let own_e : is_own w r.id (key_of e) ≡ true = eq-eqb (owner_of b e.place.0) r.id (ap (owner_of b) place ∙ mine) in
      let after : next n (after_all w x.surface.sites old) p ≡ Some e = ap (λ s. next n s p) (sym base_is) ∙ h in
      let local = cut w (is_own w r.id) x.surface.sites x.floor (received_at w (part_of r)) (received_at w (part_of r)) r.clock key (events_of r.board.timeline.entries) g.sound.local high (λ j u. refl) in
      let from_floor : x.floor is_upto key_of e =
      elim (key_cases (key_of e) x.floor) [
        | inr up ↦ up
        | inl down ↦ g.fresh p e
            (unwound w mono p e old x.surface.sites
            (AllKeys_weaker (λ k. (x.floor is_upto k) × (k is_below key)) (λ k. key_of e is_upto k) (λ k a. le_le (key_of e) x.floor k (lt_to_le (key_of e) x.floor down) a.0) old local.span) after) mine
      ] in
      not_before_clock w laws mono (is_own w r.id) x.surface.sites x.floor (received_at w (part_of r)) key old local p e after own_e from_floor

  part_sound : IsSound (world_at n b until x) f.mid.sites key r.id (part_of (record r { board = board; floor = key; stacks = stacks; totals = totals }))
  part_sound =
      let w = world_at n b until x in
      let s = subst (λ y. IsSound w y key r.id (record (part_of r) { timeline = from key (events_of r.board.timeline.entries) })) (sym base_is) (sound_raised w r.id x.surface.sites x.floor key (part_of r) low high g.sound) in
      record {
        low = s.low;
        high = s.high;
        local =
            subst (IsLocal w (is_own w r.id) f.mid.sites key (received_at w (part_of (record r { board = board; floor = key; stacks = stacks; totals = totals }))) r.clock) (sym events_are)
            (local_from w (is_own w r.id) f.mid.sites key (received_at w (part_of r)) (received_at w (part_of (record r { board = board; floor = key; stacks = stacks; totals = totals }))) r.clock (from key (events_of r.board.timeline.entries))
            (λ k u. sym (ap (at k) (stacks_from key r.first r.second r.stacks stacks forgot (owner_of b k.place.0)) ∙ at_from key k (stack_in r.first r.second r.stacks (owner_of b k.place.0)) u)) s.local);
      }

  pub committed : IsCommitted n b until x key r (record r { board = board; floor = key; stacks = stacks; totals = totals })
  committed =
      record {
        base_after = record { cells = x.cells; past = x.past ++ below key (events_of r.board.timeline.entries); surface = f.mid; floor = key };
        cells = refl;
        floor = refl;
        surface = base_is;
        timeline = events_are;
        clock = refl;
        stacks = stacks_from key r.first r.second r.stacks stacks forgot;
        region = record {
          floor = refl;
          cut = g.cut;
          lattice = g.lattice;
          short = g.short;
          inside = g.inside;
          sited = subst (λ q. IsSited b r.id q r.first r.second) (sym range) g.sited;
          alone = λ u. g.alone (sym undoable ∙ u);
          two = ap (λ (v : StacksView). length v.stacks) forgot ∙ (length-map r.stacks.stacks (from key) ∙ g.two);
          board = f.board;
          marked = subst (AreMarked b r.id) (sym entries) (marked_from b r.id key r.board.timeline.entries g.marked);
          past = AllKeys_append (λ k. k is_below key) x.past (below key (events_of r.board.timeline.entries))
              (AllKeys_weaker (λ k. k is_below x.floor) (λ k. k is_below key) (λ k u. lt_le k x.floor key u low) x.past g.past)
              (AllKeys_kept (λ k. is_before k key) (events_of r.board.timeline.entries));
          fresh = fresh;
          sound = part_sound;
          puts = λ l. subst (ArePutsOf (world_at n b until x) l r.id) (sym (stacks_from key r.first r.second r.stacks stacks forgot l)) (puts_keep (world_at n b until x) l r.id (λ k. not (is_before k key)) (stack_in r.first r.second r.stacks l) (g.puts l));
          from_first = subst (AllKeys (λ k. is_other r.first (owner_of b k.place.0) ≡ true)) (sym (stack_from key r.stacks stacks forgot 0)) (AllKeys_keep (λ k. is_other r.first (owner_of b k.place.0) ≡ true) (λ k. not (is_before k key)) (stack_of r.stacks 0) g.from_first);
          from_second = subst (AllKeys (λ k. is_other r.second (owner_of b k.place.0) ≡ true)) (sym (stack_from key r.stacks stacks forgot 1)) (AllKeys_keep (λ k. is_other r.second (owner_of b k.place.0) ≡ true) (λ k. not (is_before k key)) (stack_of r.stacks 1) g.from_second);
        };
      }
