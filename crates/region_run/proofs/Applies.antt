-- A region that applies its next entry.
use Rattle.std.proofs.Common.{◌≡◌, ℕ, ◌+◌, ◌-◌, ◌*◌, ◌^◌, ◌<◌, ◌≤◌, true, ◌==◌, ◌⊎◌, inl, inr, List, [], ◌∷◌, ◌++◌, refl, sym, ap, ◌∙◌, subst, arith, append-nil, Option, Some, None, cond}
use Rattle.std.specs.Prelude.{IsSome}
use Rattle.std.proofs.lemmas.Bool.{cases_Bool, false≢true}
use Rattle.surf_kinds.specs.declared.event.Event.{Event}
use Rattle.surf_kinds.specs.declared.event.Key.{Key}
use Rattle.surf_kinds.specs.declared.site.Sites.{Sites}
use Rattle.surf_kinds.specs.Keys.{key_of, key_after, at, AllKeys, ◌is_upto◌, ◌is_below◌}
use Rattle.surf_kinds.specs.Steps.{end_of_places}
use Rattle.surf_kinds.proofs.Order.{lt_le, le_le}
use Rattle.surf_kinds.proofs.Tables.{AllKeys_weaker, AllKeys_append}
use Rattle.lattice.specs.Shape.{Shape}
use Rattle.lattice.specs.Places.{sites_of, IsPlace}
use Rattle.lattice.specs.Surface.{first_surface}
use Rattle.lattice.proofs.LawLemmas.{place_below}
use Rattle.plan.specs.Network.{Network}
use Rattle.plan.specs.History.{if_at}
use Rattle.plan.specs.Products.{fits_place}
use Rattle.plan.proofs.LawLemmas.{fits_is_place}
use Rattle.regions.specs.Bands.{Bands, owner_of}
use Rattle.timeline.specs.declared.entry.Entry.{Entry}
use Rattle.timeline.specs.TimelineView.{events_of}
use Rattle.border.specs.Stacked.{stack_of}
use Rattle.warp_core.specs.World.{IsWorld, is_own, after_all}
use Rattle.warp_core.specs.Messages.{ArePutsOf}
use Rattle.warp_core.specs.Grounds.{IsTimely}
use Rattle.warp_core.specs.Parts.{Part, PartStep, IsNextEntry, HasNoEntry, received_at, with_entry, IsSound, MayStep, part_after, step_puts}
use Rattle.warp_core.proofs.LawLemmas.{next_is, applied_sound, ended_sound, is_world, puts_at, events-append}
use Rattle.region_run.specs.Boards.{IsBoard}
use Rattle.region_run.specs.declared.board.Board.{Board}
use Rattle.region_run.specs.declared.region.Region.{Region}
use Rattle.region_run.specs.Sides.{SideView, is_other, Gained, event_puts}
use Rattle.region_run.specs.Regions.{Base, world_at, stack_in, line_in, line_to, part_of, AreMarked, IsSited, IsRegion}
use Rattle.region_run.specs.Runs.{MakesStep}
use Rattle.region_run.proofs.Running.{makes_run}
use Rattle.region_run.proofs.Remade.{remade, clocked}
use Rattle.region_run.proofs.Sited.{other_same, lines_gained, stack_same, sited_still, tells_none}

pub same_part : (a b : Part) → a.timeline ≡ b.timeline → a.clock ≡ b.clock → a.stack ≡ b.stack → a ≡ b
same_part a b t c h = λ i. record { timeline = t i; clock = c i; stack = h i }

pub marked_more : (b : Bands) (id : ℕ) (es : List Entry) (e : Entry) → AreMarked b id es → e.own ≡ (owner_of b e.before.event.place.0 == id) → AreMarked b id (es ++ e ∷ [])
marked_more b id [] e m h = (h, tt)
marked_more b id (x ∷ es) e m h = (m.0, marked_more b id es e m.1 h)

-- a step of a region has the four facts of a run
pub makes : (n : Network) (b : Bands) (until : ℕ) (x : Base) (r new : Region) (step : PartStep) → IsRegion n b until x r → new.id ≡ r.id → MayStep (world_at n b until x) x.surface.sites r.id (part_of r) step
    → part_of new ≡ part_after (world_at n b until x) x.floor r.id (part_of r) step → ((l : ℕ) → line_to new l ≡ line_to r l ++ step_puts (world_at n b until x) x.floor r.id (part_of r) step l) → IsRegion n b until x new → MakesStep n b until x r step new
makes n b until x r new step g id may part puts good =
    let run = makes_run n b until x r new (step ∷ []) g id (may, tt) part (λ l. puts l ∙ ap (λ t. line_to r l ++ t) (sym (append-nil (step_puts (world_at n b until x) x.floor r.id (part_of r) step l)))) good in
    record { id = id; may = may; part = part; puts = puts; facts = run.facts; region = good }

-- what is known of an event that is applied next
pub record Known (n : Network) (past : List Event) (es : List Event) (e : Event) : Type 0 where
  pub fits : fits_place n e.place.0 e.channel ≡ true
  pub timely : IsTimely (key_of e)
  pub below : AllKeys (λ k. k is_below key_of e) (past ++ es)

place_within : (l : Shape) (place : ℕ) → IsPlace l place → place < end_of_places (l.rows * l.cols)
place_within l place h = let p = is_some (sites_of l place) h in place_below l place p.0 p.1
  where
    is_some : (o : Option Sites) → IsSome o → (p : Sites) × (o ≡ Some p)
    is_some None g = absurd (false≢true g)
    is_some (Some p) g = (p, refl)

module _ (n : Network) (b : Bands) (until : ℕ) (x : Base) (r : Region) (e : Event) (g : IsRegion n b until x r) (h : IsNextEntry (world_at n b until x) x.surface.sites r.id (part_of r) e) where
  laws : IsWorld (world_at n b until x)
  laws = is_world n b until (first_surface x.cells) g.cut g.lattice g.short

  below : AllKeys (λ k. k is_below key_of e) (x.past ++ events_of r.board.timeline.entries)
  below =
      AllKeys_append (λ k. k is_below key_of e) x.past (events_of r.board.timeline.entries)
      (AllKeys_weaker (λ k. k is_below x.floor) (λ k. k is_below key_of e) (λ k u. lt_le k x.floor (key_of e) u (le_le x.floor r.clock (key_of e) g.sound.low h.later)) x.past g.past)
      (AllKeys_weaker (λ k. (x.floor is_upto k) × (k is_below r.clock)) (λ k. k is_below key_of e) (λ k u. lt_le k r.clock (key_of e) u.1 h.later) (events_of r.board.timeline.entries) g.sound.local.span)

  pub known : Known n x.past (events_of r.board.timeline.entries) e
  known =
      elim (cases_Bool (is_own (world_at n b until x) r.id (key_of e))) [
        | inl mine ↦
            let sites = after_all (world_at n b until x) x.surface.sites (events_of r.board.timeline.entries) in
            let is = next_is (world_at n b until x) (is_own (world_at n b until x) r.id) (received_at (world_at n b until x) (part_of r)) sites e mine h.here in
            record {
              fits = laws.fitting e.place.0 sites e is;
              timely = (laws.after_start e.place.0 sites e is, omega (arith, h.in_time, g.short));
              below = below;
            }
        | inr other ↦
            let sites = after_all (world_at n b until x) x.surface.sites (events_of r.board.timeline.entries) in
            let in_stack : at (key_of e) (stack_in r.first r.second r.stacks (owner_of b e.place.0)) ≡ Some e =
            sym (ap (λ t. cond t (if_at (key_of e) ((world_at n b until x).next e.place.0 sites)) (received_at (world_at n b until x) (part_of r) (key_of e))) other) ∙ h.here in
            let p = puts_at (world_at n b until x) (owner_of b e.place.0) r.id (key_of e) (stack_in r.first r.second r.stacks (owner_of b e.place.0)) e (g.puts (owner_of b e.place.0)) in_stack in
            record { fits = p.fits; timely = (p.early, p.late); below = below }
      ]

  pub place_is : IsPlace b.lattice e.place.0
  place_is = subst (λ l. IsPlace l e.place.0) (sym g.lattice) (fits_is_place n e.place.0 e.channel known.fits)

  pub place_small : e.place.0 < 2 ^ 64 - 1
  place_small =
      let small : b.lattice.rows * b.lattice.cols ≤ 2 ^ 20 = g.cut.size.at_most in
      omega (arith, place_within b.lattice e.place.0 place_is, small)

  module _ (board : Board) (clock : Key) (first second : Option SideView) (entry : Entry) (entries : board.timeline.entries ≡ r.board.timeline.entries ++ entry ∷ []) (event : entry.before.event ≡ e) (own : entry.own ≡ (owner_of b e.place.0 == r.id))
      (good : IsBoard n x.cells x.past x.surface x.floor board) (range : board.range ≡ r.board.range) (undoable : board.undoable ≡ r.board.undoable) (clock_is : clock ≡ key_after (key_of e))
      (gained1 : Gained r.first (event_puts b (owner_of b e.place.0 == r.id) e) first) (gained2 : Gained r.second (event_puts b (owner_of b e.place.0 == r.id) e) second) where
    events : events_of board.timeline.entries ≡ events_of r.board.timeline.entries ++ e ∷ []
    events = ap events_of entries ∙ (events-append r.board.timeline.entries (entry ∷ []) ∙ ap (λ y. events_of r.board.timeline.entries ++ y ∷ []) event)

    part_is : part_of (record r { board = board; clock = clock; first = first; second = second }) ≡ with_entry (part_of r) e
    part_is = same_part (part_of (record r { board = board; clock = clock; first = first; second = second })) (with_entry (part_of r) e) events clock_is
        (stack_same r.first r.second first second (event_puts b (owner_of b e.place.0 == r.id) e) gained1 gained2 r.stacks)

    pub region_is : IsRegion n b until x (record r { board = board; clock = clock; first = first; second = second })
    region_is =
        remade n b until x r g (record r { board = board; clock = clock; first = first; second = second }) refl refl
        (record {
          sited = subst (λ q. IsSited b r.id q first second) (sym range) (sited_still r.first r.second first second (event_puts b (owner_of b e.place.0 == r.id) e) gained1 gained2 b r.id r.board.range g.sited);
          alone = λ u. g.alone (sym undoable ∙ u);
          two = g.two;
          board = good;
          marked = subst (AreMarked b r.id) (sym entries) (marked_more b r.id r.board.timeline.entries entry g.marked (own ∙ ap (λ (y : Event). owner_of b y.place.0 == r.id) (sym event)));
          sound = subst (IsSound (world_at n b until x) x.surface.sites x.floor r.id) (sym part_is) (applied_sound (world_at n b until x) x.surface.sites x.floor r.id (part_of r) e g.sound h);
          puts = λ l. subst (λ f. ArePutsOf (world_at n b until x) l r.id (f l)) (sym (stack_same r.first r.second first second (event_puts b (owner_of b e.place.0 == r.id) e) gained1 gained2 r.stacks)) (g.puts l);
          from_first = AllKeys_weaker (λ k. is_other r.first (owner_of b k.place.0) ≡ true) (λ k. is_other first (owner_of b k.place.0) ≡ true) (λ k q. other_same r.first first (event_puts b (owner_of b e.place.0 == r.id) e) gained1 (owner_of b k.place.0) ∙ q) (stack_of r.stacks 0) g.from_first;
          from_second = AllKeys_weaker (λ k. is_other r.second (owner_of b k.place.0) ≡ true) (λ k. is_other second (owner_of b k.place.0) ≡ true) (λ k q. other_same r.second second (event_puts b (owner_of b e.place.0 == r.id) e) gained2 (owner_of b k.place.0) ∙ q) (stack_of r.stacks 1) g.from_second;
        })

    gains : (l : ℕ) → line_in first second l ≡ line_in r.first r.second l ++ event_puts b (owner_of b e.place.0 == r.id) e l
    gains = lines_gained r.first r.second first second (event_puts b (owner_of b e.place.0 == r.id) e) gained1 gained2 (tells_none b r.id r.board.range r.first r.second e (owner_of b e.place.0 == r.id) g.sited refl)

    pub steps : (MakesStep n b until x r (PartStep.Fires e) (record r { board = board; clock = clock; first = first; second = second }))
        ⊎ (MakesStep n b until x r (PartStep.Passes e) (record r { board = board; clock = clock; first = first; second = second }))
    steps =
        elim (cases_Bool (owner_of b e.place.0 == r.id)) [
          | inl q ↦ inl (makes n b until x r (record r { board = board; clock = clock; first = first; second = second }) (PartStep.Fires e) g refl (h, q) part_is
              (λ l. gains l ∙ ap (λ t. line_in r.first r.second l ++ event_puts b t e l) q) region_is)
          | inr q ↦ inr (makes n b until x r (record r { board = board; clock = clock; first = first; second = second }) (PartStep.Passes e) g refl (h, q) part_is
              (λ l. gains l ∙ ap (λ t. line_in r.first r.second l ++ event_puts b t e l) q) region_is)
        ]

-- nothing is left, and the region goes to the end
pub ended : (n : Network) (b : Bands) (until : ℕ) (x : Base) (r : Region) → IsRegion n b until x r → HasNoEntry (world_at n b until x) x.surface.sites r.id (part_of r)
    → MakesStep n b until x r PartStep.Ends (record r { clock = record { time = until + 1; place = record { 0 = 0 } } })
ended n b until x r g none =
    makes n b until x r (record r { clock = record { time = until + 1; place = record { 0 = 0 } } }) PartStep.Ends g refl none refl (λ l. sym (append-nil (line_in r.first r.second l)))
    (clocked n b until x r g (record { time = until + 1; place = record { 0 = 0 } }) r.totals (ended_sound (world_at n b until x) x.surface.sites x.floor r.id (part_of r) g.sound none))
