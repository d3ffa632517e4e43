-- A board after an event, after an undo, and after entries were forgotten.
use Rattle.std.proofs.Common.{◌≡◌, ℕ, true, List, [], ◌∷◌, ◌++◌, sym, ap, ◌∙◌, subst, arith}
use Rattle.std.specs.Prelude.{not, filter, slice_get}
use Rattle.surf_kinds.specs.declared.event.Event.{Event}
use Rattle.surf_kinds.specs.declared.event.Key.{Key}
use Rattle.surf_kinds.specs.declared.site.SpeciesId.{SpeciesId}
use Rattle.surf_kinds.specs.declared.site.SiteState.{SiteState}
use Rattle.surf_kinds.specs.Keys.{is_before, key_of, AllKeys, below, from, ◌is_upto◌, ◌is_below◌}
use Rattle.lattice.specs.Ranges.{is_in_range}
use Rattle.lattice.specs.Places.{HasSite}
use Rattle.lattice.specs.Surface.{after_all}
use Rattle.lattice.specs.declared.place_range.PlaceRange.{PlaceRange}
use Rattle.plan.specs.Network.{Network}
use Rattle.plan.specs.Next.{next}
use Rattle.plan.specs.Sharing.{ShareSite}
use Rattle.plan.proofs.LawLemmas.{after_elsewhere}
use Rattle.event_queue.specs.QueueView.{QueueView}
use Rattle.next_events.specs.Entries.{CoversRange, AreUpToDate, IsRefreshed}
use Rattle.next_events.proofs.LawLemmas.{up_to_date_after}
use Rattle.surface_state.specs.SurfaceView.{SurfaceView}
use Rattle.timeline.specs.declared.entry.Entry.{Entry}
use Rattle.timeline.specs.TimelineView.{events_of, below as entries_below, from as entries_from}
use Rattle.timeline.specs.Led.{LedTo}
use Rattle.warp_core.specs.Grounds.{IsGround, IsStepBy}
use Rattle.warp_core.proofs.LawLemmas.{ground_sites, cut_ground, drop_ground, events-append, events-below, events-from, rising_right, all_right}
use Rattle.region_run.specs.declared.board.Board.{Board}
use Rattle.region_run.specs.Boards.{IsBoard, GoesBack, IsChange, AllChanges, AreInOrder, AreNoted, ArePutBack}
use Rattle.region_run.proofs.Trail.{back_applied, back_cut, back_entry, back_forgotten, each_weaker}
use Rattle.std.specs.Prelude.{IfSome}

pub covers_after : (n : Network) (sites : List SiteState) (r : PlaceRange) (A : ℕ → Type 0) (q q' : QueueView) → IsRefreshed n sites (is_in_range r) A q q' → CoversRange r q → CoversRange r q'
covers_after n sites r A q q' f c = record { first = f.first ∙ c.first; end = omega (arith, f.first, f.count, c.end) }

-- a step changes the sites of its place alone
step_same : (n : Network) (s now : SurfaceView) (e : Entry) → IsStepBy n s e now → (k : ℕ) → (HasSite n.lattice e.before.event.place.0 k → ⊥) → slice_get now.sites k ≡ slice_get s.sites k
step_same n s now e step k apart = ap (λ (x : SurfaceView). slice_get x.sites k) step.after ∙ after_elsewhere n.lattice n.rules s.sites e.before.event k apart

-- the board, before and after an entry for an event
pub board_applied : (n : Network) (cells : List SpeciesId) (past : List Event) (base : SurfaceView) (floor : Key) (b new : Board) (event : Event) (entry : Entry) → IsBoard n cells past base floor b → AllKeys (λ k. k is_below key_of event) (past ++ events_of b.timeline.entries)
    → entry.before.event ≡ event → new.timeline.entries ≡ b.timeline.entries ++ entry ∷ [] → IsStepBy n b.surface entry new.surface → IsGround n cells past base (b.timeline.entries ++ entry ∷ []) new.surface
    → new.range ≡ b.range → new.undoable ≡ b.undoable → (b.undoable ≡ true → AreNoted (key_of event) b.range b.queue (ShareSite n.lattice event.place.0) b.changes.items new.changes.items)
    → IsRefreshed n new.surface.sites (is_in_range b.range) (ShareSite n.lattice event.place.0) b.queue new.queue → IsBoard n cells past base floor new
board_applied n cells past base floor b new event entry good all is entries step ground range undoable noted f =
    let covers = covers_after n new.surface.sites b.range (ShareSite n.lattice event.place.0) b.queue new.queue f good.covers in
    let up : AreUpToDate n new.surface.sites (is_in_range b.range) new.queue =
    up_to_date_after n (is_in_range b.range) b.surface.sites new.surface.sites event.place.0 b.queue new.queue
    (λ k apart. step_same n b.surface new.surface entry step k (λ h. apart (subst (λ (y : Event). HasSite n.lattice y.place.0 k) is h))) good.up_to_date f in
    let events : events_of (b.timeline.entries ++ entry ∷ []) ≡ events_of b.timeline.entries ++ event ∷ [] = events-append b.timeline.entries (entry ∷ []) ∙ ap (λ y. events_of b.timeline.entries ++ y ∷ []) is in
    let sites : new.surface.sites ≡ after_all n.lattice n.rules base.sites (events_of b.timeline.entries ++ event ∷ []) = ground_sites n cells past base (b.timeline.entries ++ entry ∷ []) new.surface ground ∙ ap (after_all n.lattice n.rules base.sites) events in
    record {
      ground = subst (λ es. IsGround n cells past base es new.surface) (sym entries) ground;
      covers = subst (λ r. CoversRange r new.queue) (sym range) covers;
      up_to_date = subst (λ r. AreUpToDate n new.surface.sites (is_in_range r) new.queue) (sym range) up;
      back = λ u.
          let old : b.undoable ≡ true = sym undoable ∙ u in
          subst (λ es. GoesBack n base.sites floor es new.range new.changes.items new.queue) (sym (ap events_of entries ∙ events))
          (subst (λ r. GoesBack n base.sites floor (events_of b.timeline.entries ++ event ∷ []) r new.changes.items new.queue) (sym range)
          (back_applied n base.sites b.surface.sites new.surface.sites floor (events_of b.timeline.entries) event b.range b.changes.items new.changes.items b.queue new.queue
          (all_right (λ k. k is_below key_of event) past (events_of b.timeline.entries) all) sites good.covers covers (good.back old) (noted old) f up));
    }

-- the changes of a board are in order and at places of its range
pub board_order : (n : Network) (cells : List SpeciesId) (past : List Event) (base : SurfaceView) (floor : Key) (b : Board) → IsBoard n cells past base floor b → b.undoable ≡ true → AreInOrder b.changes.items
board_order n cells past base floor b good u = (good.back u).order

pub board_inside : (n : Network) (cells : List SpeciesId) (past : List Event) (base : SurfaceView) (floor : Key) (b : Board) → IsBoard n cells past base floor b → b.undoable ≡ true → AllChanges (λ c. (is_in_range b.range c.place.0 ≡ true) × IfSome c.was (λ e. e.place ≡ c.place)) b.changes.items
board_inside n cells past base floor b good u =
    each_weaker (IsChange b.range (events_of b.timeline.entries)) (λ c. (is_in_range b.range c.place.0 ≡ true) × IfSome c.was (λ e. e.place ≡ c.place)) (λ c i. (i.inside, i.event)) b.changes.items (good.back u).each

pub board_cut : (n : Network) (cells : List SpeciesId) (past : List Event) (base : SurfaceView) (floor key : Key) (b new : Board) → IsBoard n cells past base floor b → b.undoable ≡ true → floor is_upto key
    → new.timeline.entries ≡ entries_below key b.timeline.entries → ((stood : SurfaceView) → LedTo stood (entries_from key b.timeline.entries) b.surface → new.surface ≡ stood)
    → new.range ≡ b.range → new.undoable ≡ b.undoable → ArePutBack key b.range b.changes.items new.changes.items b.queue new.queue → AllChanges (λ c. c.at is_below key) new.changes.items → IsBoard n cells past base floor new
board_cut n cells past base floor key b new good u high entries stood range undoable back early =
    let ground = cut_ground n cells past base b.timeline.entries b.surface good.ground key new.surface stood in
    let events : events_of (entries_below key b.timeline.entries) ≡ below key (events_of b.timeline.entries) = events-below key b.timeline.entries in
    let sites : new.surface.sites ≡ after_all n.lattice n.rules base.sites (below key (events_of b.timeline.entries)) = ground_sites n cells past base (entries_below key b.timeline.entries) new.surface ground ∙ ap (after_all n.lattice n.rules base.sites) events in
    let up : AreUpToDate n new.surface.sites (is_in_range b.range) new.queue =
    λ p inside has. back_entry n base.sites floor key (events_of b.timeline.entries) b.range b.changes.items new.changes.items b.queue new.queue high (good.back u) back early p inside ∙ ap (λ s. next n s p) (sym sites) in
    record {
      ground = subst (λ es. IsGround n cells past base es new.surface) (sym entries) ground;
      covers = subst (λ r. CoversRange r new.queue) (sym range) back.covers;
      up_to_date = subst (λ r. AreUpToDate n new.surface.sites (is_in_range r) new.queue) (sym range) up;
      back = λ _.
          subst (λ es. GoesBack n base.sites floor es new.range new.changes.items new.queue) (sym (ap events_of entries ∙ events))
          (subst (λ r. GoesBack n base.sites floor (below key (events_of b.timeline.entries)) r new.changes.items new.queue) (sym range)
          (back_cut n base.sites floor key (events_of b.timeline.entries) b.range b.changes.items new.changes.items b.queue new.queue high (good.back u) back early));
    }

-- the base after the entries below a key were forgotten
pub record Forgot (n : Network) (cells : List SpeciesId) (past : List Event) (base : SurfaceView) (key : Key) (b new : Board) : Type 0 where
  pub mid : SurfaceView
  pub board : IsBoard n cells (past ++ below key (events_of b.timeline.entries)) mid key new
  pub sites : mid.sites ≡ after_all n.lattice n.rules base.sites (below key (events_of b.timeline.entries))

pub board_forgot : (n : Network) (cells : List SpeciesId) (past : List Event) (base : SurfaceView) (floor key : Key) (b new : Board) → IsBoard n cells past base floor b → floor is_upto key
    → new.timeline.entries ≡ entries_from key b.timeline.entries → new.surface ≡ b.surface → new.queue ≡ b.queue → new.range ≡ b.range → new.undoable ≡ b.undoable → new.changes.items ≡ filter (λ c. not (is_before c.at key)) b.changes.items → Forgot n cells past base key b new
board_forgot n cells past base floor key b new good high entries surface queue range undoable changes =
    let d = drop_ground n cells past base b.timeline.entries b.surface good.ground key in
    record {
      mid = d.0;
      board = record {
        ground = subst (λ es. IsGround n cells (past ++ below key (events_of b.timeline.entries)) d.0 es new.surface) (sym entries) (subst (λ s. IsGround n cells (past ++ below key (events_of b.timeline.entries)) d.0 (entries_from key b.timeline.entries) s) (sym surface) d.1);
        covers = subst (λ r. CoversRange r new.queue) (sym range) (subst (CoversRange b.range) (sym queue) good.covers);
        up_to_date = subst (λ r. AreUpToDate n new.surface.sites (is_in_range r) new.queue) (sym range) (subst (λ q. AreUpToDate n new.surface.sites (is_in_range b.range) q) (sym queue) (subst (λ (s : SurfaceView). AreUpToDate n s.sites (is_in_range b.range) b.queue) (sym surface) good.up_to_date));
        back = λ u.
            subst (λ es. GoesBack n d.0.sites key es new.range new.changes.items new.queue) (sym (ap events_of entries ∙ events-from key b.timeline.entries))
            (subst (λ r. GoesBack n d.0.sites key (from key (events_of b.timeline.entries)) r new.changes.items new.queue) (sym range)
            (subst (λ cs. GoesBack n d.0.sites key (from key (events_of b.timeline.entries)) b.range cs new.queue) (sym changes)
            (subst (λ q. GoesBack n d.0.sites key (from key (events_of b.timeline.entries)) b.range (filter (λ c. not (is_before c.at key)) b.changes.items) q) (sym queue)
            (back_forgotten n base.sites d.0.sites floor key (events_of b.timeline.entries) b.range b.changes.items b.queue (rising_right past (events_of b.timeline.entries) good.ground.rising) high d.2 (good.back (sym undoable ∙ u))))));
      };
      sites = d.2;
    }
