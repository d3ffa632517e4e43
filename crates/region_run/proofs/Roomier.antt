-- A region with more room, or with rings.
use Rattle.std.proofs.Common.{◌≡◌, ℕ, ◌==◌, true, List, [], refl, sym, ap, ◌∙◌, subst, Option, Some, None, cond, length, slice_index_or}
use Rattle.surf_kinds.specs.declared.event.Event.{Event}
use Rattle.surf_kinds.specs.declared.event.Key.{Key}
use Rattle.surf_kinds.specs.declared.site.SpeciesId.{SpeciesId}
use Rattle.surf_kinds.specs.Keys.{AllKeys}
use Rattle.plan.specs.Network.{Network}
use Rattle.regions.specs.Bands.{Bands, owner_of}
use Rattle.surface_state.specs.SurfaceView.{SurfaceView}
use Rattle.timeline.specs.TimelineView.{events_of}
use Rattle.border.specs.Stacked.{StacksView}
use Rattle.warp_core.specs.Grounds.{IsGround}
use Rattle.warp_core.specs.Messages.{ArePutsOf}
use Rattle.warp_core.specs.Parts.{IsSound}
use Rattle.region_run.specs.declared.board.Board.{Board}
use Rattle.region_run.specs.declared.region.Region.{Region}
use Rattle.region_run.specs.declared.side.Ends.{Ends}
use Rattle.region_run.specs.Boards.{IsBoard, GoesBack}
use Rattle.region_run.specs.Sides.{SideView, is_other}
use Rattle.region_run.specs.Regions.{Base, world_at, stack_in, part_of, AreMarked, IsSited, IsRegion}
use Rattle.region_run.specs.Starts.{SameButRoom}
use Rattle.region_run.specs.Turns.{IsGiven}
use Rattle.region_run.proofs.Remade.{remade}
use Rattle.region_run.proofs.Applies.{same_part}
use Rattle.region_run.proofs.Renumbered.{renumbered}

pub roomy_other : (o t : Option SideView) → SameButRoom o t → (l : ℕ) → is_other t l ≡ is_other o l
roomy_other None None s l = refl
roomy_other None (Some t) s l = absurd s
roomy_other (Some o) None s l = absurd s
roomy_other (Some o) (Some t) s l = ap (λ (v : SideView). v.other == l) s.0

pub given_other : (o t : Option SideView) (e : Ends) → IsGiven o e t → (l : ℕ) → is_other t l ≡ is_other o l
given_other None None e g l = refl
given_other None (Some t) e g l = absurd g
given_other (Some s) None e g l = absurd g
given_other (Some s) (Some t) e g l = ap (λ (v : SideView). v.other == l) g

board_same : (n : Network) (cells : List SpeciesId) (past : List Event) (base : SurfaceView) (floor : Key) (b new : Board) → new ≡ record b { timeline = new.timeline; changes = new.changes } → new.timeline.entries ≡ b.timeline.entries → new.changes.items ≡ b.changes.items → IsBoard n cells past base floor b → IsBoard n cells past base floor new
board_same n cells past base floor b new same entries items g =
    subst (IsBoard n cells past base floor) (sym same) (record {
      ground = subst (λ es. IsGround n cells past base es b.surface) (sym entries) g.ground;
      covers = g.covers;
      up_to_date = g.up_to_date;
      back = λ u. subst (λ es. GoesBack n base.sites floor (events_of es) b.range new.changes.items b.queue) (sym entries) (subst (λ cs. GoesBack n base.sites floor (events_of b.timeline.entries) b.range cs b.queue) (sym items) (g.back u));
    })

module _ (n : Network) (b : Bands) (until : ℕ) (x : Base) (r : Region) (board : Board) (stacks : StacksView) (same : board ≡ record r.board { timeline = board.timeline; changes = board.changes }) (entries : board.timeline.entries ≡ r.board.timeline.entries)
    (items : board.changes.items ≡ r.board.changes.items) (same_stacks : stacks.stacks ≡ r.stacks.stacks) where
  stack_same : stack_in r.first r.second stacks ≡ stack_in r.first r.second r.stacks
  stack_same = λ i l. at l i
    where
      at : (l : ℕ) → stack_in r.first r.second stacks l ≡ stack_in r.first r.second r.stacks l
      at l = ap (λ xs. cond (is_other r.first l) (slice_index_or xs 0 []) (cond (is_other r.second l) (slice_index_or xs 1 []) [])) same_stacks

  parts : part_of (record r { board = board; stacks = stacks }) ≡ part_of r
  parts = same_part (part_of (record r { board = board; stacks = stacks })) (part_of r) (ap events_of entries) refl stack_same

  roomed : IsRegion n b until x r → IsRegion n b until x (record r { board = board; stacks = stacks })
  roomed g =
      remade n b until x r g (record r { board = board; stacks = stacks }) refl refl
      (record {
        sited = subst (λ q. IsSited b r.id q r.first r.second) (sym (ap (λ (y : Board). y.range) same)) g.sited;
        alone = λ u. g.alone (sym (ap (λ (y : Board). y.undoable) same) ∙ u);
        two = ap length same_stacks ∙ g.two;
        board = board_same n x.cells x.past x.surface x.floor r.board board same entries items g.board;
        marked = subst (AreMarked b r.id) (sym entries) g.marked;
        sound = subst (IsSound (world_at n b until x) x.surface.sites x.floor r.id) (sym parts) g.sound;
        puts = λ l. subst (λ f. ArePutsOf (world_at n b until x) l r.id (f l)) (sym stack_same) (g.puts l);
        from_first = subst (λ xs. AllKeys (λ k. is_other r.first (owner_of b k.place.0) ≡ true) (slice_index_or xs 0 [])) (sym same_stacks) g.from_first;
        from_second = subst (λ xs. AllKeys (λ k. is_other r.second (owner_of b k.place.0) ≡ true) (slice_index_or xs 1 [])) (sym same_stacks) g.from_second;
      })

  -- with more room it is a region still
  pub roomier : (first second : Option SideView) → ((l : ℕ) → is_other first l ≡ is_other r.first l) → ((l : ℕ) → is_other second l ≡ is_other r.second l) → IsRegion n b until x r → IsRegion n b until x (record r { board = board; stacks = stacks; first = first; second = second })
  roomier first second n1 n2 g = renumbered n b until x (record r { board = board; stacks = stacks }) first second n1 n2 (roomed g)
