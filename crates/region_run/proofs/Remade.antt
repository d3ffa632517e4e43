-- A region of which some fields are others.
use Rattle.std.proofs.Common.{◌≡◌, ℕ, ◌<◌, ◌≤◌, true, false, length, refl, sym, ◌∙◌, subst}
use Rattle.surf_kinds.specs.declared.event.Key.{Key}
use Rattle.surf_kinds.specs.Keys.{AllKeys}
use Rattle.plan.specs.Network.{Network}
use Rattle.regions.specs.Bands.{Bands, owner_of}
use Rattle.border.specs.Stacked.{stack_of}
use Rattle.warp_core.specs.Messages.{ArePutsOf}
use Rattle.warp_core.specs.Parts.{IsSound}
use Rattle.region_run.specs.declared.region.Region.{Region}
use Rattle.region_run.specs.declared.totals.Totals.{Totals}
use Rattle.region_run.specs.Boards.{IsBoard}
use Rattle.region_run.specs.Sides.{is_other}
use Rattle.region_run.specs.Regions.{Base, world_at, stack_in, part_of, AreMarked, IsSited, IsRegion}

-- what holds of a region beside what its number and its floor alone say
pub record Rest (n : Network) (b : Bands) (until : ℕ) (x : Base) (r : Region) : Type 0 where
  pub sited : IsSited b r.id r.board.range r.first r.second
  pub alone : r.board.undoable ≡ false → b.count ≤ 1
  pub two : length r.stacks.stacks ≡ 2
  pub board : IsBoard n x.cells x.past x.surface x.floor r.board
  pub marked : AreMarked b r.id r.board.timeline.entries
  pub sound : IsSound (world_at n b until x) x.surface.sites x.floor r.id (part_of r)
  pub puts : (l : ℕ) → ArePutsOf (world_at n b until x) l r.id (stack_in r.first r.second r.stacks l)
  pub from_first : AllKeys (λ k. is_other r.first (owner_of b k.place.0) ≡ true) (stack_of r.stacks 0)
  pub from_second : AllKeys (λ k. is_other r.second (owner_of b k.place.0) ≡ true) (stack_of r.stacks 1)

module _ (n : Network) (b : Bands) (until : ℕ) (x : Base) (r : Region) (g : IsRegion n b until x r) where
  -- a region of the same number and floor
  pub remade : (new : Region) → new.id ≡ r.id → new.floor ≡ r.floor → Rest n b until x new → IsRegion n b until x new
  remade new id floor h =
      record {
        floor = floor ∙ g.floor;
        cut = g.cut;
        lattice = g.lattice;
        short = g.short;
        inside = subst (λ i. i < b.count) (sym id) g.inside;
        sited = h.sited;
        alone = h.alone;
        two = h.two;
        board = h.board;
        marked = h.marked;
        past = g.past;
        fresh = λ p e is own. g.fresh p e is (own ∙ id);
        sound = h.sound;
        puts = h.puts;
        from_first = h.from_first;
        from_second = h.from_second;
      }

  -- another clock, for which the part is sound, and other totals
  pub clocked : (clock : Key) (totals : Totals) → IsSound (world_at n b until x) x.surface.sites x.floor r.id (record (part_of r) { clock = clock }) → IsRegion n b until x (record r { clock = clock; totals = totals })
  clocked clock totals sound =
      remade (record r { clock = clock; totals = totals }) refl refl
      (record { sited = g.sited; alone = g.alone; two = g.two; board = g.board; marked = g.marked; sound = sound; puts = g.puts; from_first = g.from_first; from_second = g.from_second })

  -- other totals
  pub counted : (totals : Totals) → IsRegion n b until x (record r { totals = totals })
  counted totals = clocked r.clock totals g.sound
