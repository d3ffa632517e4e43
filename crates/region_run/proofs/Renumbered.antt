-- A region whose neighbours have the same numbers.
use Rattle.std.proofs.Common.{◌≡◌, ℕ, ◌==◌, true, inl, inr, [], refl, sym, ap, ◌∙◌, subst, Option, Some, None, cond}
use Rattle.surf_kinds.proofs.Tables.{AllKeys_weaker}
use Rattle.plan.specs.Network.{Network}
use Rattle.regions.specs.Bands.{Bands, owner_of}
use Rattle.border.specs.declared.op.Op.{Op}
use Rattle.border.specs.Stacked.{StacksView, stack_of}
use Rattle.warp_core.specs.Messages.{ArePutsOf}
use Rattle.warp_core.specs.Parts.{IsSound}
use Rattle.region_run.specs.declared.region.Region.{Region}
use Rattle.region_run.specs.Sides.{SideView, is_other, Asked}
use Rattle.region_run.specs.Regions.{Base, world_at, stack_in, part_of, IsSited, IsRegion}
use Rattle.region_run.proofs.Remade.{remade}
use Rattle.region_run.proofs.Applies.{same_part}

-- the stacks are those of the same numbers
pub stacks_still : (first second first' second' : Option SideView) (s : StacksView) → ((l : ℕ) → is_other first' l ≡ is_other first l) → ((l : ℕ) → is_other second' l ≡ is_other second l) → stack_in first' second' s ≡ stack_in first second s
stacks_still first second first' second' s same1 same2 = λ i l. at l i
  where
    at : (l : ℕ) → stack_in first' second' s l ≡ stack_in first second s l
    at l =
        ap (λ t. cond t (stack_of s 0) (cond (is_other second' l) (stack_of s 1) [])) (same1 l)
        ∙ ap (λ t. cond (is_other first l) (stack_of s 0) (cond t (stack_of s 1) [])) (same2 l)

module _ (n : Network) (b : Bands) (until : ℕ) (x : Base) (r : Region) (first second : Option SideView) (same1 : (l : ℕ) → is_other first l ≡ is_other r.first l) (same2 : (l : ℕ) → is_other second l ≡ is_other r.second l) where
  stacks_same : stack_in first second r.stacks ≡ stack_in r.first r.second r.stacks
  stacks_same = stacks_still r.first r.second first second r.stacks same1 same2

  pub same_parts : part_of (record r { first = first; second = second }) ≡ part_of r
  same_parts = same_part (part_of (record r { first = first; second = second })) (part_of r) refl refl stacks_same

  sited : IsSited b r.id r.board.range r.first r.second → IsSited b r.id r.board.range first second
  sited s =
      record {
        own = s.own;
        near = λ l p o t. elim (s.near l p o t) [ inl q ↦ inl (same1 l ∙ q) | inr q ↦ inr (same2 l ∙ q) ];
        from = λ p t. elim (s.from p t) [ inl q ↦ inl (same1 (owner_of b p) ∙ q) | inr q ↦ inr (same2 (owner_of b p) ∙ q) ];
        below = λ l h. s.below l (elim h [ inl q ↦ inl (sym (same1 l) ∙ q) | inr q ↦ inr (sym (same2 l) ∙ q) ]);
        apart = λ l h. same2 l ∙ s.apart l (sym (same1 l) ∙ h);
        not_first = same1 r.id ∙ s.not_first;
        not_second = same2 r.id ∙ s.not_second;
      }

  pub renumbered : IsRegion n b until x r → IsRegion n b until x (record r { first = first; second = second })
  renumbered g =
      remade n b until x r g (record r { first = first; second = second }) refl refl
      (record {
        sited = sited g.sited;
        alone = g.alone;
        two = g.two;
        board = g.board;
        marked = g.marked;
        sound = subst (IsSound (world_at n b until x) x.surface.sites x.floor r.id) (sym same_parts) g.sound;
        puts = λ l. subst (λ f. ArePutsOf (world_at n b until x) l r.id (f l)) (sym stacks_same) (g.puts l);
        from_first = AllKeys_weaker (λ k. is_other r.first (owner_of b k.place.0) ≡ true) (λ k. is_other first (owner_of b k.place.0) ≡ true) (λ k q. same1 (owner_of b k.place.0) ∙ q) (stack_of r.stacks 0) g.from_first;
        from_second = AllKeys_weaker (λ k. is_other r.second (owner_of b k.place.0) ≡ true) (λ k. is_other second (owner_of b k.place.0) ≡ true) (λ k q. same2 (owner_of b k.place.0) ∙ q) (stack_of r.stacks 1) g.from_second;
      })

pub asked_other : (o t : Option SideView) (op : Option Op) → Asked o op t → (l : ℕ) → is_other t l ≡ is_other o l
asked_other None None op a l = refl
asked_other None (Some t) op a l = absurd a
asked_other (Some s) None op a l = absurd a
asked_other (Some s) (Some t) op a l = ap (λ (v : SideView). v.other == l) a.rest
