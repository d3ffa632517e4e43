-- The regions of a crew, one by one.
use Rattle.std.proofs.Common.{◌≡◌, ◌≢◌, ◌⊎◌, ℕ, zero, suc, ◌<◌, ◌≤◌, inl, inr, Bool, true, false, List, [], ◌∷◌, length, refl, sym, ap, ◌∙◌, subst, arith, Option, Some, None, slice_index_or, cond, ◌==◌, if◌then◌else◌}
use Rattle.std.specs.Prelude.{slice_get, nat_lt}
use Rattle.std.proofs.lemmas.Bool.{cases_Bool, ltb-true, ltb-false}
use Rattle.std.proofs.lemmas.Bool.Decides.{eqb_tells}
use Rattle.std.proofs.lemmas.Option.{same_Some, slice_get_past, slice_get-get_or}
use Rattle.surf_kinds.specs.declared.event.Event.{Event}
use Rattle.lattice.specs.Surface.{first_surface}
use Rattle.surface_state.specs.SurfaceView.{SurfaceView}
use Rattle.border.specs.declared.op.Op.{Op}
use Rattle.warp_core.specs.World.{IsWorld}
use Rattle.warp_core.proofs.LawLemmas.{is_world}
use Rattle.region_run.specs.declared.region.Region.{Region}
use Rattle.region_run.specs.declared.side.Ends.{Ends}
use Rattle.region_run.specs.Channels.{AreTied}
use Rattle.region_run.specs.Sides.{received_by}
use Rattle.region_run.specs.Regions.{ends_with, line_to}
use Rattle.crew.specs.Crews.{CrewView, IsCrew, world_in, species_of, parts_of, lines_of, ends_of, got_of, part_if, line_if, ends_if}
use Rattle.crew.proofs.Fronts.{IsFront, received_front}
use Rattle.crew.proofs.Cores.{AreFronts}

pub member : (rs : List Region) (i : ℕ) → i < length rs → (r : Region) × (slice_get rs i ≡ Some r)
member [] i h = absurd (omega (arith, h))
member (r ∷ rs) zero h = (r, refl)
member (r ∷ rs) (suc i) h = member rs i (omega (arith, h))

-- a region that is there, or none
pub there : (rs : List Region) (i : ℕ) → ((r : Region) × (slice_get rs i ≡ Some r) × (i < length rs)) ⊎ ((slice_get rs i ≡ None) × (length rs ≤ i))
there rs i =
    elim (cases_Bool (nat_lt i (length rs))) [
      | inl p ↦ let h = ltb-true i (length rs) p in let m = member rs i h in inl (m.0, m.1, h)
      | inr p ↦ let h = ltb-false i (length rs) p in inr (slice_get_past rs i h, h)
    ]

pub laws : (v : CrewView) (past : ℕ → List Event) (base : ℕ → SurfaceView) → IsCrew v past base → IsWorld (world_in v)
laws v past base crew = is_world v.network v.bands v.until (first_surface (species_of v.start)) crew.cut crew.lattice crew.short

-- what was received is the front of what was put
pub fronts : (rs : List Region) → ((i j : ℕ) → i ≢ j → AreTied (ends_of rs i j) (ends_of rs j i)) → AreFronts (lines_of rs) (got_of rs)
fronts rs ties j i n =
    elim (there rs j) [
      | inl m ↦
          subst (λ o. IsFront (got_of rs i j) (line_if o i)) (sym m.1)
          (received_front m.0 i (ends_of rs i j) (subst (λ o. AreTied (ends_if o i) (ends_of rs i j)) m.1 (ties j i n)))
      | inr m ↦
          subst (λ o. IsFront (got_of rs i j) (line_if o i)) (sym m.0)
          (none (ends_of rs i j) (subst (λ o. AreTied (ends_if o i) (ends_of rs i j)) m.0 (ties j i n)))
    ]
  where
    none : (f : Option Ends) → AreTied None f → IsFront (received_by f) []
    none None t = ([], refl)
    none (Some f) t = absurd t
